-- `judged` meets its contract: a block that is left is the first of those that are left, and is refused, or the others are read behind it.
use mathlib.Core.Path.{sym, ap, ◌∙◌}
use Rattle.std.proofs.lemmas.Result.{err_from_is_err_and}
use Rattle.std.specs.Slice.Iter.{chunks_rest}
use Rattle.playback.specs.Playback.{is_sound, blocks_in}
use Rattle.playback.proofs.Blocks.{blocks_end, blocks_more, replay_by, look_end, look_stop, look_more}
use Rattle.playback.proofs.judged.Goals as goal

pub returns-in_err-read : goal.returns-in_err-read
returns-in_err-read c =
    let l = c.loop-b in
    let b = c.in-Some.b.now in
    let left = chunks_rest c.next.new.self in
    let p = err_from_is_err_and c.from_residual.result c.from_residual.ensures.1 in
    rw (p.1, p.2)
    (sym (look_stop l.read b (blocks_in left) (ap is_sound (sym c.judge.ensures ∙ c.in_err-read.was)))
    ∙ sym (ap (replay_by l.read) (blocks_more _ b left _ l.invariant.0 c.in-Some.ensures.steps.1))
    ∙ l.invariant.1)

pub loop-b-preserved : goal.loop-b-preserved
loop-b-preserved c =
    let l = c.loop-b in
    let b = c.in-Some.b.now in
    let left = chunks_rest c.next.new.self in (
      c.in-Some.ensures.steps.0 ∙ l.invariant.0,
      sym (look_more l.read c.in_ok-read.read b (blocks_in left) (sym c.judge.ensures ∙ c.in_ok-read.was))
          ∙ sym (ap (replay_by l.read) (blocks_more _ b left _ l.invariant.0 c.in-Some.ensures.steps.1))
          ∙ l.invariant.1,
    )

pub returns : goal.returns
returns c =
    let l = c.loop-b in
    sym (look_end l.read) ∙ sym (ap (replay_by l.read) (blocks_end _ c.in-None.ensures.steps.1.0)) ∙ l.invariant.1
