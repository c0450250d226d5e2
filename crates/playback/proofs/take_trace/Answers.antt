-- `take_trace` meets its contract: a block that is left is the first of those that are left, and gives its records before the others.
use Prim.Native.Nat.{ℕ}
use mathlib.Core.List.{List}
use mathlib.Core.Path.{sym, ap, subst, ◌∙◌}
use Rattle.std.specs.Slice.Iter.{chunks_rest, chunks_size}
use Rattle.ports.specs.History.{run}
use Rattle.playback.specs.Playback.{calls_of, blocks_in, entries_of_all, fresh_reader}
use Rattle.playback.proofs.Blocks.{blocks_end, blocks_more, AllLaid, all_laid, block_taken}
use Rattle.playback.proofs.take_trace.Goals as goal

pub loop-s-init : goal.loop-s-init
loop-s-init c =
    let e = c.into_iter-s-iterator.ensures.into_iter_gives in
    let r = ap chunks_rest e ∙ c.chunks-s-items.ensures.rest in
    (ap chunks_size e ∙ c.chunks-s-items.ensures.size, rw r (all_laid fresh_reader (blocks_in c.args.trace.now) c.requires), rw r)

pub take_all-requires : goal.take_all-requires
take_all-requires c =
    let l = c.loop-s in
    (subst AllLaid (blocks_more _ c.in-Some.s.now _ _ l.invariant.0 c.in-Some.ensures.steps.1) l.invariant.1).0

pub loop-s-preserved : goal.loop-s-preserved
loop-s-preserved c =
    let l = c.loop-s in
    let m = blocks_more _ c.in-Some.s.now _ _ l.invariant.0 c.in-Some.ensures.steps.1 in (
      c.in-Some.ensures.steps.0 ∙ l.invariant.0,
      (subst AllLaid m l.invariant.1).1,
      block_taken c.args.set l.words c.take_all.new.words c.in-Some.s.now (blocks_in (chunks_rest c.next.new.self)) c.take_all.ensures
          ∙ ap (λ (bs : List (List ℕ)). run l.words (calls_of c.args.set (entries_of_all bs))) (sym m)
          ∙ l.invariant.2,
    )

pub returns : goal.returns
unfolding entries_of_all
returns c =
    let l = c.loop-s in
    ap (λ (bs : List (List ℕ)). run l.words (calls_of c.args.set (entries_of_all bs))) (sym (blocks_end _ c.in-None.ensures.steps.1.0))
    ∙ l.invariant.2
