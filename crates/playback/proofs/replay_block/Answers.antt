-- `replay_block` meets its contract: a block that is not sound leaves all as it was, else its messages are taken and the reader goes on.
use mathlib.Core.Path.{sym, ap, ◌∙◌}
use Rattle.std.proofs.lemmas.Result.{err_from_is_err_and}
use Rattle.playback.specs.Playback.{is_sound, reader_of}
use Rattle.playback.proofs.Blocks.{sound_laid, block_refused, block_done}
use Rattle.playback.proofs.replay_block.Goals as goal

pub returns-in_err-after : goal.returns-in_err-after
returns-in_err-after c =
    let a = c.args in
    let e = err_from_is_err_and c.from_residual.result c.from_residual.ensures.1 in
    let p = block_refused a.set a.reader.now a.words.now a.s.now (ap is_sound (sym c.judge.ensures ∙ c.in_err-after.was)) in
    record { answer = rw (e.1, e.2) p.0; words = p.1.0; reader = p.1.1 }

pub take_all-requires : goal.take_all-requires
take_all-requires c =
    (sound_laid (reader_of c.args.reader.now) c.args.s.now c.in_ok-after.after (sym c.judge.ensures ∙ c.in_ok-after.was)).0

pub returns : goal.returns
returns c =
    let a = c.args in
    let p = block_done a.set a.reader.now a.words.now a.s.now c.in_ok-after.after c.take_all.new.words (sym c.judge.ensures ∙ c.in_ok-after.was) c.take_all.ensures in
    record { answer = p.0; words = p.1.0; reader = p.1.1 }
