-- `foresee` meets its contract: by what the checks answer.
use Rattle.std.specs.Prelude.{Ok}
use mathlib.Core.Path.{◌≡◌, sym, ◌∙◌}
use Rattle.recording.specs.Recording.{entry_of, record_check}
use Rattle.recording.proofs.Refusing.{done}
use Rattle.recording.proofs.foresee.Goals as goal

pub advance-requires : goal.advance-requires
advance-requires c =
    let e : record_check c.args.words.now (entry_of c.args.t c.args.port c.args.message.now) ≡ Ok tt = sym c.check.ensures ∙ c.in_ok-check.was in
    let d = done c.args.words.now (entry_of c.args.t c.args.port c.args.message.now) e in
    (d.short, d.place)
