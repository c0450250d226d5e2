-- `admit` meets its contract: the port, the reading, then the judgement of what was read.
use mathlib.Core.Bool.{not}
use mathlib.Core.Path.{◌∙◌, ap}
use Rattle.std.proofs.lemmas.Result.{err_from_is_err_and}
use Rattle.refusal.proofs.Choice.{is_refused, is_passed}
use Rattle.ports.specs.Intake.{admitted_by}
use Rattle.ports.specs.Intake.{admitted_of}
use Rattle.ports.proofs.intake.admit.Goals as goal

pub returns-then-not-is_port : goal.returns-then-not-is_port
unfolding admitted_of
returns-then-not-is_port c =
    is_refused _ _ c.is_port.ensures _ _ (ap not c.if-not-is_port.true)

pub returns-in_err-read_announce : goal.returns-in_err-read_announce
unfolding admitted_of
returns-in_err-read_announce c =
    let p = err_from_is_err_and c.from_residual.result c.from_residual.ensures.1 in
    is_passed _ _ c.is_port.ensures _ _ (ap not c.if-not-is_port.false)
    (rw (p.1, p.2) (ap (admitted_by c.args.set) c.in_err-read_announce.ensures))

pub returns : goal.returns
unfolding admitted_of
returns c =
    is_passed _ _ c.is_port.ensures _ _ (ap not c.if-not-is_port.false)
    (c.judge.ensures ∙ ap (admitted_by c.args.set) c.in_ok-read_announce.ensures)
