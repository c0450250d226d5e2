-- `judge` meets its contract: the domain, then our own clock.
use Rattle.std.specs.Prelude.{Ok}
use borrow.Author.Tests.{eq-eqb, ne_eqb}
use mathlib.Core.Path.{ap}
use Rattle.refusal.specs.Choice.{refuse}
use Rattle.ports.proofs.intake.judge.Goals as goal

pub returns-then-header-set : goal.returns-then-header-set
unfolding refuse
returns-then-header-set c =
    rw (ne_eqb _ _ c.if-header-set.true)

pub returns-then-header-set-2 : goal.returns-then-header-set-2
unfolding refuse
returns-then-header-set-2 c =
    rw (eq-eqb _ _ c.if-header-set.false, eq-eqb _ _ c.if-header-set-2.true)

pub returns : goal.returns
unfolding refuse
returns c =
    rw (eq-eqb _ _ c.if-header-set.false, ne_eqb _ _ c.if-header-set-2.false) (ap Ok c.notice.ensures)
