-- `origin_says` meets its contract: by the Sync, then by the two-step bit.
use Rattle.std.proofs.Common.{rules}
use mathlib.Core.Path.{sym}
use native.Mathlib.Omega.{arith}
use Rattle.origin.specs.Origin.{origin_check}
use Rattle.message.proofs.Laws.{taken}
use Rattle.origin.proofs.origin_says.Goals as goal

pub returns-in_err-takes : goal.returns-in_err-takes
unfolding origin_check
returns-in_err-takes c =
    rw (← c.in_err-takes.ensures) (search rules)

pub is_two_step-requires : goal.is_two_step-requires
is_two_step-requires c =
    omega (arith, (taken _ _ _ (sym c.in_ok-takes.ensures)).fixed)

pub follow_says-requires : goal.follow_says-requires
follow_says-requires c =
    omega (arith, (taken _ _ _ (sym c.in_ok-takes.ensures)).fixed)

pub returns-then-is_two_step : goal.returns-then-is_two_step
unfolding origin_check
returns-then-is_two_step c =
    rw (← c.in_ok-takes.ensures, ← c.if-is_two_step.ensures) c.follow_says.ensures

pub returns-else-is_two_step : goal.returns-else-is_two_step
unfolding origin_check
returns-else-is_two_step c =
    rw (← c.in_ok-takes.ensures, ← c.if-is_two_step.ensures)
