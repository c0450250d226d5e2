-- `follow_says` meets its contract: by the checks, then by the match with the Sync.
use Rattle.std.proofs.Common.{rules}
use mathlib.Core.Path.{sym}
use native.Mathlib.Omega.{arith}
use Rattle.refusal.specs.Choice.{refuse}
use Rattle.origin.specs.Origin.{follow_check}
use Rattle.message.proofs.Laws.{taken}
use Rattle.origin.proofs.follow_says.Goals as goal

pub returns-in_err-takes : goal.returns-in_err-takes
unfolding follow_check
returns-in_err-takes c =
    rw (← c.in_err-takes.ensures) (search rules)

pub is_of-requires : goal.is_of-requires
is_of-requires c =
    (c.requires, omega (arith, (taken _ _ _ (sym c.in_ok-takes.ensures)).fixed))

pub returns-then-is_of : goal.returns-then-is_of
unfolding follow_check refuse
returns-then-is_of c =
    rw (← c.in_ok-takes.ensures, ← c.if-is_of.ensures)

pub returns-else-is_of : goal.returns-else-is_of
unfolding follow_check refuse
returns-else-is_of c =
    rw (← c.in_ok-takes.ensures, ← c.if-is_of.ensures)
