-- `reading::takes` meets its contract: by the checks, then by the type.
use Rattle.std.proofs.Common.{rules}
use mathlib.Core.Path.{sym, ◌∙◌}
use native.Mathlib.Omega.{arith}
use borrow.Author.Tests.{eq-eqb, ne_eqb}
use Rattle.message.proofs.Laws.{fixed_part}
use Rattle.refusal.specs.Choice.{refuse}
use Rattle.message.specs.Reading.{takes_of}
use Rattle.message.proofs.reading.takes.Goals as goal

pub returns-in_err-check : goal.returns-in_err-check
unfolding takes_of
returns-in_err-check c =
    rw (← c.check.ensures, c.in_err-check.was) (search rules)

pub bounds-s-0 : goal.bounds-s-0
bounds-s-0 c =
    omega (arith, (fixed_part _ _ (sym c.check.ensures ∙ c.in_ok-check.was)).0)

pub returns-then-s-kind : goal.returns-then-s-kind
unfolding refuse takes_of
returns-then-s-kind c =
    rw (← c.check.ensures, c.in_ok-check.was, eq-eqb _ _ c.if-s-kind.true)

pub returns-else-s-kind : goal.returns-else-s-kind
unfolding refuse takes_of
returns-else-s-kind c =
    rw (← c.check.ensures, c.in_ok-check.was, ne_eqb _ _ c.if-s-kind.false)
