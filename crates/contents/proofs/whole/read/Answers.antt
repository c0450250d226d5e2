-- `whole::read` meets its contract: what was accepted has its fixed part.
use Rattle.std.specs.Prelude.{Ok}
use Rattle.std.proofs.Common.{rules}
use mathlib.Core.Path.{sym}
use native.Mathlib.Omega.{arith}
use Rattle.message.specs.Reading.{read_of}
use Rattle.message.proofs.Laws.{fixed_part}
use Rattle.contents.proofs.whole.read.Goals as goal

pub returns-in_err-check : goal.returns-in_err-check
unfolding read_of
returns-in_err-check c =
    rw (← c.in_err-check.ensures) (search rules)

pub header_of-requires : goal.header_of-requires
header_of-requires c =
    let f = fixed_part _ _ (sym c.in_ok-check.ensures) in omega arith

pub body_of-requires : goal.body_of-requires
body_of-requires c =
    fixed_part _ _ (sym c.in_ok-check.ensures)

pub returns : goal.returns
unfolding read_of
returns c =
    rw (← c.in_ok-check.ensures) (λ i. Ok (record { header = c.header_of.ensures i; body = c.body_of.ensures i }))
