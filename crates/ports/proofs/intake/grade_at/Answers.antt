-- `intake::grade_at` meets its contract: the six octets of the quality, then the two of stepsRemoved.
use native.Mathlib.Omega.{arith}
use Rattle.octets.proofs.Laws.{be_bound}
use Rattle.ports.proofs.Kept.{grade_is}
use Rattle.ports.proofs.intake.grade_at.Goals as goal

pub overflow_mul-result : goal.overflow_mul-result
overflow_mul-result c =
    omega (arith, be_bound 6 c.args.s.now 47 (λ j. (c.type_inv.s j).fits), c.u48_at.ensures)

pub overflow_add-result : goal.overflow_add-result
overflow_add-result c =
    let s = c.args.s.now in
    omega (arith, be_bound 6 s 47 (λ j. (c.type_inv.s j).fits), be_bound 2 s 61 (λ j. (c.type_inv.s j).fits), c.u48_at.ensures, c.u16_at.ensures)

pub returns : goal.returns
returns c =
    rw (c.u48_at.ensures, c.u16_at.ensures) (grade_is c.args.s.now)
