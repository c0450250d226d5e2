-- `u16_at` meets its contract: the number of two octets fits.
use native.Mathlib.Omega.{arith}
use Rattle.octets.proofs.Laws.{be_bound}
use Rattle.octets.proofs.u16_at.Goals as goal

pub overflow_cast-result : goal.overflow_cast-result
overflow_cast-result c =
    omega (arith, be_bound 2 c.args.s.now c.args.at (λ k. (c.type_inv.s k).fits), c.number.ensures)
