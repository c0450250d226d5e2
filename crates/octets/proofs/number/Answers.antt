-- `number` meets its contract: what is read of at most seven octets is below 256 ^ 7.
use Rattle.std.proofs.Common.{arith}
use Rattle.octets.proofs.Laws.{be_below}
use Rattle.octets.proofs.number.Goals as goal

pub overflow_mul-v : goal.overflow_mul-v
overflow_mul-v c =
    omega (arith, be_below 7 {n = c.loop-i.i} c.args.s.now c.args.at (omega arith) (λ k. (c.type_inv.s k).fits), c.loop-i.invariant)

pub overflow_add-v : goal.overflow_add-v
overflow_add-v c =
    omega (arith, be_below 7 {n = c.loop-i.i} c.args.s.now c.args.at (omega arith) (λ k. (c.type_inv.s k).fits), c.loop-i.invariant)
