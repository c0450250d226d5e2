-- `times` meets its contract: the sum, and what is left of k times the unit, make up the product.
-- the last digit of what is left, and the rest of it twice
use Rattle.std.proofs.Common.{◌≡◌, ◌+◌, ◌*◌}
use Rattle.quotient.proofs.times.Given as goal

abbrev pub invariant-loop-left : goal.invariant-loop-left
invariant-loop-left l = l.sum + l.left * l.unit ≡ l.k * l.n

abbrev pub decreases-loop-left : goal.decreases-loop-left
decreases-loop-left l = l.left
