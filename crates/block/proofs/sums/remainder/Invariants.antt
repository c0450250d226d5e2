-- The loop's invariant says that 256 times the sum so far and the words that are left leave by 65,535 what all words
-- leave, and that each four so far added less than 4,294,967,296.
use Prim.Native.Nat.{◌≤◌, ◌-◌, ◌+◌, ◌*◌, ◌%◌}
use mathlib.Core.Path.{◌≡◌}
use Rattle.block.specs.Check.{sum_from, sum_of}
use Rattle.block.proofs.sums.remainder.Given as goal

abbrev pub invariant-loop-k : goal.invariant-loop-k
invariant-loop-k l = (l.v ≤ 4294967295 * l.k) × ((256 * l.v + sum_from (256 - 2 * l.k) l.s (4 * l.k)) % 65535 ≡ sum_of l.s % 65535)
