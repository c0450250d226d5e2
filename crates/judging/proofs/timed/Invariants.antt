-- The loop's invariant says that the times of the records that are left, behind the last one, give what the times of all give.
use Rattle.std.proofs.Common.{◌≡◌}
use Rattle.block.specs.Layout.{entries_of}
use Rattle.judging.specs.Tests.{times_of}
use Rattle.judging.proofs.timed.Given as goal

abbrev pub invariant-loop-r : goal.invariant-loop-r
invariant-loop-r l =
    (goal.iterator-loop-r).can_next l.r-iterator × (goal.iterator-loop-r).is_finite l.r-iterator
    × (times_of l.t l.r-iterator ≡ times_of l.last (entries_of l.s))
