-- The loop's invariant says that the records that are left weigh, behind those that were weighed, what all weigh.
use Prim.Native.Nat.{◌+◌}
use mathlib.Core.Path.{◌≡◌}
use lib.ListN.{length}
use Rattle.block.specs.Layout.{entries_of}
use Rattle.exporting.specs.Exporting.{packets_of, weight_of}
use Rattle.exporting.proofs.Writable.{weight_by}
use Rattle.exporting.proofs.weigh.Given as goal

abbrev pub invariant-loop-r : goal.invariant-loop-r
invariant-loop-r l =
    (goal.iterator-loop-r).can_next l.r-iterator × (goal.iterator-loop-r).is_finite l.r-iterator
    × (l.total + length (packets_of l.r-iterator) ≡ length (packets_of (entries_of l.s)))
    × (weight_by l.total l.port l.r-iterator ≡ weight_of l.port (entries_of l.s))
