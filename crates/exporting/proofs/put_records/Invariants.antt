-- The loop's invariant says that the packets of the records that are left, put behind those that were put, give what all give.
use Prim.Native.Nat.{◌+◌}
use mathlib.Core.Path.{◌≡◌}
use lib.ListN.{length}
use Rattle.block.specs.Layout.{entries_of}
use Rattle.stores.specs.Stores.{over}
use Rattle.exporting.specs.Exporting.{packets_of}
use Rattle.exporting.proofs.put_records.Given as goal

abbrev pub invariant-loop-r : goal.invariant-loop-r
invariant-loop-r l =
    (goal.iterator-loop-r).can_next l.r-iterator × (goal.iterator-loop-r).is_finite l.r-iterator
    × (l.to + length (packets_of l.r-iterator) ≡ l.from + length (packets_of (entries_of l.s)))
    × (length l.out ≡ length l.initial.out)
    × (over l.out l.to (packets_of l.r-iterator) ≡ over l.initial.out l.from (packets_of (entries_of l.s)))
