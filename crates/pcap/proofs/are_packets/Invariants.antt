-- `are_packets` meets its contract: the loop's invariant says that the packets that are left are sound exactly where all are.
use Prim.Native.Nat.{◌-◌, ◌≤◌}
use mathlib.Core.Path.{◌≡◌}
use lib.ListN.{length, drop}
use Rattle.pcap.specs.File.{rests_of, are_packets}
use Rattle.pcap.proofs.are_packets.Given as goal

abbrev pub invariant-loop-at : goal.invariant-loop-at
invariant-loop-at l = (l.at ≤ length l.s) × (are_packets l.form (rests_of l.form (drop l.at l.s)) ≡ are_packets l.form (rests_of l.form l.s))

abbrev pub decreases-loop-at : goal.decreases-loop-at
decreases-loop-at l = length l.s - l.at
