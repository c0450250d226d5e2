-- `walk::sound_suffix` meets its contract: along the walk neither the first break nor the first misfit nor the first
-- suffix changes.
use Prim.Native.Nat.{◌-◌, ◌≤◌}
use mathlib.Core.Path.{◌≡◌}
use lib.ListN.{length}
use Rattle.tlv.specs.Walk.{broken, first}
use Rattle.tlv.specs.Form.{suffix_at}
use Rattle.tlv.specs.Faults.{misfit}
use Rattle.tlv.proofs.FaultLaws.{first_so_far}
use Rattle.tlv.proofs.walk.sound_suffix.Given as goal

abbrev pub invariant-loop-at : goal.invariant-loop-at
invariant-loop-at l = (l.at ≤ length l.t) × (broken l.t l.at ≡ broken l.t 0) × (misfit l.magic l.t l.at ≡ misfit l.magic l.t 0) × (l.suffix ≤ length l.t)
    × (first_so_far (suffix_at l.magic l.t) l.t l.suffix l.at ≡ first (suffix_at l.magic l.t) l.t 0)

abbrev pub decreases-loop-at : goal.decreases-loop-at
decreases-loop-at l = length l.t - l.at
