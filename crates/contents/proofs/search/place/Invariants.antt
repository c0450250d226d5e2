-- `search::place` meets its contract: what is left of the walk gives what the whole gives.
use Prim.Native.Nat.{◌-◌, ◌≤◌}
use mathlib.Core.Path.{◌≡◌}
use lib.ListN.{length}
use Rattle.tlv.specs.Walk.{first}
use Rattle.tlv.specs.Faults.{sought_at}
use Rattle.contents.proofs.search.place.Given as goal

abbrev pub invariant-loop-at : goal.invariant-loop-at
invariant-loop-at l = (l.at ≤ length l.t) × (first (sought_at l.what l.t) l.t l.at ≡ first (sought_at l.what l.t) l.t 0)

abbrev pub decreases-loop-at : goal.decreases-loop-at
decreases-loop-at l = length l.t - l.at
