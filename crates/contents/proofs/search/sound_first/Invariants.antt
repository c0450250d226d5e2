-- `search::sound_first` meets its contract: along the walk neither the first break nor the first misfit nor the first TLV that
-- passes the test changes.
use Prim.Native.Nat.{ℕ, ◌-◌, ◌≤◌}
use mathlib.Core.Bool.{Bool}
use mathlib.Core.Path.{◌≡◌}
use lib.ListN.{length}
use Rattle.tlv.specs.Walk.{broken, first}
use Rattle.tlv.specs.Form.{numbered}
use Rattle.tlv.specs.Faults.{misfit}
use Rattle.tlv.proofs.FaultLaws.{first_so_far}
use Rattle.contents.proofs.search.sound_first.Given as goal

abbrev pub invariant-loop-at : goal.invariant-loop-at
invariant-loop-at g l = (l.at ≤ length l.t) × (broken l.t l.at ≡ broken l.t 0) × (misfit l.magic l.t l.at ≡ misfit l.magic l.t 0) × (l.found ≤ length l.t)
    × ((test : ℕ → Bool) → ((p : ℕ) (b : Bool) → goal.F-post g l.passes p (numbered l.magic l.t p) b → b ≡ test p) → first_so_far test l.t l.found l.at ≡ first test l.t 0)

abbrev pub decreases-loop-at : goal.decreases-loop-at
decreases-loop-at g l = length l.t - l.at
