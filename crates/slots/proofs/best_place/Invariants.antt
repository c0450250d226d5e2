-- `best_place` meets its contract: from the slot reached to the last, the best is the one whose place is held.
use mathlib.Core.Path.{◌≡◌}
use Prim.Native.Nat.{◌-◌}
use Rattle.slots.specs.Places.{place_among}
use Rattle.slots.proofs.best_place.Given as goal

abbrev pub invariant-loop-i : goal.invariant-loop-i
invariant-loop-i l = l.b ≡ place_among l.ws 0 l.begin (16 - l.i)
