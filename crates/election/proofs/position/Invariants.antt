-- `position` meets its contract: the places passed, and how many of those that are left it does not stand before, are all.
use Prim.Native.Nat.{◌+◌, ◌≤◌}
use mathlib.Core.Path.{◌≡◌}
use lib.ListN.{drop}
use Rattle.election.specs.Places.{top_of, rank_among}
use Rattle.election.proofs.position.Given as goal

abbrev pub invariant-loop-i : goal.invariant-loop-i
invariant-loop-i l = (l.i ≤ l.top.len) × (l.i + rank_among l.words l.a (drop l.i (top_of l.top)) ≡ rank_among l.words l.a (top_of l.top))
