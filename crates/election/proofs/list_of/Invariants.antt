-- `list_of` meets its contract. The invariant: the candidates of the places passed lie in the first slots, and the others are blank.
use mathlib.Core.Path.{◌≡◌}
use mathlib.Core.List.{[], ◌++◌, map}
use lib.ListN.{take, drop}
use Rattle.rank.specs.Ranked.{pack}
use Rattle.ports.specs.Places.{candidate_at}
use Rattle.election.specs.Places.{top_of}
use Rattle.election.proofs.list_of.Given as goal

abbrev pub invariant-loop-i : goal.invariant-loop-i
invariant-loop-i l = (l.list.len ≡ l.top.len) × (l.list.slots ≡ take l.i (map (candidate_at l.words) (top_of l.top)) ++ drop l.i (pack []).slots)
