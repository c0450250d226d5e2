-- `listed` meets its contract: what is left to look at has a place of the port exactly when all of it does.
use mathlib.Core.Path.{◌≡◌}
use lib.ListN.{drop}
use Rattle.election.specs.Places.{top_of, listed_in}
use Rattle.election.proofs.listed.Given as goal

abbrev pub invariant-loop-a : goal.invariant-loop-a
invariant-loop-a l = listed_in l.p (drop l.a-index (top_of l.fn.top)) ≡ listed_in l.p (top_of l.fn.top)
