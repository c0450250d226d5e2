-- `is_ranked` meets its contract: what is left to look at is in rank exactly when the list is a ranked list.
use mathlib.Core.Path.{◌≡◌}
use lib.ListN.{length}
use Rattle.rank.specs.Ranked.{in_rank, is_ranked}
use Rattle.rank.proofs.is_ranked.Given as goal

abbrev pub invariant-loop-rest : goal.invariant-loop-rest
invariant-loop-rest l = in_rank l.rest ≡ is_ranked l.fn.r

abbrev pub decreases-loop-rest : goal.decreases-loop-rest
decreases-loop-rest l = length l.rest
