-- `checked` meets its contract. The loop's invariant: what is left of the run, and whether what came before it fits, decide.
use mathlib.Core.Path.{◌≡◌}
use lib.ListN.{drop}
use Rattle.candidate_words.specs.Places.{checked_of}
use Rattle.candidate_words.proofs.RunLaws.{so_far}
use Rattle.candidate_words.proofs.places.checked.Given as goal

abbrev pub invariant-loop-w : goal.invariant-loop-w
invariant-loop-w l = so_far l.whole (drop l.w-index l.run) ≡ checked_of l.run
