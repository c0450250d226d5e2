-- `fill` meets its contract. The loop's invariant: inserting what is left into the list so far gives the whole.
-- a turn inserts one candidate
use Prim.Native.Nat.{◌≤◌}
use mathlib.Core.Path.{◌≡◌}
use lib.Seq.{slice}
use Rattle.rank.specs.Ranked.{insert_all}
use Rattle.candidate_words.specs.Runs.{run_of}
use Rattle.candidate_words.specs.Places.{list_of, Inside}
use Rattle.candidate_words.proofs.places.fill.Given as goal

abbrev pub invariant-loop-i : goal.invariant-loop-i
invariant-loop-i l = (l.from ≤ l.i) × (l.i ≤ l.to) × Inside l.run l.q × (insert_all (list_of l.run l.q) (slice l.i l.to (run_of l.run)) ≡ insert_all (list_of l.run l.initial.q) (slice l.from l.to (run_of l.run)))
