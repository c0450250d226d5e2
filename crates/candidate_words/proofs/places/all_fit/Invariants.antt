-- `all_fit` meets its contract. The loop's invariant: those passed fit.
-- the candidate of a turn that goes on fits
use Prim.Native.Nat.{ℕ, ◌≤◌, ◌<◌}
use Rattle.candidate_words.specs.Places.{Fit}
use Rattle.candidate_words.proofs.places.all_fit.Given as goal

abbrev pub invariant-loop-i : goal.invariant-loop-i
invariant-loop-i l = (l.from ≤ l.i) × (l.i ≤ l.to) × ((k : ℕ) → l.from ≤ k → k < l.i → Fit l.run k)
