-- Of a port, the best alone counts: a collection with all of a port's candidates has the ranked list of the same
-- collection with the port's best in their place.
use Prim.Native.Nat.{ℕ}
use mathlib.Core.Path.{◌≡◌, refl, sym, ap, ap₂, ◌∙◌}
use mathlib.Core.List.{List, [], ◌∷◌, ◌++◌}
use lib.ListN.{take}
use borrow.Author.Tests.{eq-eqb}
use Rattle.rank.specs.declared.Candidate.{Candidate}
use Rattle.rank.specs.Order.{earlier_of}
use Rattle.rank.specs.Best.{better, best, sink}
use Rattle.rank.specs.Ranked.{receiver_of}
use Rattle.rank.proofs.Best.{All, cases, full, rank_merge}
use Rattle.rank.proofs.Order.{ordered}
use Rattle.rank.proofs.Merging.{R}

module _ (p : ℕ) where
  -- candidates of port p alone
  abbrev pub Own : List Candidate → Type 0
  Own s = All (λ x. x.port ≡ p) s

  -- and at most one
  abbrev pub One : List Candidate → Type 0
  One [] = Unit {0}
  One (x ∷ []) = x.port ≡ p
  One (x ∷ y ∷ l) = ⊥

  sink_better : (x : Candidate) (o : List Candidate) → One o → sink earlier_of receiver_of p x o ≡ better earlier_of receiver_of x o
  sink_better x [] h = refl
  sink_better x (y ∷ []) h = simp (eq-eqb y.port p h)
  sink_better x (y ∷ z ∷ l) h = absurd h

  one_better : (x : Candidate) (o : List Candidate) → x.port ≡ p → One o → One (better earlier_of receiver_of x o)
  one_better x [] e h = e
  one_better x (y ∷ []) e h = cases (earlier_of x y) (λ k. simp k e) (λ k. simp k h)
  one_better x (y ∷ z ∷ l) e h = absurd h

  pub one_best : (s : List Candidate) → Own s → One (best earlier_of receiver_of p s)
  one_best [] h = tt
  one_best (x ∷ xs) h =
      simp (eq-eqb x.port p h.0) (one_better x (best earlier_of receiver_of p xs) h.0 (one_best xs h.1))

  full_best : (s : List Candidate) → Own s → full earlier_of receiver_of s ≡ best earlier_of receiver_of p s
  full_best [] h = refl
  full_best (x ∷ xs) h =
      let b = best earlier_of receiver_of p xs in
      let e : better earlier_of receiver_of x b ≡ best earlier_of receiver_of p (x ∷ xs) = simp (eq-eqb x.port p h.0) in
      ap₂ (λ (k : ℕ) (l : List Candidate). sink earlier_of receiver_of k x l) h.0 (full_best xs h.1)
      ∙ sink_better x b (one_best xs h.1)
      ∙ e

  one_short : (o : List Candidate) → One o → take 4 o ≡ o
  one_short [] h = refl
  one_short (x ∷ []) h = refl
  one_short (x ∷ y ∷ l) h = absurd h

  one_self : (o : List Candidate) → One o → R o ≡ o
  one_self [] h = refl
  one_self (x ∷ []) h = refl
  one_self (x ∷ y ∷ l) h = absurd h

  -- THE RANKED LIST OF A PORT'S CANDIDATES IS ITS BEST, if it has any
  pub rank_best : (s : List Candidate) → Own s → R s ≡ best earlier_of receiver_of p s
  rank_best s h = ap (take 4) (full_best s h) ∙ one_short (best earlier_of receiver_of p s) (one_best s h)

  -- AND THE BEST IS ALL THAT COUNTS, whatever else there is
  pub best_counts : (s t : List Candidate) → Own s → R (s ++ t) ≡ R (best earlier_of receiver_of p s ++ t)
  best_counts s t h =
      let b = best earlier_of receiver_of p s in
      sym (rank_merge earlier_of receiver_of ordered 4 s t)
      ∙ ap (λ (l : List Candidate). R (l ++ R t)) (rank_best s h ∙ sym (one_self b (one_best s h)))
      ∙ rank_merge earlier_of receiver_of ordered 4 b t
