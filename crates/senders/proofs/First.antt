-- Laws of `first`, the lowest slot that passes a test.
use Rattle.std.proofs.Common.{◌≡◌, ℕ, zero, suc, ◌<◌, Bool, true, false, List, [], ◌∷◌, length, get_or, refl, ap, suc-le-suc, zero-le, le_of_suc-le-suc, not-suc-le-zero}
use Rattle.refusal.specs.Choice.{pick}
use Rattle.senders.specs.declared.Record.{Record}
use Rattle.senders.specs.Port.{first}

module _ (test : Record → Bool) (d : Record) where
  -- where the slots before it fail and it passes, it is the first
  pub first_hit : (l : List Record) (i : ℕ) → ((k : ℕ) → k < i → test (get_or l k d) ≡ false) → i < length l → test (get_or l i d) ≡ true → first test l ≡ i
  unfolding first
  first_hit [] i miss h hit = absurd (not-suc-le-zero h)
  first_hit (r ∷ l) zero miss h hit = simp hit
  first_hit (r ∷ l) (suc i) miss h hit =
      simp (miss 0 (suc-le-suc zero-le)) (ap suc (first_hit l i (λ k g. miss (suc k) (suc-le-suc g)) (le_of_suc-le-suc h) hit))

  pub first_none : (l : List Record) → ((k : ℕ) → k < length l → test (get_or l k d) ≡ false) → first test l ≡ length l
  unfolding first
  first_none [] miss = refl
  first_none (r ∷ l) miss =
      simp (miss 0 (suc-le-suc zero-le)) (ap suc (first_none l (λ k g. miss (suc k) (suc-le-suc g))))

  misses_by : (r : Record) (l : List Record) (k : ℕ) (b : Bool) → test r ≡ b
      → ((j : ℕ) → j < first test l → test (get_or l j d) ≡ false) → k < pick b 0 (suc (first test l)) → test (get_or (r ∷ l) k d) ≡ false
  misses_by r l k true e below h = absurd (not-suc-le-zero h)
  misses_by r l zero false e below h = e
  misses_by r l (suc k) false e below h = below k (le_of_suc-le-suc h)

  -- the slots before the first fail
  pub first_misses : (l : List Record) (k : ℕ) → k < first test l → test (get_or l k d) ≡ false
  unfolding first
  first_misses [] k h = absurd (not-suc-le-zero h)
  first_misses (r ∷ l) k h = misses_by r l k (test r) refl (first_misses l) h

  passes_by : (r : Record) (l : List Record) (b : Bool) → test r ≡ b
      → (first test l < length l → test (get_or l (first test l) d) ≡ true)
      → pick b 0 (suc (first test l)) < suc (length l) → test (get_or (r ∷ l) (pick b 0 (suc (first test l))) d) ≡ true
  passes_by r l true e rest h = e
  passes_by r l false e rest h = rest (le_of_suc-le-suc h)

  -- the first passes
  pub first_passes : (l : List Record) → first test l < length l → test (get_or l (first test l) d) ≡ true
  unfolding first
  first_passes [] h = absurd (not-suc-le-zero h)
  first_passes (r ∷ l) h = passes_by r l (test r) refl (first_passes l) h
