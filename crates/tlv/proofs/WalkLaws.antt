-- Laws of the walk over TLVs: a step, the walk one TLV at a time, induction along it, and that what is found is whole.
use Rattle.std.specs.Prelude.{Option, Some, None}
use Prim.Native.Nat.{ℕ, zero, suc, ◌+◌, ◌-◌, ◌%◌, ◌<◌, ◌≤◌}
use mathlib.Core.Path.{◌≡◌, refl, sym, ap, subst, ◌∙◌}
use mathlib.Core.List.{List}
use mathlib.Core.Bool.{Bool, true, false}
use mathlib.Core.Logic.{◌⊎◌, inl, inr, ⊎_elim}
use native.Mathlib.Omega.{arith}
use borrow.Author.Tests.{le-leb, lt-leb, eq-eqb, ne_eqb, leb-true, eqb-true, eqb-false}
use lib.Arith.{lt_of_le-ne}
use lib.Dec.{eqb, leb}
use lib.ListN.{length}
use Rattle.laws.proofs.Bools.{decided}
use Rattle.refusal.specs.Choice.{pick}
use Rattle.tlv.specs.Walk.{next_of, size_at, Fits, after, walk_by, walk, first, Reached, start, next}

module _ (t : List ℕ) (p : ℕ) where
  pub next_short : length t < p + 4 → next_of t p ≡ None
  unfolding next_of
  next_short h = simp (lt-leb (p + 4) (length t) h)

  pub next_odd : p + 4 ≤ length t → (size_at t p % 2 ≡ 0 → ⊥) → next_of t p ≡ None
  unfolding next_of
  next_odd h o = simp (le-leb (p + 4) (length t) h, ne_eqb (size_at t p % 2) 0 o)

  pub next_long : p + 4 ≤ length t → size_at t p % 2 ≡ 0 → length t < p + 4 + size_at t p → next_of t p ≡ None
  unfolding next_of
  next_long h o l =
      simp (le-leb (p + 4) (length t) h, eq-eqb (size_at t p % 2) 0 o, lt-leb (p + 4 + size_at t p) (length t) l)

  pub next_is : p + 4 ≤ length t → size_at t p % 2 ≡ 0 → p + 4 + size_at t p ≤ length t → next_of t p ≡ Some (p + 4 + size_at t p)
  unfolding next_of
  next_is h o l =
      simp (le-leb (p + 4) (length t) h, eq-eqb (size_at t p % 2) 0 o, le-leb (p + 4 + size_at t p) (length t) l)

-- the three tests of `next_of`, all taken where it gives an end
taken : (a b c : Bool) (x q : ℕ) → pick a (pick b (pick c (Some x) None) None) None ≡ Some q → (b ≡ true) × (c ≡ true) × (x ≡ q)
taken true true true x q h = (refl, refl, cc)
taken true true false x q h = absurd (let z : ◌≡◌ {A = ℕ} 0 1 = cc in omega arith)
taken true false c x q h = absurd (let z : ◌≡◌ {A = ℕ} 0 1 = cc in omega arith)
taken false b c x q h = absurd (let z : ◌≡◌ {A = ℕ} 0 1 = cc in omega arith)

pub next_fits : (t : List ℕ) (p : ℕ) {q : ℕ} → next_of t p ≡ Some q → (p + 4 + size_at t p ≡ q) × (q ≤ length t)
unfolding next_of
next_fits t p {q} h =
    let k = taken (leb (p + 4) (length t)) (eqb (size_at t p % 2) 0) (leb (p + 4 + size_at t p) (length t)) (p + 4 + size_at t p) q h in
    (k.2, rw k.2 at (leb-true (p + 4 + size_at t p) (length t) k.1))

-- and of even length
pub next_even : (t : List ℕ) (p : ℕ) {q : ℕ} → next_of t p ≡ Some q → size_at t p % 2 ≡ 0
unfolding next_of
next_even t p {q} h =
    let k = taken (leb (p + 4) (length t)) (eqb (size_at t p % 2) 0) (leb (p + 4 + size_at t p) (length t)) (p + 4 + size_at t p) q h in
    eqb-true (size_at t p % 2) 0 k.0

-- a TLV that the walk steps over is whole
pub next_whole : (t : List ℕ) (p : ℕ) {q : ℕ} → next_of t p ≡ Some q → Fits t p
next_whole t p h = let n = next_fits t p h in record { fits = omega arith }

-- its length, from where it stands and ends
pub next_size : (t : List ℕ) (p : ℕ) {q : ℕ} → next_of t p ≡ Some q → q - p - 4 ≡ size_at t p
next_size t p h = let n = next_fits t p h in omega arith

after_same : {A : Type 0} (bad : A) (n : Option ℕ) {k l : ℕ → A} → ((q : ℕ) → n ≡ Some q → k q ≡ l q) → after n bad k ≡ after n bad l
after_same bad (Some q) h = h q refl
after_same bad None h = refl

module _ {A : Type 0} (end : A) (bad : ℕ → A) (cons : ℕ → A → A) (t : List ℕ) where
  by : ℕ → ℕ → A
  by f p = walk_by end bad cons t f p

  no_turns : (p : ℕ) → by zero p ≡ end
  unfolding by walk_by
  no_turns p = refl

  -- turns that are enough are as good as any
  same_turns : (f g p : ℕ) → length t - p ≤ f → length t - p ≤ g → p ≤ length t → by f p ≡ by g p
  unfolding by walk_by
  same_turns zero zero p hf hg h = refl
  same_turns zero (suc g) p hf hg h = let e : eqb p (length t) ≡ true = eq-eqb p (length t) (omega arith) in rw e
  same_turns (suc f) zero p hf hg h = let e : eqb p (length t) ≡ true = eq-eqb p (length t) (omega arith) in rw e
  same_turns (suc f) (suc g) p hf hg h =
      ap (pick (eqb p (length t)) end)
      (after_same (bad p) (next_of t p)
      (λ q e. let n = next_fits t p e in ap (cons p) (same_turns f g q (omega arith) (omega arith) n.1)))

  -- the walk, one TLV at a time
  pub walk_end : walk end bad cons t (length t) ≡ end
  unfolding walk by
  walk_end = same_turns (length t) zero (length t) (omega arith) (omega arith) (omega arith) ∙ no_turns (length t)

  pub walk_bad : (p : ℕ) → p < length t → next_of t p ≡ None → walk end bad cons t p ≡ bad p
  unfolding walk walk_by by
  walk_bad p h e =
      let k : eqb p (length t) ≡ false = ne_eqb p (length t) (λ x. omega arith) in
      same_turns (length t) (suc (length t)) p (omega arith) (omega arith) (omega arith) ∙ rw (k, e)

  pub walk_more : (p q : ℕ) → p < length t → next_of t p ≡ Some q → walk end bad cons t p ≡ cons p (walk end bad cons t q)
  unfolding walk walk_by by
  walk_more p q h e =
      let k : eqb p (length t) ≡ false = ne_eqb p (length t) (λ x. omega arith) in
      same_turns (length t) (suc (length t)) p (omega arith) (omega arith) (omega arith) ∙ rw (k, e)

next_or : (n : Option ℕ) → (n ≡ None) ⊎ ((q : ℕ) × (n ≡ Some q))
next_or None = inl refl
next_or (Some q) = inr (q, refl)

-- Induction along the walk
module _ (t : List ℕ) (P : ℕ → Type 0) (at-end : P (length t))
    (at-bad : (p : ℕ) → p < length t → next_of t p ≡ None → P p)
    (at_more : (p q : ℕ) → p < length t → next_of t p ≡ Some q → P q → P p) where
  ind_by : (f p : ℕ) → length t - p ≤ f → p ≤ length t → P p
  ind_by zero p hf h = let e : length t ≡ p = omega arith in subst P e at-end
  ind_by (suc f) p hf h =
      ⊎_elim
      (λ (e : eqb p (length t) ≡ true). subst P (sym (eqb-true p (length t) e)) at-end)
      (λ (e : eqb p (length t) ≡ false).
      let l : p < length t = lt_of_le-ne h (eqb-false p (length t) e) in
      ⊎_elim
      (λ (b : next_of t p ≡ None). at-bad p l b)
      (λ (m : (q : ℕ) × (next_of t p ≡ Some q)).
      let n = next_fits t p m.1 in
      at_more p m.0 l m.1 (ind_by f m.0 (omega arith) n.1))
      (next_or (next_of t p)))
      (decided (eqb p (length t)))

  pub walk_ind : (p : ℕ) → p ≤ length t → P p
  walk_ind p h = ind_by (length t) p (omega arith) h

-- what `first` finds is a whole TLV that passes the test
pub record Found (test : ℕ → Bool) (t : List ℕ) (p : ℕ) : Type 0 where
  pub whole : Fits t p
  pub passes : test p ≡ true

pub first_found : (test : ℕ → Bool) (t : List ℕ) (p : ℕ) → p ≤ length t → first test t p < length t → Found test t (first test t p)
first_found test t p h =
    walk_ind t (λ (p : ℕ). first test t p < length t → Found test t (first test t p))
    (rw (walk_end (length t) none step t) (λ l. absurd (omega arith)))
    (λ p l b. rw (walk_bad (length t) none step t p l b) (λ l. absurd (omega arith)))
    (λ p q l m r. rw (walk_more (length t) none step t p q l m) (here (test p) p q (next_whole t p m) refl r))
    p h
  where
    none : ℕ → ℕ
    none q = length t

    step : ℕ → ℕ → ℕ
    step q r = pick (test q) q r

    here : (b : Bool) (p q : ℕ) → Fits t p → test p ≡ b
        → (first test t q < length t → Found test t (first test t q))
        → pick b p (first test t q) < length t → Found test t (pick b p (first test t q))
    here true p q f e r l = record { whole = f; passes = e }
    here false p q f e r l = r l

-- as far as the walk comes without finding anything, what is left of it finds what the whole does
module _ (test : ℕ → Bool) (t : List ℕ) where
  one_more : {p q : ℕ} → p < length t → next_of t p ≡ Some q → first test t p ≡ pick (test p) p (first test t q)
  one_more {p} {q} l m = walk_more (length t) (λ (r : ℕ). length t) (λ (r s : ℕ). pick (test r) r s) t p q l m

  passed_over : (b : Bool) (f p q : ℕ) → f ≡ pick b p (first test t q) → p < q → q ≤ f → f ≡ first test t q
  passed_over true f p q e h l = absurd (omega arith)
  passed_over false f p q e h l = e

  not_yet : {p : ℕ} → Reached t p → p ≤ first test t 0 → first test t 0 ≡ first test t p
  not_yet start h = refl
  not_yet (next {p} {q} r l m) h =
      let n = next_fits t p m in
      let e : first test t 0 ≡ first test t p = not_yet r (omega arith) in
      passed_over (test p) (first test t 0) p q (e ∙ one_more l m) (omega arith) h

  fails : (b : Bool) (f p q : ℕ) → f ≡ pick b p (first test t q) → p < f → b ≡ false
  fails true f p q e h = absurd (omega arith)
  fails false f p q e h = refl

  -- a TLV before the one that is found does not pass the test
  pub first_before : {p q : ℕ} → Reached t p → p < length t → next_of t p ≡ Some q → p < first test t 0 → test p ≡ false
  first_before {p} {q} r l m h =
      fails (test p) (first test t 0) p q (not_yet r (omega arith) ∙ one_more l m) h
