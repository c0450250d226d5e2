-- Found means reached: what a search finds is a TLV that the walk comes to, and the first that passes the test; nothing is
-- found exactly where no TLV passes it; a tail is whole exactly where the walk comes to its end, and else breaks off where the
-- walk can go no further.
use Rattle.std.specs.Prelude.{Option, Some, None}
use Prim.Native.Nat.{ℕ, ◌+◌, ◌%◌, ◌<◌, ◌≤◌}
use mathlib.Core.Path.{◌≡◌, refl, sym, ap, ◌∙◌}
use mathlib.Core.List.{List}
use mathlib.Core.Bool.{Bool, true, false}
use mathlib.Core.Logic.{◌⊎◌, inl, inr}
use native.Mathlib.Omega.{arith}
use borrow.Author.Tests.{eq-eqb, ne_eqb, eqb-true, eqb-false, lt-ltb, le-ltb, ltb-true, ltb-false, leb-true, leb-false}
use lib.Dec.{eqb, leb, ltb}
use lib.ListN.{length, take, length-take}
use Rattle.octets.proofs.Laws.{be_take}
use Rattle.refusal.specs.Choice.{pick}
use Rattle.tlv.specs.Walk.{size_at, next_of, broken, first, Reached, start, next, BadAt, leftover, odd, past, BreaksAt, TlvAt, FirstTlv, NoTlv}
use Rattle.tlv.specs.Form.{suffix_at, link_at}
use Rattle.tlv.specs.Faults.{whole}
use Rattle.tlv.specs.Wr.{flags_at, suffix_in, link_message_at, link_in}
use Rattle.tlv.proofs.WalkLaws.{next_short, next_odd, next_long, next_fits, next_even, next_is, walk_end, walk_bad, walk_more, walk_ind, first_found, first_before}

no_truth : ◌≡◌ {A = Bool} false true → ⊥
no_truth e = let z : ◌≡◌ {A = ℕ} 0 1 = cc in omega arith

module _ (test : ℕ → Bool) (t : List ℕ) where
  abbrev none : ℕ → ℕ
  none q = length t

  abbrev step : ℕ → ℕ → ℕ
  step q r = pick (test q) q r

  -- a search ends inside the tail or at its end
  pub first_inside : first test t 0 ≤ length t
  first_inside =
      walk_ind t (λ (p : ℕ). first test t p ≤ length t)
      (rw (walk_end (length t) none step t) (omega arith))
      (λ p l b. rw (walk_bad (length t) none step t p l b) (omega arith))
      (λ p q l m k. rw (walk_more (length t) none step t p q l m) (here (test p) p q l k))
      0 (omega arith)
    where
      here : (b : Bool) (p q : ℕ) → p < length t → first test t q ≤ length t → pick b p (first test t q) ≤ length t
      here true p q l k = omega arith
      here false p q l k = k

  -- FOUND MEANS REACHED: the place found is that of a TLV of the tail
  pub first_reached : first test t 0 < length t → TlvAt t (first test t 0)
  first_reached =
      walk_ind t (λ (p : ℕ). Reached t p → first test t p < length t → TlvAt t (first test t p))
      (λ r. rw (walk_end (length t) none step t) (λ l. absurd (omega arith)))
      (λ p l b r. rw (walk_bad (length t) none step t p l b) (λ l. absurd (omega arith)))
      (λ p q l m k r. rw (walk_more (length t) none step t p q l m) (here (test p) p q (record { reached = r; inside = l; end = q; whole = m }) (k (next r l m))))
      0 (omega arith) start
    where
      here : (b : Bool) (p q : ℕ) → TlvAt t p → (first test t q < length t → TlvAt t (first test t q))
          → pick b p (first test t q) < length t → TlvAt t (pick b p (first test t q))
      here true p q r k l = r
      here false p q r k l = k l

  -- it passes the test, and no TLV before it does
  pub found_first : first test t 0 < length t → FirstTlv test t (first test t 0)
  found_first l =
      record {
        at = first_reached l;
        passes = (first_found test t 0 (omega arith) l).passes;
        before = λ q v h. first_before test t v.reached v.inside v.whole h;
      }

  -- and there is no other such place
  pub first_is : {p : ℕ} → FirstTlv test t p → first test t 0 ≡ p
  first_is {p} v = by (ltb (first test t 0) p) (ltb p (first test t 0)) refl refl
    where
      by : (a b : Bool) → ltb (first test t 0) p ≡ a → ltb p (first test t 0) ≡ b → first test t 0 ≡ p
      by true b ea eb =
          let l = ltb-true (first test t 0) p ea in
          let i : first test t 0 < length t = omega (arith, v.at.inside) in
          let f = found_first i in
          absurd (no_truth (sym (v.before (first test t 0) f.at l) ∙ f.passes))
      by false true ea eb =
          let h = first_before test t v.at.reached v.at.inside v.at.whole (ltb-true p (first test t 0) eb) in
          absurd (no_truth (sym h ∙ v.passes))
      by false false ea eb =
          let l = ltb-false (first test t 0) p ea in
          let m = ltb-false p (first test t 0) eb in
          omega arith

  -- ABSENT MEANS THAT THERE IS NONE
  pub absent_none : first test t 0 ≡ length t → NoTlv test t
  absent_none e p v = first_before test t v.reached v.inside v.whole (rw e v.inside)

  -- and where there is none, nothing is found
  pub none_absent : NoTlv test t → first test t 0 ≡ length t
  none_absent h = by (ltb (first test t 0) (length t)) refl
    where
      by : (b : Bool) → ltb (first test t 0) (length t) ≡ b → first test t 0 ≡ length t
      by true e =
          let f = found_first (ltb-true (first test t 0) (length t) e) in
          absurd (no_truth (sym (h (first test t 0) f.at) ∙ f.passes))
      by false e = let l = ltb-false (first test t 0) (length t) e in omega (arith, first_inside)

  -- either there is a first one, or there is none
  pub one_or_none : FirstTlv test t (first test t 0) ⊎ NoTlv test t
  one_or_none = by (ltb (first test t 0) (length t)) refl
    where
      by : (b : Bool) → ltb (first test t 0) (length t) ≡ b → FirstTlv test t (first test t 0) ⊎ NoTlv test t
      by true e = inl (found_first (ltb-true (first test t 0) (length t) e))
      by false e =
          let l = ltb-false (first test t 0) (length t) e in
          let h : first test t 0 ≡ length t = omega (arith, first_inside) in
          inr (absent_none h)

-- ---- whole
module _ (t : List ℕ) where
  same_broken : {p : ℕ} → Reached t p → broken t 0 ≡ broken t p
  same_broken start = refl
  same_broken (next {p} {q} r l m) = same_broken r ∙ walk_more (length t) (λ (q : ℕ). q) (λ (q r : ℕ). r) t p q l m

  -- A TAIL IS WHOLE EXACTLY WHERE THE WALK COMES TO ITS END
  pub reached_whole : Reached t (length t) → whole t ≡ true
  reached_whole r = eq-eqb _ _ (same_broken r ∙ walk_end (length t) (λ (q : ℕ). q) (λ (q r : ℕ). r) t)

  ends : broken t 0 ≡ length t → Reached t (length t)
  ends =
      walk_ind t (λ (p : ℕ). Reached t p → broken t p ≡ length t → Reached t (length t))
      (λ r e. r)
      (λ p l b r. rw (walk_bad (length t) (λ (q : ℕ). q) (λ (q r : ℕ). r) t p l b) (λ e. absurd (omega arith)))
      (λ p q l m k r. rw (walk_more (length t) (λ (q : ℕ). q) (λ (q r : ℕ). r) t p q l m) (k (next r l m)))
      0 (omega arith) start

  pub whole_reached : whole t ≡ true → Reached t (length t)
  whole_reached e = ends (eqb-true _ _ e)

-- ---- broken
module _ (t : List ℕ) where
  odd_one : (n : ℕ) → (n % 2 ≡ 0 → ⊥) → n % 2 ≡ 1
  odd_one n h = omega arith

  no_at : {q : ℕ} → ◌≡◌ {A = Option ℕ} (Some q) None → ⊥
  no_at e = let z : ◌≡◌ {A = ℕ} 0 1 = cc in omega arith

  -- where the walk cannot step, one of three things stands
  no_step : (p : ℕ) → p < length t → next_of t p ≡ None → BadAt t p
  unfolding next_of
  no_step p l = by (leb (p + 4) (length t)) (eqb (size_at t p % 2) 0) (leb (p + 4 + size_at t p) (length t)) refl refl refl
    where
      by : (a b d : Bool) → leb (p + 4) (length t) ≡ a → eqb (size_at t p % 2) 0 ≡ b → leb (p + 4 + size_at t p) (length t) ≡ d
          → next_of t p ≡ None → BadAt t p
      by false b d ea eb ed e = leftover l (leb-false (p + 4) (length t) ea)
      by true false d ea eb ed e =
          let n = eqb-false (size_at t p % 2) 0 eb in odd (leb-true (p + 4) (length t) ea) (odd_one (size_at t p) n)
      by true true false ea eb ed e =
          past (leb-true (p + 4) (length t) ea) (eqb-true (size_at t p % 2) 0 eb) (leb-false (p + 4 + size_at t p) (length t) ed)
      by true true true ea eb ed e = absurd (no_at (rw (ea, eb, ed) at e))

  -- and where one of them stands, it cannot
  pub bad_inside : {p : ℕ} → BadAt t p → p < length t
  bad_inside (leftover l h) = l
  bad_inside (odd l h) = omega arith
  bad_inside (past l e h) = omega arith

  bad_step : {p : ℕ} → BadAt t p → next_of t p ≡ None
  bad_step {p} (leftover l h) = next_short t p h
  bad_step {p} (odd l h) = next_odd t p l (λ e. omega (arith, e, h))
  bad_step {p} (past l e h) = next_long t p l e h

  -- A TAIL THAT IS NOT WHOLE BREAKS OFF AT THE PLACE TOLD
  breaks : (broken t 0 ≡ length t → ⊥) → BreaksAt t (broken t 0)
  breaks =
      walk_ind t (λ (p : ℕ). Reached t p → (broken t p ≡ length t → ⊥) → BreaksAt t (broken t p))
      (λ r n. absurd (n (walk_end (length t) (λ (q : ℕ). q) (λ (q r : ℕ). r) t)))
      (λ p l b r. rw (walk_bad (length t) (λ (q : ℕ). q) (λ (q r : ℕ). r) t p l b) (λ n. record { reached = r; bad = no_step p l b }))
      (λ p q l m k r. rw (walk_more (length t) (λ (q : ℕ). q) (λ (q r : ℕ). r) t p q l m) (k (next r l m)))
      0 (omega arith) start

  pub whole_breaks : whole t ≡ false → BreaksAt t (broken t 0)
  whole_breaks e = breaks (eqb-false _ _ e)

  -- and there is no other such place
  pub breaks_is : {p : ℕ} → BreaksAt t p → broken t 0 ≡ p
  breaks_is {p} v =
      same_broken t v.reached ∙ walk_bad (length t) (λ (q : ℕ). q) (λ (q r : ℕ). r) t p (bad_inside v.bad) (bad_step v.bad)

  pub breaks_whole : {p : ℕ} → BreaksAt t p → whole t ≡ false
  breaks_whole {p} v = ne_eqb (broken t 0) (length t) (λ e. let b = breaks_is v in let h = bad_inside v.bad in omega arith)

-- the walk stays inside
pub reached_inside : (t : List ℕ) {p : ℕ} → Reached t p → p ≤ length t
reached_inside t start = omega arith
reached_inside t (next {p} r l m) = (next_fits t p m).1

-- ---- what stands before a place
module _ (t : List ℕ) (k : ℕ) (h : k ≤ length t) where
  cut_length : length (take k t) ≡ k
  cut_length = simp length-take (omega arith)

  -- THE WALK OVER A TAIL THAT IS CUT comes to the same places, up to the cut
  pub reached_cut : {p : ℕ} → Reached t p → p ≤ k → Reached (take k t) p
  reached_cut start l = start
  reached_cut (next {p} {q} r i m) l =
      let f = next_fits t p m in
      let s : size_at (take k t) p ≡ size_at t p = be_take 2 k t (p + 2) (omega arith) in
      let n = cut_length in
      let e : size_at (take k t) p % 2 ≡ 0 = rw s (next_even t p m) in
      let q-is : p + 4 + size_at (take k t) p ≡ q = omega arith in
      next (reached_cut r (omega arith)) (omega arith) (next_is (take k t) p (omega arith) e (omega arith) ∙ ap Some q-is)

  pub whole_cut : Reached t k → whole (take k t) ≡ true
  whole_cut r = let n = cut_length in reached_whole (take k t) (rw n (reached_cut r (omega arith)))

-- ---- the suffix and the link message that count
module _ (magic : ℕ) (t : List ℕ) where
  -- "The first ANN_SUFIX counts."
  pub suffix_counts : {p : ℕ} → FirstTlv (suffix_at magic t) t p → suffix_in magic t ≡ Some (flags_at t p)
  unfolding suffix_in
  suffix_counts {p} v = rw (first_is (suffix_at magic t) t v, lt-ltb p (length t) v.at.inside)

  pub suffix_absent : NoTlv (suffix_at magic t) t → suffix_in magic t ≡ None
  unfolding suffix_in
  suffix_absent h = rw (none_absent (suffix_at magic t) t h, le-ltb (length t) (length t) (omega arith))

  -- the first link message counts
  pub link_counts : {p : ℕ} → FirstTlv (link_at magic t) t p → link_in magic t ≡ Some (link_message_at t p)
  unfolding link_in
  link_counts {p} v = rw (first_is (link_at magic t) t v, lt-ltb p (length t) v.at.inside)

  pub link_absent : NoTlv (link_at magic t) t → link_in magic t ≡ None
  unfolding link_in
  link_absent h = rw (none_absent (link_at magic t) t h, le-ltb (length t) (length t) (omega arith))
