-- Two lists merged where they lie: a list is ranked where ranking it moves none of its candidates, and one filled into the other is their merging.
use Rattle.std.specs.Prelude.{Result}
use Prim.Native.Nat.{ℕ, zero, suc, ◌+◌, ◌*◌, ◌≤◌, ◌<◌}
use mathlib.Core.Path.{◌≡◌, refl, sym, ap, ap₂, ◌∙◌, subst}
use mathlib.Core.Bool.{Bool, true, false, ◌&&◌, ◌||◌}
use mathlib.Core.List.{List, [], ◌++◌, append-nil}
use native.Mathlib.Omega.{arith}
use borrow.Author.Tests.{lt-leb, le-leb, leb-false, ltb-false, eqb-true}
use lib.Dec.{eqb, leb, ltb}
use lib.ListN.{length, take, drop, get_or, length-map}
use lib.Seq.{slice, slice_empty, length-slice, ext_get_or, get_or-drop, get_or-take, take-append-le, take-append-add}
use Rattle.laws.proofs.Bools.{clash}
use Rattle.refusal.specs.Choice.{refuse}
use Rattle.rank.specs.declared.Candidate.{Candidate}
use Rattle.refusal.specs.declared.Refusal.{Refusal}
use Rattle.rank.specs.declared.Ranked.{Ranked}
use Rattle.rank.specs.Order.{earlier_of}
use Rattle.rank.specs.Ranked.{receiver_of, all_valid, rank_of, blank_of, pack, unpack, insert_all, in_rank, is_ranked}
use Rattle.rank.specs.Calls.{done_of, outcome_of}
use Rattle.rank.proofs.Best.{cases, rank_swap}
use Rattle.rank.proofs.Order.{ordered}
use Rattle.rank.proofs.Merging.{R, AllValid, both, defined, valid_sound, unpack_pack, ranked_passes, all_append}
use Rattle.candidate_words.specs.declared.places.Places.{Places}
use Rattle.candidate_words.specs.Candidates.{ranked_of, ranked_words}
use Rattle.candidate_words.specs.Fits.{candidate_fits, slot_fits, list_fits}
use Rattle.candidate_words.specs.Answers.{ranking_words}
use Rattle.candidate_words.specs.Runs.{run_of}
use Rattle.candidate_words.specs.Places.{candidate_of, list_of, Fit, Inside, eight_of, unmoved_of, Stands, Tried, merged_of, Merged}
use Rattle.candidate_words.proofs.RunLaws.{run_length, run_at, slice_here}
use Rattle.candidate_words.proofs.PlaceLaws.{held_length, held_at}
use Rattle.candidate_words.proofs.Filling.{Holds, holds_all, holds_none}

-- what the tests say
pub few_both : (x y : ℕ) → (ltb 4 x || ltb 4 y) ≡ false → (x ≤ 4) × (y ≤ 4)
few_both x y h =
    cases (ltb 4 x)
    (λ e. clash {b = true} refl (simp e at h))
    (λ e. (ltb-false 4 x e, ltb-false 4 y (simp e at h)))

one_of : (n k x y : ℕ) → (leb n k || eqb x y) ≡ true → k < n → x ≡ y
one_of n k x y e h = eqb-true x y (simp (lt-leb n k h) at e)

four_places : (at : List ℕ) (from n : ℕ) → n ≤ 4
    → (leb n 0 || eqb (get_or at 0 0) from) ≡ true → (leb n 1 || eqb (get_or at 1 0) (from + 1)) ≡ true
    → (leb n 2 || eqb (get_or at 2 0) (from + 2)) ≡ true → (leb n 3 || eqb (get_or at 3 0) (from + 3)) ≡ true
    → (k : ℕ) → k < n → get_or at k 0 ≡ from + k
four_places at from n few a b c d zero h = let e = one_of n 0 (get_or at 0 0) from a h in omega arith
four_places at from n few a b c d (suc zero) h = one_of n 1 (get_or at 1 0) (from + 1) b h
four_places at from n few a b c d (suc (suc zero)) h = one_of n 2 (get_or at 2 0) (from + 2) c h
four_places at from n few a b c d (suc (suc (suc zero))) h = one_of n 3 (get_or at 3 0) (from + 3) d h
four_places at from n few a b c d (suc (suc (suc (suc k)))) h = absurd (omega arith)

unmoved_sound : (p : Places) (from n : ℕ) → n ≤ 4 → unmoved_of p from n ≡ true
    → (p.len ≡ n) × ((k : ℕ) → k < n → get_or p.at k 0 ≡ from + k)
unfolding unmoved_of
unmoved_sound p from n few h =
    let d = both _ _ h in
    let c = both _ _ d.0 in
    let b = both _ _ c.0 in
    let a = both _ _ b.0 in
    (eqb-true p.len n a.0, four_places p.at from n few a.1 b.1 c.1 d.1)

-- candidates that fit are valid
valid_slice : (run : List (List ℕ)) (n from to : ℕ) → from + n ≡ to → to ≤ length run → ((i : ℕ) → from ≤ i → i < to → Fit run i)
    → all_valid (slice from to (run_of run)) ≡ true
valid_slice run zero from to e h f =
    let k : to ≡ from = omega arith in
    rw (k, slice_empty from (run_of run))
valid_slice run (suc n) from to e h f =
    rw (slice_here run from to (omega arith) h, (f from (omega arith) (omega arith)).valid)
    (valid_slice run n (from + 1) to (omega arith) h (λ i p q. f i (omega arith) q))

-- places that are those of a part of the run stand for that part
unmoved_list : (run : List (List ℕ)) (q : Places) (n from to : ℕ) → from + n ≡ to → to ≤ length run → Inside run q → q.len ≡ n
    → ((k : ℕ) → k < n → get_or q.at k 0 ≡ from + k) → unpack (list_of run q) ≡ slice from to (run_of run)
unmoved_list run q n from to e h inside len at =
    let l = run_of run in
    let size = held_length run q inside in
    let few : to ≤ length l = omega (arith, run_length run) in
    ext_get_or blank_of (unpack (list_of run q)) (slice from to l) (omega (arith, size, length-slice from to l few))
    (λ i k.
    let j : i < n = omega arith in
    held_at run q inside i (omega arith)
    ∙ ap (candidate_of run) (at i j)
    ∙ sym (get_or-drop from (take to l) i blank_of ∙ get_or-take to l (from + i) blank_of (omega arith) ∙ run_at run (from + i) blank_of (omega arith)))

-- A PART OF A RUN that fits and that ranking leaves as it is
module _ (run : List (List ℕ)) (n from to : ℕ) (sum : from + n ≡ to) (within : to ≤ length run) (few : n ≤ 4) (each : (i : ℕ) → from ≤ i → i < to → Fit run i) where
  abbrev part : List Candidate
  part = slice from to (run_of run)

  pub part_valid : AllValid part
  part_valid = valid_sound part (valid_slice run n from to sum within each)

  module _ (p q : Places) (none : p.len ≡ 0) (four : length p.at ≡ 4) (inside : Inside run q) (filled : list_of run q ≡ insert_all (list_of run p) part) where
    part_ranked : unpack (list_of run q) ≡ R part
    part_ranked = ap unpack filled ∙ holds_all part (list_of run p) [] (holds_none run p none four) ∙ ap R (append-nil part)

    pub part_holds : Holds (list_of run q) part
    part_holds = record { few = inside.few; size = length-map q.at (candidate_of run) ∙ inside.size; list = part_ranked }

    pub part_stands : unmoved_of q from n ≡ true → Stands run from to
    part_stands u =
        let s = unmoved_sound q from n few u in
        let same : rank_of part ≡ part =
        sym (defined part part_valid) ∙ sym part_ranked ∙ unmoved_list run q n from to sum within inside s.0 s.1 in
        let passes = subst (λ (l : List Candidate). is_ranked (pack l) ≡ true) same (ranked_passes part part_valid) in
        record {
          each = each;
          ranked = subst (λ (l : List Candidate). in_rank l ≡ true) (unpack_pack part) (both (leb (length part) 4) (in_rank (unpack (pack part))) passes).1;
        }

-- one list filled into another
pub both_ranked : (run : List (List ℕ)) (q r : Places) (s t : List Candidate) → AllValid s → AllValid t → Holds (list_of run q) s
    → list_of run r ≡ insert_all (list_of run q) t → unpack (list_of run r) ≡ rank_of (s ++ t)
both_ranked run q r s t v w h e =
    ap unpack e
    ∙ holds_all t (list_of run q) s h
    ∙ rank_swap earlier_of receiver_of ordered 4 t s
    ∙ defined (s ++ t) (all_append _ s t v w)

pub length_eight : (a b : List ℕ) → length (eight_of a b) ≡ 8
unfolding eight_of
length_eight a b = refl

-- WORDS: the candidates of two lists as a run of eight
slot_fits_lem : (w : List ℕ) (i : ℕ) → (i < get_or w 0 0 → candidate_fits w (1 + 11 * i) ≡ true) → slot_fits w i ≡ true
slot_fits_lem w i f =
    cases (leb (get_or w 0 0) i)
    (λ e. ap (λ (b : Bool). b || candidate_fits w (1 + 11 * i)) e)
    (λ e. ap (λ (b : Bool). b || candidate_fits w (1 + 11 * i)) e ∙ f (leb-false (get_or w 0 0) i e))

all_four : (a b c d : Bool) → a ≡ true → b ≡ true → c ≡ true → d ≡ true → (((a && b) && c) && d) ≡ true
all_four a b c d p q r s = rw (p, q, r, s)

module _ (a b : List ℕ) where
  first_fits : Stands (eight_of a b) 0 (get_or a 0 0) → list_fits a ≡ true
  unfolding eight_of
  first_fits h =
      all_four (slot_fits a 0) (slot_fits a 1) (slot_fits a 2) (slot_fits a 3)
      (slot_fits_lem a 0 (λ k. (h.each 0 (omega arith) k).fits))
      (slot_fits_lem a 1 (λ k. (h.each 1 (omega arith) k).fits))
      (slot_fits_lem a 2 (λ k. (h.each 2 (omega arith) k).fits))
      (slot_fits_lem a 3 (λ k. (h.each 3 (omega arith) k).fits))

  second_fits : Stands (eight_of a b) 4 (4 + get_or b 0 0) → list_fits b ≡ true
  unfolding eight_of
  second_fits h =
      all_four (slot_fits b 0) (slot_fits b 1) (slot_fits b 2) (slot_fits b 3)
      (slot_fits_lem b 0 (λ k. (h.each 4 (omega arith) (omega arith)).fits))
      (slot_fits_lem b 1 (λ k. (h.each 5 (omega arith) (omega arith)).fits))
      (slot_fits_lem b 2 (λ k. (h.each 6 (omega arith) (omega arith)).fits))
      (slot_fits_lem b 3 (λ k. (h.each 7 (omega arith) (omega arith)).fits))

  first_list : get_or a 0 0 ≤ 4 → slice 0 (get_or a 0 0) (run_of (eight_of a b)) ≡ unpack (ranked_of a)
  unfolding eight_of
  first_list h = take-append-le (get_or a 0 0) (ranked_of a).slots (ranked_of b).slots h

  second_list : slice 4 (4 + get_or b 0 0) (run_of (eight_of a b)) ≡ unpack (ranked_of b)
  unfolding eight_of
  second_list = ap (drop 4) (take-append-add (ranked_of a).slots (ranked_of b).slots (get_or b 0 0))

  passes : (w : List ℕ) → get_or w 0 0 ≤ 4 → in_rank (unpack (ranked_of w)) ≡ true → is_ranked (ranked_of w) ≡ true
  passes w h e = ap (λ (t : Bool). t && in_rank (unpack (ranked_of w))) (le-leb (get_or w 0 0) 4 h) ∙ e

  -- what was tried on the eight is done to the lists
  pub merged : (done : Bool) (before after : List ℕ) → get_or a 0 0 ≤ 4 → get_or b 0 0 ≤ 4
      → Tried (eight_of a b) (get_or a 0 0) (get_or b 0 0) done before after → Merged a b done before after
  unfolding refuse
  merged done before after h k t =
      let all : done ≡ true → merged_of a b ≡ done_of (rank_of (unpack (ranked_of a) ++ unpack (ranked_of b))) =
      λ e.
      let x = t.first e in
      let y = t.second e in
      let p = passes a h (subst (λ (l : List Candidate). in_rank l ≡ true) (first_list h) x.ranked) in
      let q = passes b k (subst (λ (l : List Candidate). in_rank l ≡ true) second_list y.ranked) in
      rw (first_fits x, second_fits y, p, q) in
      record {
        left = t.left;
        outcome = λ e. ap outcome_of (all e);
        words =
            λ e.
            t.words e
            ∙ ap₂ (λ (l m : List Candidate). ranked_words (pack (rank_of (l ++ m)))) (first_list h) second_list
            ∙ sym (ap (λ (r : Result Ranked Refusal). ranking_words r before) (all e));
      }

-- nothing was done
pub not_tried : (run : List (List ℕ)) (n m : ℕ) (out : List ℕ) → Tried run n m false out out
not_tried run n m out =
    record { left = λ e. refl; first = λ e. clash e refl; second = λ e. clash e refl; words = λ e. clash e refl }

pub not_merged : (a b out : List ℕ) → Merged a b false out out
not_merged a b out = record { left = λ e. refl; outcome = λ e. clash e refl; words = λ e. clash e refl }
