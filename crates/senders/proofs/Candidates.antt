-- A port's candidates: the qualified records in slot order, as its slots answer one by one; valid for ranking; at most sixteen.
use Rattle.std.specs.Prelude.{Option, Some, None, Result, Ok}
use Rattle.std.proofs.Common.{◌≡◌, ℕ, zero, suc, ◌≤◌, Bool, true, false, List, [], ◌∷◌, map, length, get_or, sym, refl, ap, ◌∙◌, suc-le-suc, zero-le, arith}
use lib.ListN.{length-map}
use Rattle.refusal.specs.Choice.{pick}
use Rattle.rank.specs.declared.Candidate.{Candidate}
use Rattle.rank.specs.Ranked.{is_port, all_valid}
use Rattle.senders.specs.declared.Record.{Record}
use Rattle.senders.specs.Record.{window_of, is_qualified, candidate_of}
use Rattle.senders.specs.Port.{Port, empty_slot, slot_of, tab, kept, gather, candidates_of, candidate_in}
use Rattle.refusal.specs.declared.Refusal.{Refusal}

pub tab_map : {A B : Type 0} (g : A → B) (n : ℕ) (f : ℕ → A) → tab n (λ i. g (f i)) ≡ map g (tab n f)
unfolding tab
tab_map g zero f = refl
tab_map {A} {B} g (suc n) f = ap (λ (l : List B). g (f 0) ∷ l) (tab_map g n (λ i. f (suc i)))

-- a list is the table of its elements
tab_get_d : {A : Type 0} (d : A) (l : List A) → tab (length l) (λ i. get_or l i d) ≡ l
unfolding tab
tab_get_d d [] = refl
tab_get_d {A} d (x ∷ l) = ap (λ (s : List A). x ∷ s) (tab_get_d d l)

module _ (test : Record → Bool) (f : Record → Candidate) where
  gathered_by : (r : Record) (b : Bool) (l : List (Result (Option Candidate) Refusal)) (k : List Record) → gather l ≡ map f k
      → gather (pick b (Ok (Some (f r))) (Ok None) ∷ l) ≡ map f (pick b (r ∷ k) k)
  unfolding gather
  gathered_by r true l k e = ap (λ (s : List Candidate). f r ∷ s) e
  gathered_by r false l k e = e

  gathered : (l : List Record) → gather (map (λ r. pick (test r) (Ok (Some (f r))) (Ok None)) l) ≡ map f (kept test l)
  unfolding gather kept
  gathered [] = refl
  gathered (r ∷ l) = gathered_by r (test r) (map (λ x. pick (test x) (Ok (Some (f x))) (Ok None)) l) (kept test l) (gathered l)

  fewer_by : (b : Bool) (r : Record) (k l : List Record) → length k ≤ length l → length (pick b (r ∷ k) k) ≤ suc (length l)
  fewer_by true r k l h = suc-le-suc h
  fewer_by false r k l h = omega arith

  fewer : (l : List Record) → length (kept test l) ≤ length l
  unfolding kept
  fewer [] = zero-le
  fewer (r ∷ l) = fewer_by (test r) r (kept test l) l (fewer l)

module _ (port : ℕ) (p : Port) (t : ℕ) (size : length p.slots ≡ 16) where
  -- what the sixteen slots answer, in slot order, is the port's candidates
  pub slots_give : gather (tab 16 (λ i. candidate_in port p i t)) ≡ candidates_of port p t
  unfolding candidate_in candidates_of
  slots_give =
      let test = is_qualified (window_of p.e) t in
      let g : Record → (Result (Option Candidate) Refusal) = λ r. pick (test r) (Ok (Some (candidate_of port r))) (Ok None) in
      let all : tab 16 (slot_of p) ≡ p.slots = ap (λ (n : ℕ). tab n (slot_of p)) (sym size) ∙ tab_get_d empty_slot p.slots in
      ap gather (tab_map g 16 (slot_of p) ∙ ap (map g) all) ∙ gathered test (candidate_of port) p.slots

  pub at_most_sixteen : length (candidates_of port p t) ≤ 16
  unfolding candidates_of
  at_most_sixteen =
      let k = kept (is_qualified (window_of p.e) t) p.slots in
      omega (arith, length-map k (candidate_of port), fewer (is_qualified (window_of p.e) t) (candidate_of port) p.slots)

valid_by : (port : ℕ) → is_port port ≡ true → (l : List Record) → all_valid (map (candidate_of port) l) ≡ true
valid_by port h [] = refl
valid_by port h (r ∷ l) = rw h (valid_by port h l)

-- "A candidate, valid when its port is 1 to 18"
pub candidates_valid : (port : ℕ) (p : Port) (t : ℕ) → is_port port ≡ true → all_valid (candidates_of port p t) ≡ true
unfolding candidates_of
candidates_valid port p t h = valid_by port h (kept (is_qualified (window_of p.e) t) p.slots)
