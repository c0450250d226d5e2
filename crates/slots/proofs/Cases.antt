-- The cases of the definitions, over plain values: at a `return`, the tests that led there pick one.
use Rattle.std.specs.Prelude.{Option, Some, None, Result, Ok, Err, position}
use mathlib.Core.Path.{◌≡◌, refl, sym, ap, ◌∙◌}
use mathlib.Core.Bool.{Bool, true, false, ◌&&◌}
use mathlib.Core.List.{List, [], ◌∷◌, map}
use Prim.Native.Nat.{ℕ, zero, suc, ◌+◌, ◌-◌, ◌≤◌, ◌<◌}
use native.Mathlib.Omega.{arith}
use lib.Dec.{eqb}
use lib.ListN.{length, get_or, take, drop}
use lib.Seq.{drop-cons, get_or-take, get_or-drop}
use borrow.Author.Tests.{lt-ltb, le-ltb, ne_eqb, eq-eqb}
use Rattle.refusal.specs.Choice.{pick, refuse}
use Rattle.refusal.specs.declared.Refusal.TheVariants.{Backward}
use Rattle.rank.specs.declared.Candidate.{Candidate}
use Rattle.rank.specs.Order.{earlier_of}
use Rattle.rank.specs.Best.{better, best}
use Rattle.rank.specs.Ranked as ranked
use Rattle.senders.specs.declared.Notice.{Notice}
use Rattle.senders.specs.declared.Record.{Record}
use Rattle.senders.specs.Record.{window_of, is_of, is_free, is_qualified, candidate_of}
use Rattle.senders.specs.Port.{Port, empty_slot, slot_of, tab, first, kept, known_of, new_of, new_in, plan_of, asked_of, candidate_in, candidates_of, best_of, head_of}
use Rattle.slots.specs.Words.{block, begin_of, of_six, record_of, records_of, slot_at, slots_of, port_of, seen_in, ahead_in, outdoes_in, best_in}
use Rattle.slots.specs.Places.{place_among, found_in}
use Rattle.slots.proofs.Laws.{length_tab, get_d_tab, get_d_past, lowest_is, none_is}
use Rattle.slots.proofs.Order.{earlier_words}
use Rattle.refusal.specs.declared.Refusal.{Refusal}

-- ---- a slot of the words is that of the port
pub slot_is : (ws : List ℕ) (i : ℕ) → i < 16 → slot_at ws i ≡ slot_of (port_of ws) i
slot_is ws i h = sym (get_d_tab 16 (slot_at ws) i empty_slot h)

pub slot_past : (ws : List ℕ) (i : ℕ) → 16 ≤ i → empty_slot ≡ slot_of (port_of ws) i
slot_past ws i h = sym (get_d_past 16 (slot_at ws) i empty_slot h)

-- ---- looking into a slot
module _ (p : Port) (i : ℕ) (r : Record) (e : r ≡ slot_of p i) where
  pub slot_held : (r.receipts ≡ 0 → ⊥) → Some r ≡ seen_in p i
  unfolding seen_in
  slot_held h = rw (← e, ne_eqb _ _ h)

  pub slot_empty : r.receipts ≡ 0 → None ≡ seen_in p i
  unfolding seen_in
  slot_empty h = rw (← e, eq-eqb _ _ h)

-- ---- what an Announce does
module _ (p : Port) (t : ℕ) (a : Notice) where
  pub plan_backward : t < p.last → Err Backward ≡ plan_of p t a
  unfolding plan_of refuse
  plan_backward h = rw (lt-ltb _ _ h)

  pub plan_known : (w i : ℕ) (r : Record) (q : Result (ℕ × Record) Refusal) → p.last ≤ t → w ≡ window_of p.e → i ≡ first (is_of a.sender) p.slots → i < 16
      → r ≡ slot_of p i → q ≡ known_of w t a i r → q ≡ plan_of p t a
  unfolding plan_of refuse
  plan_known w i r q h ew ei hi er eq =
      rw (le-ltb _ _ h, ← ew, ← ei, lt-ltb _ _ hi) (eq ∙ ap (λ (x : Record). known_of w t a i x) er)

  pub plan_new : (w i j : ℕ) (q : Result (ℕ × Record) Refusal) → p.last ≤ t → w ≡ window_of p.e → i ≡ first (is_of a.sender) p.slots → 16 ≤ i
      → j ≡ first (is_free w t) p.slots → q ≡ new_of t a j → q ≡ plan_of p t a
  unfolding plan_of refuse
  plan_new w i j q h ew ei hi ej eq =
      rw (le-ltb _ _ h, ← ew, ← ei, le-ltb _ _ hi) (eq ∙ ap (new_of t a) ej)

-- a new sender's plan by the search for a free slot
pub new_is : (ws : List ℕ) (w t : ℕ) (a : Notice) (o : Option ℕ) → o ≡ position (λ s. is_free w t (of_six s)) (records_of ws)
    → new_in t a o ≡ new_of t a (first (is_free w t) (slots_of ws))
unfolding refuse
new_is ws w t a None e = let f = none_is (is_free w t) ws (sym e) in ap (new_of t a) f
new_is ws w t a (Some j) e = ap (new_of t a) (lowest_is (is_free w t) ws j (sym e)).1

-- ---- asking
module _ (p : Port) (t : ℕ) (x : Result (Option Candidate) Refusal) where
  pub ask_backward : t < p.last → Err Backward ≡ asked_of p t x
  unfolding refuse
  ask_backward h = rw (lt-ltb _ _ h)

  pub ask_on : (q : Result (Option Candidate) Refusal) → p.last ≤ t → q ≡ x → q ≡ asked_of p t x
  unfolding refuse
  ask_on q h e = rw (le-ltb _ _ h) e

module _ (port : ℕ) (p : Port) (i t : ℕ) (w : ℕ) (r : Record) (ew : w ≡ window_of p.e) (er : r ≡ slot_of p i) where
  pub candidate_yes : (b : Bool) (c : Candidate) → b ≡ is_qualified w t r → b ≡ true → c ≡ candidate_of port r → Ok (Some c) ≡ candidate_in port p i t
  unfolding candidate_in
  candidate_yes b c eb h ec = rw (← er, ← ew, ← eb, h) (ap (λ (x : Candidate). Ok (Some x)) ec)

  pub candidate_no : (b : Bool) → b ≡ is_qualified w t r → b ≡ false → Ok None ≡ candidate_in port p i t
  unfolding candidate_in
  candidate_no b eb h = rw (← er, ← ew, ← eb, h)

pub candidate_past : (port : ℕ) (p : Port) (i t : ℕ) → empty_slot ≡ slot_of p i → Ok None ≡ candidate_in port p i t
unfolding candidate_in
candidate_past port p i t e = rw (← e)

-- ---- the best
abbrev ahead : Candidate → Result (Option Candidate) Refusal → Result (Option Candidate) Refusal
ahead c (Ok (Some d)) = pick (earlier_of c d) (Ok (Some c)) (Ok (Some d))
ahead c (Ok None) = Ok (Some c)
ahead c (Err x) = Ok (Some c)

head_pick : (b : Bool) (c d : Candidate) (l : List Candidate) → head_of (pick b (c ∷ []) (d ∷ l)) ≡ pick b (Ok (Some c)) (Ok (Some d))
head_pick true c d l = refl
head_pick false c d l = refl

head_better : (c : Candidate) (l : List Candidate) → head_of (better earlier_of ranked.receiver_of c l) ≡ ahead c (head_of l)
head_better c [] = refl
head_better c (d ∷ l) = head_pick (earlier_of c d) c d l

module _ (port w t : ℕ) (r : Record) (l : List Record) where
  cons_by : (b : Bool) → head_of (best earlier_of ranked.receiver_of port (map (candidate_of port) (pick b (r ∷ kept (is_qualified w t) l) (kept (is_qualified w t) l))))
      ≡ pick b (ahead (candidate_of port r) (best_in port w t l)) (best_in port w t l)
  unfolding best_in
  cons_by true =
      rw (eq-eqb port port refl)
      (head_better (candidate_of port r) (best earlier_of ranked.receiver_of port (map (candidate_of port) (kept (is_qualified w t) l))))
  cons_by false = refl

  best_cons : best_in port w t (r ∷ l) ≡ pick (is_qualified w t r) (ahead (candidate_of port r) (best_in port w t l)) (best_in port w t l)
  unfolding best_in kept
  best_cons = cons_by (is_qualified w t r)

-- one record more, by the three tests: qualified, none before it, earlier
turned : (A : ℕ → Result (Option Candidate) Refusal) (a b : ℕ) (c d : Candidate) (q x y : Bool) → A a ≡ Ok (Some c) → A b ≡ pick x (Ok None) (Ok (Some d)) → earlier_of c d ≡ y
    → A (pick (q && pick x true y) a b) ≡ pick q (ahead c (A b)) (A b)
turned A a b c d true false true ai ab e = ai ∙ sym (ap (ahead c) ab ∙ ap (λ (z : Bool). pick z (Ok (Some c)) (Ok (Some d))) e)
turned A a b c d true false false ai ab e = ab ∙ sym (ap (ahead c) ab ∙ ap (λ (z : Bool). pick z (Ok (Some c)) (Ok (Some d))) e)
turned A a b c d true true y ai ab e = ai ∙ sym (ap (ahead c) ab)
turned A a b c d false x y ai ab e = refl

-- the words are words
abbrev pub Words64 : List ℕ → Type 0
Words64 ws = (k : ℕ) → get_or ws k 0 < 0x10000000000000000

pub grade_word_lem : (ws : List ℕ) (c : ℕ) → Words64 ws → get_or (take 6 (drop c ws)) 5 0 < 0x10000000000000000
grade_word_lem ws c words = let e = get_or-take 6 (drop c ws) 5 0 (omega arith) ∙ get_or-drop c ws 5 0 in rw e (words (c + 5))

ahead_is : (port : ℕ) (ws : List ℕ) (a b : ℕ) → Words64 ws
    → ahead_in ws a b ≡ earlier_of (candidate_of port (record_of (block ws a 6))) (candidate_of port (record_of (block ws b 6)))
unfolding ahead_in record_of
ahead_is port ws a b words = earlier_words port (block ws a 6) (block ws b 6) (grade_word_lem ws a words) (grade_word_lem ws b words)

module _ (port : ℕ) (ws : List ℕ) (words : Words64 ws) (w t i b : ℕ) (h : i < 16) where
  from_here : drop i (slots_of ws) ≡ slot_at ws i ∷ drop (suc i) (slots_of ws)
  from_here =
      let n : i < length (slots_of ws) = rw (length_tab 16 (slot_at ws)) h in
      drop-cons (slots_of ws) i empty_slot n ∙ ap (λ (r : Record). r ∷ drop (suc i) (slots_of ws)) (sym (slot_is ws i h))

  -- the walk from the last slot to the first
  best_turn : (j : ℕ) → j ≡ suc i → found_in port ws b ≡ best_in port w t (drop j (slots_of ws))
      → found_in port ws (pick (outdoes_in ws (begin_of i) b w t) (begin_of i) b) ≡ best_in port w t (drop i (slots_of ws))
  best_turn j ej inv =
      let a = begin_of i in
      let c = candidate_of port (slot_at ws i) in
      let q = is_qualified w t (slot_at ws i) in
      let d = candidate_of port (record_of (block ws b 6)) in
      ap (λ (z : Bool). found_in port ws (pick (q && pick (eqb b 0) true z) a b)) (ahead_is port ws a b words)
      ∙ turned (found_in port ws) a b c d q (eqb b 0) (earlier_of c d) (rw (ne_eqb a 0 (λ e. omega arith))) refl refl
      ∙ ap (λ (z : Result (Option Candidate) Refusal). pick q (ahead c z) z) (inv ∙ ap (λ (k : ℕ). best_in port w t (drop k (slots_of ws))) ej)
      ∙ sym (ap (best_in port w t) from_here ∙ best_cons port w t (slot_at ws i) (drop (suc i) (slots_of ws)))

best_start : (port : ℕ) (ws : List ℕ) (w t : ℕ) → found_in port ws 0 ≡ best_in port w t (drop 16 (slots_of ws))
unfolding best_in kept tab
best_start port ws w t = refl

-- so that what begins at the place among the last n slots is the best of them
pub best_among : (port : ℕ) (ws : List ℕ) → Words64 ws → (w t n : ℕ) → n ≤ 16
    → found_in port ws (place_among ws w t n) ≡ best_in port w t (drop (16 - n) (slots_of ws))
unfolding place_among
best_among port ws words w t zero h = best_start port ws w t
best_among port ws words w t (suc n) h =
    let e : 16 - n ≡ suc (15 - n) = omega arith in
    let f : 16 - suc n ≡ 15 - n = omega arith in
    best_turn port ws words w t (15 - n) (place_among ws w t n) (omega arith) (16 - n) e (best_among port ws words w t n (omega arith))
    ∙ ap (λ (k : ℕ). best_in port w t (drop k (slots_of ws))) (sym f)

module _ (port : ℕ) (ws : List ℕ) (w t b : ℕ) (ew : w ≡ window_of (port_of ws).e) (is : found_in port ws b ≡ best_in port w t (slots_of ws)) where
  its : found_in port ws b ≡ best_of port (port_of ws) t
  unfolding best_in best_of candidates_of
  its = rw (← ew) is

  pub best_yes : (r : Record) (c : Candidate) → (b ≡ 0 → ⊥) → r ≡ record_of (block ws b 6) → c ≡ candidate_of port r → Ok (Some c) ≡ best_of port (port_of ws) t
  best_yes r c h er ec = ap (λ (x : Candidate). Ok (Some x)) (ec ∙ ap (candidate_of port) er) ∙ rw (ne_eqb _ _ h) at its

  pub best_no : b ≡ 0 → Ok None ≡ best_of port (port_of ws) t
  best_no h = rw (eq-eqb _ _ h) at its
