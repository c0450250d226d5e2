-- Candidates ranked where they lie: words that fit stand in rank order as their candidates do, and what is done to places is done to the
-- list that they stand for.
use Prim.Native.Nat.{ℕ, zero, suc, ◌+◌, ◌-◌, ◌≤◌, ◌<◌}
use mathlib.Core.Path.{◌≡◌, refl, sym, ap, ap₂, ◌∙◌}
use mathlib.Core.Bool.{true, false}
use mathlib.Core.List.{List, [], ◌∷◌, map}
use native.Mathlib.Omega.{arith}
use native.Mathlib.Numerals.{add-one}
use borrow.Author.Tests.{eq-eqb, ne_eqb, ltb-true, ltb-false, leb-true, le-leb, eqb-true, eqb-false}
use lib.Dec.{ltb, leb, eqb}
use lib.ListN.{length, take, drop, set, get_or, length-map, get_or-map, get_or-append}
use lib.Seq.{drop-cons, set-get_or, get_or-set_same, get_or-set_other, get_or-take, get_or-drop, get_or-append-add, length-take-le}
use Rattle.refusal.specs.Limits.{port_count}
use Rattle.words.specs.Words.{port_of}
use Rattle.rank.specs.Order.{lex, keys_of, earlier_of}
use Rattle.rank.specs.declared.Candidate.{Candidate}
use Rattle.rank.specs.Best.{sink}
use Rattle.rank.specs.Ranked.{is_port, all_valid, laid, sink_of, unpack, pack, blank_of}
use Rattle.rank.specs.Ranked as ranked
use Rattle.rank.proofs.Best.{cases}
use Rattle.rank.proofs.Sinking.{stays, goes, to_spec}
use Rattle.rank.proofs.Merging.{both}
use Rattle.candidate_words.specs.Fits.{candidate_fits, run_fits}
use Rattle.candidate_words.specs.Runs.{run_of}
use Rattle.candidate_words.specs.Places.{words_at, lower_of, candidate_of, list_of, Fit, Inside, row_of}
use Rattle.candidate_words.specs.Candidates.{candidate_words}
use Rattle.candidate_words.specs.declared.places.Places.{Places}
use Rattle.candidate_words.proofs.Kept.{candidate_again}

-- n words from b on, and the one at i of them
abbrev from : List ℕ → ℕ → ℕ → List ℕ
from w b zero = []
from w b (suc n) = get_or w b 0 ∷ from w (suc b) n

from_at : (w : List ℕ) (b n i : ℕ) → i < n → get_or (from w b n) i 0 ≡ get_or w (b + i) 0
from_at w b zero i h = absurd (omega arith)
from_at w b (suc n) zero h = let e : b + 0 ≡ b = omega arith in rw e
from_at w b (suc n) (suc i) h = let e : b + suc i ≡ suc b + i = omega arith in rw e (from_at w (suc b) n i (omega arith))

word_at : (w : List ℕ) (i : ℕ) → i < 11 → get_or (words_at w 0) i 0 ≡ get_or w i 0
word_at w i h = let e : 0 + i ≡ i = omega arith in rw e at (from_at w 0 11 i h)

-- what is left of two lists from i on: the words there, and the rest
left_at : (w : List ℕ) (i : ℕ) → i < 11 → drop i (words_at w 0) ≡ get_or w i 0 ∷ drop (i + 1) (words_at w 0)
left_at w i h =
    rw (add-one i)
    (drop-cons (words_at w 0) i 0 h ∙ ap (λ (x : ℕ). x ∷ drop (suc i) (words_at w 0)) (word_at w i h))

pub lex_here : (a b : List ℕ) (i : ℕ) → i < 11 → (get_or a i 0 ≡ get_or b i 0 → ⊥)
    → ltb (get_or a i 0) (get_or b i 0) ≡ lex (drop i (words_at a 0)) (drop i (words_at b 0))
lex_here a b i h n = rw (left_at a i h, left_at b i h, ne_eqb (get_or a i 0) (get_or b i 0) n)

pub lex_on : (a b : List ℕ) (i : ℕ) → i < 11 → get_or a i 0 ≡ get_or b i 0
    → lex (drop (i + 1) (words_at a 0)) (drop (i + 1) (words_at b 0)) ≡ lex (drop i (words_at a 0)) (drop i (words_at b 0))
lex_on a b i h e = rw (left_at a i h, left_at b i h, eq-eqb (get_or a i 0) (get_or b i 0) e)

-- each candidate of a run of valid candidates that fit has a port of the clock, and words that fit
pub valid_row : (run : List (List ℕ)) (i : ℕ) → i < length run → all_valid (run_of run) ≡ true → is_port (candidate_of run i).port ≡ true
unfolding candidate_of
valid_row [] i h v = absurd (omega arith)
valid_row (w ∷ ws) zero h v = (both (is_port (port_of (get_or w 9 0))) (all_valid (run_of ws)) v).0
valid_row (w ∷ ws) (suc i) h v = valid_row ws i (omega arith) (both (is_port (port_of (get_or w 9 0))) (all_valid (run_of ws)) v).1

pub fits_row : (run : List (List ℕ)) (i : ℕ) → i < length run → run_fits run ≡ true → candidate_fits (get_or run i []) 0 ≡ true
fits_row [] i h v = absurd (omega arith)
fits_row (w ∷ ws) zero h v = (both (candidate_fits w 0) (run_fits ws) v).0
fits_row (w ∷ ws) (suc i) h v = fits_row ws i (omega arith) (both (candidate_fits w 0) (run_fits ws) v).1

-- a word that names a port of the clock is that port
port_below : (p : ℕ) → is_port (port_of p) ≡ true → p ≤ port_count
port_below p h =
    cases (leb p port_count)
    (λ e. leb-true p port_count e)
    (λ e. absurd (let z : false ≡ true = simp e at h in let k : ◌≡◌ {A = ℕ} 0 1 = cc in omega arith))

port_same : (p : ℕ) → is_port (port_of p) ≡ true → port_of p ≡ p
port_same p h = rw (le-leb p port_count (port_below p h))

module _ (run : List (List ℕ)) where
  -- the keys of a candidate are its words
  keys : (i : ℕ) → Fit run i → keys_of (candidate_of run i) ≡ words_at (get_or run i []) 0
  unfolding candidate_of
  keys i h = candidate_again (get_or run i []) 0 h.fits (port_below (get_or (get_or run i []) 9 0) h.valid)

  -- so words decide as candidates do
  pub order : (i j : ℕ) → Fit run i → Fit run j → lower_of (get_or run i []) (get_or run j []) ≡ earlier_of (candidate_of run i) (candidate_of run j)
  unfolding lower_of
  order i j h k = sym (ap₂ lex (keys i h) (keys j k))

  pub port_word : (i : ℕ) → Fit run i → (candidate_of run i).port ≡ get_or (get_or run i []) 9 0
  unfolding candidate_of
  port_word i h = port_same (get_or (get_or run i []) 9 0) h.valid

-- what is done to places is done to what lies there
pub map_at : {A B : Type 0} (f : A → B) (l : List A) (i : ℕ) (d : A) (e : B) → i < length l → get_or (map f l) i e ≡ f (get_or l i d)
map_at f [] i d e h = absurd (omega arith)
map_at f (x ∷ xs) zero d e h = refl
map_at f (x ∷ xs) (suc i) d e h = map_at f xs i d e (omega arith)

pub map_set : {A B : Type 0} (f : A → B) (l : List A) (i : ℕ) (a : A) → map f (set l i a) ≡ set (map f l) i (f a)
map_set f [] i a = refl
map_set f (x ∷ xs) zero a = refl
map_set f (x ∷ xs) (suc i) a = ap (f x ∷◌) (map_set f xs i a)

-- at a place: one of two stays, the other goes on, and so it is with what lies there
module _ (f : ℕ → Candidate) (at : List ℕ) (i x : ℕ) where
  abbrev there : Candidate
  there = get_or (map f at) i (f 0)

  pub turn_taken : earlier_of (f x) (f (get_or at i 0)) ≡ true
      → (map f (set at i x) ≡ set (map f at) i (stays (f x) there)) × (f (get_or at i 0) ≡ goes (f x) there)
  turn_taken e = rw (get_or-map f at i 0) (simp e (map_set f at i x), simp e)

  pub turn_left : earlier_of (f x) (f (get_or at i 0)) ≡ false
      → (map f at ≡ set (map f at) i (stays (f x) there)) × (f x ≡ goes (f x) there)
  turn_left e =
      let g = get_or-map f at i 0 in
      (simp (g, e) (sym (ap (set (map f at) i) (sym g) ∙ set-get_or (map f at) i (f 0))), simp (g, e))

-- what holds of places holds of them where one more is put among them
pub each_set : (P : ℕ → Type 0) (at : List ℕ) (i x n : ℕ) → i < length at → P x → ((k : ℕ) → k < n → (k ≡ i → ⊥) → P (get_or at k 0))
    → (k : ℕ) → k < n → P (get_or (set at i x) k 0)
each_set P at i x n h hx f k hk =
    cases (eqb k i)
    (λ e. rw (eqb-true k i e, get_or-set_same at i x 0 h) hx)
    (λ e. rw (get_or-set_other at i k x 0 (eqb-false k i e)) (f k hk (eqb-false k i e)))

-- going down the slots of the list that places stand for, by the word of the port
pub sinks : (run : List (List ℕ)) (p : Places) (c : ℕ) → Inside run p → Fit run c
    → let slots = map (candidate_of run) p.at in
    laid (take 4 (sink earlier_of ranked.receiver_of (get_or (get_or run c []) 9 0) (candidate_of run c) (take p.len slots))) slots
    ≡ sink_of (list_of run p) (candidate_of run c)
sinks run p c inside h =
    let slots = map (candidate_of run) p.at in
    ap (λ (q : ℕ). laid (take 4 (sink earlier_of ranked.receiver_of q (candidate_of run c) (take p.len slots))) slots) (sym (port_word run c h))
    ∙ to_spec (list_of run p) (candidate_of run c) p.len (length-map p.at (candidate_of run) ∙ inside.size) (omega (arith, inside.few))

-- the words at one of four places are those of the slot that it stands for
module _ (run : List (List ℕ)) (p : Places) (inside : Inside run p) where
  abbrev held : List Candidate
  held = unpack (list_of run p)

  pub held_length : length held ≡ p.len
  held_length =
      length-take-le p.len (map (candidate_of run) p.at) (omega (arith, length-map p.at (candidate_of run), inside.size, inside.few))

  pub held_at : (k : ℕ) → k < p.len → get_or held k blank_of ≡ candidate_of run (get_or p.at k 0)
  held_at k h =
      get_or-take p.len (map (candidate_of run) p.at) k blank_of h
      ∙ map_at (candidate_of run) p.at k 0 blank_of (omega (arith, inside.size, inside.few))

  blanks : (n : ℕ) → get_or (pack []).slots n blank_of ≡ blank_of
  blanks zero = refl
  blanks (suc zero) = refl
  blanks (suc (suc zero)) = refl
  blanks (suc (suc (suc zero))) = refl
  blanks (suc (suc (suc (suc n)))) = refl

  used : (k : ℕ) → k < p.len → get_or (pack held).slots k blank_of ≡ candidate_of run (get_or p.at k 0)
  used k h = get_or-append held (drop (length held) (pack []).slots) blank_of k (omega (arith, held_length)) ∙ held_at k h

  unused : (k : ℕ) → p.len ≤ k → get_or (pack held).slots k blank_of ≡ blank_of
  unused k h =
      let j = k - length held in
      let e : length held + j ≡ k = omega (arith, held_length) in
      ap (λ (n : ℕ). get_or (pack held).slots n blank_of) (sym e)
      ∙ get_or-append-add held (drop (length held) (pack []).slots) j blank_of
      ∙ get_or-drop (length held) (pack []).slots j blank_of
      ∙ blanks (length held + j)

  pub row_words : (k : ℕ) → words_at (row_of run p k) 0 ≡ candidate_words (get_or (pack held).slots k blank_of)
  unfolding row_of
  row_words k =
      cases (ltb k p.len)
      (λ e.
      let h = ltb-true k p.len e in
      rw (e, used k h) (sym (keys run (get_or p.at k 0) (inside.each k h))))
      (λ e. let h = ltb-false k p.len e in rw (e, unused k h))
