-- The records that a recording keeps: none of them is refused, and their times never fall.
use Rattle.std.specs.Prelude.{Result, Ok, Err}
use Prim.Native.Nat.{ℕ}
use mathlib.Core.Path.{◌≡◌, ◌∙◌, refl, sym, ap}
use mathlib.Core.List.{List, [], ◌∷◌}
use mathlib.Core.Bool.{Bool, true, ◌&&◌}
use borrow.Author.Tests.{le-leb}
use Rattle.laws.proofs.Bools.{cases}
use Rattle.block.specs.Layout.{Entry}
use Rattle.judging.specs.Tests.{is_in_order, last_of as lastTime}
use Rattle.block.specs.Making.{All, OnPort}
use Rattle.recording.specs.Recording.{last_of, fits, record_check}
use Rattle.recording.specs.Refusing.{Taken}
use Rattle.traces.specs.Taped.{Tape, taped_with, taped_all, fresh_tape, kept_of, IsShort}
use Rattle.recording.proofs.Refusing.{done}
use Rattle.traces.proofs.Meaning.{words_stay, not_kept, words_then, kept}
use Rattle.refusal.specs.declared.Refusal.{Refusal}

-- ---- NONE IS REFUSED
module _ (P : Entry → Type 0) where
  kept_step : (t : Tape) (e : Entry) (es : List Entry) → (record_check t.words e ≡ Ok tt → P e) → All P (kept_of (taped_with t e) es)
      → (o : Result (Unit {0}) Refusal) → record_check t.words e ≡ o → All P (kept_of t (e ∷ es))
  kept_step t e es p a (Err x) r = rw (not_kept t e x r es) a
  kept_step t e es p a (Ok tt) r = rw (kept t e r es) (p r, a)

  -- what holds of all that are handed in holds of all that are kept
  pub kept_of_lem : (es : List Entry) (t : Tape) → All P es → All P (kept_of t es)
  unfolding kept_of
  kept_of_lem [] t a = tt
  kept_of_lem (e ∷ es) t a = kept_step t e es (λ r. a.0) (kept_of_lem es (taped_with t e) a.1) (record_check t.words e) refl

  -- and so does what holds of each that is not refused
  pub kept_all : ((ws : List ℕ) (e : Entry) → Taken ws e → P e) → (es : List Entry) (t : Tape) → All P (kept_of t es)
  unfolding kept_of
  kept_all p [] t = tt
  kept_all p (e ∷ es) t =
      kept_step t e es (λ r. p t.words e (done t.words e r)) (kept_all p es (taped_with t e)) (record_check t.words e) refl

pub kept_short : (es : List Entry) (t : Tape) → All IsShort (kept_of t es)
kept_short = kept_all IsShort (λ ws e w. w.short)

pub kept_on_port : (es : List Entry) (t : Tape) → All OnPort (kept_of t es)
kept_on_port = kept_all OnPort (λ ws e w. w.port)

-- ---- TIMES
-- the last recorded time, after one that is recorded
last_then : (t : Tape) (e : Entry) → record_check t.words e ≡ Ok tt → last_of (taped_with t e).words ≡ e.time
last_then t e r = ap last_of (words_then t e r) ∙ cases (fits t.words e) (λ f. rw f) (λ f. rw f)

last_step : (t : Tape) (e : Entry) (es : List Entry) → last_of (taped_all (taped_with t e) es).words ≡ lastTime (last_of (taped_with t e).words) (kept_of (taped_with t e) es)
    → (o : Result (Unit {0}) Refusal) → record_check t.words e ≡ o → last_of (taped_all t (e ∷ es)).words ≡ lastTime (last_of t.words) (kept_of t (e ∷ es))
unfolding taped_all lastTime
last_step t e es h (Err x) r =
    h ∙ (λ i. lastTime (last_of (words_stay t e x r i)) (sym (not_kept t e x r es) i))
last_step t e es h (Ok tt) r =
    h ∙ ap (λ (n : ℕ). lastTime n (kept_of (taped_with t e) es)) (last_then t e r) ∙ ap (lastTime (last_of t.words)) (sym (kept t e r es))

-- THE SECOND WORD is the time of the last record that was kept
pub last_is : (es : List Entry) (t : Tape) → last_of (taped_all t es).words ≡ lastTime (last_of t.words) (kept_of t es)
unfolding taped_all kept_of lastTime
last_is [] t = refl
last_is (e ∷ es) t = last_step t e es (last_is es (taped_with t e)) (record_check t.words e) refl

order_step : (t : Tape) (e : Entry) (es : List Entry) → is_in_order (last_of (taped_with t e).words) (kept_of (taped_with t e) es) ≡ true
    → (o : Result (Unit {0}) Refusal) → record_check t.words e ≡ o → is_in_order (last_of t.words) (kept_of t (e ∷ es)) ≡ true
unfolding is_in_order
order_step t e es h (Err x) r =
    ap (is_in_order (last_of t.words)) (not_kept t e x r es)
    ∙ ap (λ (ws : List ℕ). is_in_order (last_of ws) (kept_of (taped_with t e) es)) (sym (words_stay t e x r))
    ∙ h
order_step t e es h (Ok tt) r =
    ap (is_in_order (last_of t.words)) (kept t e r es)
    ∙ ap (λ (b : Bool). b && is_in_order e.time (kept_of (taped_with t e) es)) (le-leb _ _ (done t.words e r).later)
    ∙ ap (λ (n : ℕ). is_in_order n (kept_of (taped_with t e) es)) (sym (last_then t e r))
    ∙ h

in_order : (es : List Entry) (t : Tape) → is_in_order (last_of t.words) (kept_of t es) ≡ true
unfolding kept_of is_in_order
in_order [] t = refl
in_order (e ∷ es) t = order_step t e es (in_order es (taped_with t e)) (record_check t.words e) refl

-- THE TIMES of what is kept never fall
pub times_never_fall : (opened : List ℕ) (n : ℕ) (es : List Entry) → is_in_order 0 (kept_of (fresh_tape opened n) es) ≡ true
times_never_fall opened n es = in_order es (fresh_tape opened n)
