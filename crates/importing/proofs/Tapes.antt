-- A recording that is handed records one after another: what it still gives behind what it gave, how many octets that is, and that nothing is lost
-- where none is refused.
use Rattle.std.specs.Prelude.{Result, Ok, Err}
use Prim.Native.Nat.{ℕ, suc, ◌+◌, ◌*◌, ◌≤◌}
use mathlib.Core.Path.{◌≡◌, ◌∙◌, refl, sym, ap}
use mathlib.Core.List.{List, [], ◌∷◌, ◌++◌, append_assoc, append-nil}
use mathlib.Core.Bool.{Bool, true, false}
use native.Mathlib.Omega.{arith}
use lib.Dec.{leb}
use lib.ListN.{length, take, drop, replicate, length-append, length-drop, length-replicate}
use lib.Seq.{length-take-le}
use borrow.Author.Tests.{le-leb}
use Rattle.refusal.specs.Choice.{pick}
use Rattle.octets.specs.Be.{octets_of}
use Rattle.stores.specs.Stores.{over}
use Rattle.block.specs.Layout.{block_octets, records_at, Entry, count_of}
use Rattle.block.specs.Making.{size_of, opened_of, added_to, sealed, entry_octets}
use Rattle.recording.specs.Recording.{next_of, end_of, fits, record_check, open_after, words_after}
use Rattle.recording.proofs.Refusing.{done, bounds}
use Rattle.traces.specs.Taped.{Tape, given_by, taped_with, taped_all, trace_of, fresh_tape, kept_of}
use Rattle.traces.proofs.Meaning.{kept}
use Rattle.importing.specs.Importing.{or_else, records_check, words_after_all, fresh_words, trace_by}
use Rattle.refusal.specs.declared.Refusal.{Refusal}

-- ---- WHAT IS LEFT
-- what a recording gives from now on
abbrev pub remains : List ℕ → List ℕ → List Entry → List ℕ
remains opened ws es = trace_of (taped_all (record { opened = opened; words = ws; given = [] }) es)

-- the same behind what it gave
pub behind_given : (es : List Entry) (t : Tape) → trace_of (taped_all t es) ≡ t.given ++ remains t.opened t.words es
unfolding taped_all
behind_given [] t = refl
behind_given (e ∷ es) t =
    let n : Tape = record { opened = t.opened; words = t.words; given = [] } in
    behind_given es (taped_with t e)
    ∙ append_assoc t.given (given_by (record_check t.words e) t.opened t.words e) (remains (taped_with t e).opened (taped_with t e).words es)
    ∙ ap (λ (l : List ℕ). t.given ++ l) (sym (behind_given es (taped_with n e)))

-- one record more: the block that it closes, and what is left then
pub remains_more : (opened ws : List ℕ) (e : Entry) (es : List Entry)
    → remains opened ws (e ∷ es) ≡ given_by (record_check ws e) opened ws e ++ remains (open_after opened ws e) (words_after ws e) es
unfolding taped_all
remains_more opened ws e es = behind_given es (taped_with (record { opened = opened; words = ws; given = [] }) e)

-- ---- WORDS
-- the words of a recording do not depend on its octets
pub words_all : (es : List Entry) (t : Tape) → (taped_all t es).words ≡ words_after_all t.words es
unfolding taped_all words_after_all
words_all [] t = refl
words_all (e ∷ es) t = words_all es (taped_with t e)

-- ---- NONE IS REFUSED
-- what comes first was taken, and those behind it are
pub first_done : (o rest : Result (Unit {0}) Refusal) → or_else o rest ≡ Ok tt → (o ≡ Ok tt) × (rest ≡ Ok tt)
first_done (Err x) rest h = absurd (let z : ◌≡◌ {A = ℕ} 0 1 = cc in omega arith)
first_done (Ok tt) rest h = (refl, h)

-- then all are in the trace
pub all_kept : (es : List Entry) (t : Tape) → records_check t.words es ≡ Ok tt → kept_of t es ≡ es
unfolding records_check kept_of
all_kept [] t h = refl
all_kept (e ∷ es) t h =
    let d = first_done (record_check t.words e) (records_check (words_after t.words e) es) h in
    kept t e d.0 es ∙ ap (λ (l : List Entry). e ∷ l) (all_kept es (taped_with t e) d.1)

-- ---- HOW LONG IT IS
-- octets put into others that have the room
pub over_length : (d : List ℕ) (at : ℕ) (s : List ℕ) → at + length s ≤ length d → length (over d at s) ≡ length d
over_length d at s h =
    omega (arith, length-append (take at d ++ s) (drop (at + length s) d), length-append (take at d) s, length-take-le at d (omega arith), length-drop (at + length s) d)

added_length : (s : List ℕ) (at : ℕ) (e : Entry) → length s ≡ 512 → at + size_of e ≤ 512 → length (added_to s at e) ≡ 512
unfolding added_to
added_length s at e h k =
    let n : length (entry_octets e []) ≡ 11 + length e.message = omega (arith, ap length (append-nil e.message)) in
    let o = over s 14 (octets_of 2 (suc (count_of s)) []) in
    let l : length o ≡ length s = over_length s 14 (octets_of 2 (suc (count_of s)) []) (omega arith) in
    over_length o at (entry_octets e []) (omega arith) ∙ l ∙ h

sealed_length : (s : List ℕ) → length s ≡ 512 → length (sealed s) ≡ 512
unfolding sealed
sealed_length s h = omega (arith, length-drop 2 s)

-- the open block has 512 octets, and the trace as many blocks as were numbered
pub record Whole (t : Tape) : Type 0 where
  pub opened : length t.opened ≡ 512
  pub trace : length (trace_of t) ≡ 512 * next_of t.words

module _ (t : Tape) (e : Entry) (w : Whole t) where
  whole_fits : fits t.words e ≡ true
      → (length (added_to t.opened (end_of t.words) e) ≡ 512)
      × (length ((t.given ++ []) ++ pick (leb records_at (end_of t.words + size_of e)) (sealed (added_to t.opened (end_of t.words) e)) []) ≡ 512 * next_of t.words)
  whole_fits f =
      let b = bounds (end_of t.words) (length e.message) f in
      let a = added_to t.opened (end_of t.words) e in
      let l : length a ≡ 512 = added_length t.opened (end_of t.words) e w.opened b.1 in
      let q : length (trace_of t) ≡ length t.given + 512 =
      ap (λ (o : Bool). length (t.given ++ pick o (sealed t.opened) [])) (le-leb records_at (end_of t.words) b.0)
      ∙ length-append t.given (sealed t.opened) ∙ ap (λ (k : ℕ). length t.given + k) (sealed_length t.opened w.opened) in (
        l,
        rw (le-leb records_at (end_of t.words + size_of e) (omega arith))
            (length-append (t.given ++ []) (sealed a) ∙ omega (arith, length-append t.given [], sealed_length a l, w.trace)),
      )

  whole_by : (o : Result (Unit {0}) Refusal) → record_check t.words e ≡ o → (b : Bool) → fits t.words e ≡ b → Whole (taped_with t e)
  whole_by (Err x) r b f = record { opened = rw r w.opened; trace = rw (r, append-nil) w.trace }
  whole_by (Ok tt) r true f =
      let k = whole_fits f in
      record { opened = rw (r, f) k.0; trace = rw (r, f) k.1 }
  whole_by (Ok tt) r false f =
      let s = (done t.words e r).short in
      let n = opened_of (next_of t.words) e.time in
      let a = added_to n records_at e in
      let l : length a ≡ 512 = added_length n records_at e (omega (arith, length-replicate {A = ℕ} 496 0)) (omega arith) in
      record {
        opened = rw (r, f) l;
        trace = rw (r, f, le-leb records_at (records_at + size_of e) (omega arith))
            (length-append (trace_of t) (sealed a) ∙ omega (arith, sealed_length a l, w.trace));
      }

whole_all : (es : List Entry) (t : Tape) → Whole t → Whole (taped_all t es)
unfolding taped_all
whole_all [] t w = w
whole_all (e ∷ es) t w = whole_all es (taped_with t e) (whole_by t e w (record_check t.words e) refl (fits t.words e) refl)

-- THE TRACE has as many blocks as the next one's number says
pub trace_length : (es : List Entry) → length (trace_by es) ≡ 512 * next_of (words_after_all fresh_words es)
trace_length es =
    let t : Tape = fresh_tape (replicate block_octets 0) 0 in
    (whole_all es t (record { opened = length-replicate {A = ℕ} 512 0; trace = refl })).trace ∙ ap (λ (ws : List ℕ). 512 * next_of ws) (words_all es t)
