-- What a recording is, over the calls from a fresh one on. The words and the open block always mean the records that the open block holds; and the
-- trace that came out is all the records that were not refused, in their order, in blocks each filled while the next record fits, numbered by one,
-- each closed.
use Rattle.std.specs.Prelude.{Result, Ok, Err}
use Prim.Native.Nat.{ℕ, suc, ◌+◌, ◌≤◌}
use mathlib.Core.Path.{◌≡◌, ◌∙◌, refl, sym, ap, subst}
use mathlib.Core.List.{List, [], ◌∷◌, ◌++◌, flatten, append_assoc, append-nil}
use mathlib.Core.Bool.{Bool, true, false, not, ◌&&◌}
use native.Mathlib.Omega.{arith}
use lib.Dec.{leb}
use lib.ListN.{length}
use borrow.Author.Tests.{le-leb, leb-true}
use Rattle.refusal.specs.Choice.{pick}
use Rattle.refusal.specs.declared.Refusal.{Refusal}
use Rattle.block.specs.Layout.{records_at, block_octets, Entry}
use Rattle.block.specs.Making.{size_of, sizes_of, added_to, sealed, block_of}
use Rattle.block.proofs.Made.{added_opened, added_more, sizes_snoc}
use Rattle.recording.specs.Recording.{next_of, end_of, is_open, has_place, fits, closes, record_check, lent_by, open_with, words_with}
use Rattle.traces.specs.Taped.{Tape, given_by, taped_with, taped_all, trace_of, fresh_tape, kept_by, kept_of, has_room, cut_from, cut, numbered, Holding, Means, closed, holding}
use Rattle.recording.proofs.Refusing.{done, has_number}
use Rattle.traces.proofs.Cutting.{chosen, other, one_held, more_held}

-- what fits by the words is what has room by the records
fits_room : (t : Tape) (n : ℕ) (held : List Entry) (e : Entry) → Holding t n held → fits t.words e ≡ has_room held e
fits_room t n held e h =
    let a : records_at + sizes_of held + size_of e ≡ records_at + (sizes_of held + size_of e) = omega arith in
    ap (λ (k : ℕ). has_place k (length e.message)) h.end_is
    ∙ ap (λ (b : Bool). b && leb (records_at + sizes_of held + size_of e) block_octets) (le-leb records_at (records_at + sizes_of held) (omega arith))
    ∙ ap (λ (k : ℕ). leb k block_octets) a

-- ---- ONE CALL
module _ (t : Tape) (e : Entry) where
  -- refused: all stays
  module _ (x : Refusal) (r : record_check t.words e ≡ Err x) where
    pub words_stay : (taped_with t e).words ≡ t.words
    words_stay = ap (λ (o : Result (Unit {0}) Refusal). lent_by o t.words (words_with t.words e)) r

    opened_stays : (taped_with t e).opened ≡ t.opened
    opened_stays = ap (λ (o : Result (Unit {0}) Refusal). lent_by o t.opened (open_with t.opened t.words e)) r

    given_stays : (taped_with t e).given ≡ t.given
    given_stays = ap (λ (o : Result (Unit {0}) Refusal). t.given ++ given_by o t.opened t.words e) r ∙ append-nil t.given

    pub not_kept : (es : List Entry) → kept_of t (e ∷ es) ≡ kept_of (taped_with t e) es
    unfolding kept_of
    not_kept es = ap (λ (o : Result (Unit {0}) Refusal). kept_by o e (kept_of (taped_with t e) es)) r

    holds_on : (n : ℕ) (held : List Entry) → Holding t n held → Holding (taped_with t e) n held
    holds_on n held h =
        record {
          opened_is = opened_stays ∙ h.opened_is;
          next_is = ap next_of words_stay ∙ h.next_is;
          end_is = ap end_of words_stay ∙ h.end_is;
          is_held = h.is_held;
        }

  -- not refused: it is kept, behind the others or in the next block
  module _ (r : record_check t.words e ≡ Ok tt) where
    pub words_then : (taped_with t e).words ≡ words_with t.words e
    words_then = ap (λ (o : Result (Unit {0}) Refusal). lent_by o t.words (words_with t.words e)) r

    opened_then : (taped_with t e).opened ≡ open_with t.opened t.words e
    opened_then = ap (λ (o : Result (Unit {0}) Refusal). lent_by o t.opened (open_with t.opened t.words e)) r

    given_then : (taped_with t e).given ≡ t.given ++ pick (closes t.words e) (sealed t.opened) []
    given_then = ap (λ (o : Result (Unit {0}) Refusal). t.given ++ given_by o t.opened t.words e) r

    pub kept : (es : List Entry) → kept_of t (e ∷ es) ≡ e ∷ kept_of (taped_with t e) es
    unfolding kept_of
    kept es = ap (λ (o : Result (Unit {0}) Refusal). kept_by o e (kept_of (taped_with t e) es)) r

    short : length e.message ≤ 485
    short = (done t.words e r).short

    -- it has room
    module _ (n : ℕ) (held : List Entry) (h : Holding t n held) (f : has_room held e ≡ true) where
      fits_then : fits t.words e ≡ true
      fits_then = fits_room t n held e h ∙ f

      words_more : (taped_with t e).words ≡ next_of t.words ∷ e.time ∷ (end_of t.words + size_of e) ∷ []
      words_more = words_then ∙ chosen _ _ fits_then

      holds_more : Holding (taped_with t e) n (held ++ (e ∷ []))
      holds_more =
          record {
            opened_is =
                opened_then
                ∙ chosen _ _ fits_then
                ∙ (λ i. added_to (h.opened_is i) (h.end_is i) e)
                ∙ added_more n held e h.is_held.some (leb-true _ _ f);
            next_is = ap next_of words_more ∙ h.next_is;
            end_is = ap end_of words_more ∙ omega (arith, h.end_is, sizes_snoc held e);
            is_held = more_held held e f;
          }

      none_given : (taped_with t e).given ≡ t.given
      none_given = given_then ∙ ap (λ (b : Bool). t.given ++ pick (not b && is_open t.words) (sealed t.opened) []) fits_then ∙ append-nil t.given

    -- it has none: what was open comes out, and it is the first record of the next block
    module _ (f : fits t.words e ≡ false) where
      words_one : (taped_with t e).words ≡ suc (next_of t.words) ∷ e.time ∷ (records_at + size_of e) ∷ []
      words_one = words_then ∙ other _ _ f

      holds_one : Holding (taped_with t e) (next_of t.words) (e ∷ [])
      unfolding sizes_of
      holds_one =
          record {
            opened_is = opened_then ∙ other _ _ f ∙ added_opened (next_of t.words) e (omega (arith, short));
            next_is = ap next_of words_one;
            end_is = ap end_of words_one ∙ omega arith;
            is_held = one_held e short;
          }

      given_last : (taped_with t e).given ≡ t.given ++ pick (is_open t.words) (sealed t.opened) []
      given_last = given_then ∙ ap (λ (b : Bool). t.given ++ pick (not b && is_open t.words) (sealed t.opened) []) f

-- ---- ALL CALLS
-- one is open: the open block as it would be closed
open_now : (t : Tape) (n : ℕ) (held : List Entry) → Holding t n held → pick (is_open t.words) (sealed t.opened) [] ≡ block_of n held
open_now t n held h = chosen _ _ (ap (leb records_at) h.end_is ∙ le-leb records_at (records_at + sizes_of held) (omega arith)) ∙ ap sealed h.opened_is

-- none is open: nothing fits, and nothing comes out
none_fits : (t : Tape) (e : Entry) → end_of t.words ≡ 0 → fits t.words e ≡ false
none_fits t e z = rw z

none_open : (t : Tape) → end_of t.words ≡ 0 → t.given ++ pick (is_open t.words) (sealed t.opened) [] ≡ t.given
none_open t z = ap (λ (k : ℕ). t.given ++ pick (leb records_at k) (sealed t.opened) []) z ∙ append-nil t.given

-- what comes of more calls: blocks from a number on, behind what was given; and their numbers fit
record Comes (t : Tape) (es : List Entry) (n : ℕ) (bs : List (List Entry)) : Type 0 where
  trace : trace_of (taped_all t es) ≡ t.given ++ flatten (numbered n bs)
  numbers : next_of t.words ≤ 4294967296 → n + length bs ≤ 4294967296

module _ (t : Tape) (e : Entry) (es : List Entry) where
  abbrev Then : ℕ → List Entry → Type 0
  Then m held = Comes (taped_with t e) es m (cut_from held (kept_of (taped_with t e) es))

  -- a refused call changes nothing of it
  refused_comes : (x : Refusal) → record_check t.words e ≡ Err x → (n : ℕ) (f : List Entry → List (List Entry))
      → Comes (taped_with t e) es n (f (kept_of (taped_with t e) es)) → Comes t (e ∷ es) n (f (kept_of t (e ∷ es)))
  unfolding taped_all
  refused_comes x r n f c =
      record {
        trace = c.trace ∙ (λ i. given_stays t e x r i ++ flatten (numbered n (f (sym (not_kept t e x r es) i))));
        numbers = λ l. rw (not_kept t e x r es) (c.numbers (rw (words_stay t e x r) l));
      }

  module _ (r : record_check t.words e ≡ Ok tt) where
    -- a record that has room stays in its block
    more_comes : (n : ℕ) (held : List Entry) → Holding t n held → has_room held e ≡ true → Then n (held ++ (e ∷ []))
        → Comes t (e ∷ es) n (cut_from held (kept_of t (e ∷ es)))
    unfolding taped_all cut_from
    more_comes n held h f c =
        let k : cut_from held (kept_of t (e ∷ es)) ≡ cut_from (held ++ (e ∷ [])) (kept_of (taped_with t e) es) = ap (cut_from held) (kept t e r es) ∙ chosen _ _ f in
        record {
          trace = c.trace ∙ (λ i. none_given t e r n held h f i ++ flatten (numbered n (sym k i)));
          numbers = λ l. rw k (c.numbers (rw (words_more t e r n held h f) l));
        }

    -- one that has none closes the block
    next_comes : (n : ℕ) (held : List Entry) → Holding t n held → has_room held e ≡ false → Then (suc n) (e ∷ [])
        → Comes t (e ∷ es) n (cut_from held (kept_of t (e ∷ es)))
    unfolding taped_all cut_from numbered flatten
    next_comes n held h f c =
        let g = fits_room t n held e h ∙ f in
        let k : cut_from held (kept_of t (e ∷ es)) ≡ held ∷ cut_from (e ∷ []) (kept_of (taped_with t e) es) = ap (cut_from held) (kept t e r es) ∙ other _ _ f in
        record {
          trace = c.trace
              ∙ ap (λ (o : List ℕ). o ++ flatten (numbered (suc n) (cut_from (e ∷ []) (kept_of (taped_with t e) es))))
              (given_last t e r g ∙ ap (λ (o : List ℕ). t.given ++ o) (open_now t n held h))
              ∙ append_assoc t.given (block_of n held) _
              ∙ ap (λ (bs : List (List Entry)). t.given ++ flatten (numbered n bs)) (sym k);
          numbers = λ l. rw k (omega (arith, c.numbers (rw (words_one t e r g) (omega (arith, has_number t.words e r g)))));
        }

    -- the first record opens the first block
    first_comes : (n : ℕ) → end_of t.words ≡ 0 → next_of t.words ≡ n → Then n (e ∷ []) → Comes t (e ∷ es) n (cut (kept_of t (e ∷ es)))
    unfolding taped_all
    first_comes n z m c =
        let g = none_fits t e z in
        let k : cut (kept_of t (e ∷ es)) ≡ cut_from (e ∷ []) (kept_of (taped_with t e) es) = ap cut (kept t e r es) in
        record {
          trace = c.trace ∙ (λ i. (given_last t e r g ∙ none_open t z) i ++ flatten (numbered n (sym k i)));
          numbers = λ l. rw k (c.numbers (rw (words_one t e r g) (omega (arith, has_number t.words e r g))));
        }

-- by what becomes of the first call
module _ (t : Tape) (e : Entry) (es : List Entry) (n : ℕ) where
  held_step : (held : List Entry) → Holding t n held → ((m : ℕ) (hs : List Entry) → Holding (taped_with t e) m hs → Then t e es m hs)
      → (o : Result (Unit {0}) Refusal) → record_check t.words e ≡ o → (b : Bool) → has_room held e ≡ b → Comes t (e ∷ es) n (cut_from held (kept_of t (e ∷ es)))
  held_step held h ih (Err x) r b f = refused_comes t e es x r n (cut_from held) (ih n held (holds_on t e x r n held h))
  held_step held h ih (Ok tt) r true f = more_comes t e es r n held h f (ih n (held ++ (e ∷ [])) (holds_more t e r n held h f))
  held_step held h ih (Ok tt) r false f =
      next_comes t e es r n held h f
      (ih (suc n) (e ∷ []) (subst (λ (m : ℕ). Holding (taped_with t e) m (e ∷ [])) h.next_is (holds_one t e r (fits_room t n held e h ∙ f))))

  fresh_step : end_of t.words ≡ 0 → next_of t.words ≡ n
      → (end_of (taped_with t e).words ≡ 0 → next_of (taped_with t e).words ≡ n → Comes (taped_with t e) es n (cut (kept_of (taped_with t e) es)))
      → ((m : ℕ) (hs : List Entry) → Holding (taped_with t e) m hs → Then t e es m hs)
      → (o : Result (Unit {0}) Refusal) → record_check t.words e ≡ o → Comes t (e ∷ es) n (cut (kept_of t (e ∷ es)))
  fresh_step z m fresh held (Err x) r =
      refused_comes t e es x r n cut (fresh (ap end_of (words_stay t e x r) ∙ z) (ap next_of (words_stay t e x r) ∙ m))
  fresh_step z m fresh held (Ok tt) r =
      first_comes t e es r n z m
      (held n (e ∷ []) (subst (λ (m : ℕ). Holding (taped_with t e) m (e ∷ [])) m (holds_one t e r (none_fits t e z))))

-- from a block that holds some records on
held_comes : (es : List Entry) (t : Tape) (n : ℕ) (held : List Entry) → Holding t n held → Comes t es n (cut_from held (kept_of t es))
unfolding taped_all kept_of cut_from numbered flatten
held_comes [] t n held h =
    record {
      trace = ap (λ (o : List ℕ). t.given ++ o) (open_now t n held h ∙ sym (append-nil (block_of n held)));
      numbers = λ l. omega (arith, h.next_is);
    }
held_comes (e ∷ es) t n held h =
    held_step t e es n held h (λ m hs g. held_comes es (taped_with t e) m hs g) (record_check t.words e) refl (has_room held e) refl

-- from none
fresh_comes : (es : List Entry) (t : Tape) (n : ℕ) → end_of t.words ≡ 0 → next_of t.words ≡ n → Comes t es n (cut (kept_of t es))
unfolding taped_all kept_of numbered flatten
fresh_comes [] t n z m = record { trace = none_open t z ∙ sym (append-nil t.given); numbers = λ l. omega arith }
fresh_comes (e ∷ es) t n z m =
    fresh_step t e es n z m (λ y k. fresh_comes es (taped_with t e) n y k) (λ m hs g. held_comes es (taped_with t e) m hs g) (record_check t.words e) refl

module _ (opened : List ℕ) (n : ℕ) (es : List Entry) where
  -- THE TRACE of a recording: the records that were not refused, cut into blocks, numbered from n by one, each closed
  pub trace_is : trace_of (taped_all (fresh_tape opened n) es) ≡ flatten (numbered n (cut (kept_of (fresh_tape opened n) es)))
  trace_is = (fresh_comes es (fresh_tape opened n) n refl refl).trace

  -- NO BLOCK is past number 4,294,967,295
  pub numbers_fit : n ≤ 4294967296 → n + length (cut (kept_of (fresh_tape opened n) es)) ≤ 4294967296
  numbers_fit l = (fresh_comes es (fresh_tape opened n) n refl refl).numbers l

-- ---- WHAT THE WORDS MEAN
means_step : (t : Tape) (e : Entry) → Means t → (o : Result (Unit {0}) Refusal) → record_check t.words e ≡ o → (b : Bool) → fits t.words e ≡ b → Means (taped_with t e)
means_step t e (closed z) (Err x) r b f = closed (ap end_of (words_stay t e x r) ∙ z)
means_step t e (holding {n} {held} h) (Err x) r b f = holding (holds_on t e x r n held h)
means_step t e (closed z) (Ok tt) r b f = holding (holds_one t e r (none_fits t e z))
means_step t e (holding {n} {held} h) (Ok tt) r true f = holding (holds_more t e r n held h (sym (fits_room t n held e h) ∙ f))
means_step t e (holding h) (Ok tt) r false f = holding (holds_one t e r f)

means_all : (es : List Entry) (t : Tape) → Means t → Means (taped_all t es)
unfolding taped_all
means_all [] t m = m
means_all (e ∷ es) t m = means_all es (taped_with t e) (means_step t e m (record_check t.words e) refl (fits t.words e) refl)

-- AFTER ANY CALLS no block is open, or the open one holds records, as the words say
pub means : (opened : List ℕ) (n : ℕ) (es : List Entry) → Means (taped_all (fresh_tape opened n) es)
means opened n es = means_all es (fresh_tape opened n) (closed refl)
