-- What was recorded can be read again: every block of the trace passes the four tests behind those before it, and the records read are those that were
-- kept.
use Rattle.std.specs.Prelude.{Ok}
use Prim.Native.Nat.{ℕ, suc, ◌+◌, ◌≤◌, ◌<◌}
use mathlib.Core.Path.{◌≡◌, ◌∙◌, refl, sym, ap, subst}
use mathlib.Core.List.{List, [], ◌∷◌, ◌++◌, map, flatten}
use mathlib.Core.Bool.{Bool, true, not, ◌&&◌, and-false}
use native.Mathlib.Omega.{arith}
use lib.Dec.{leb}
use lib.ListN.{length}
use borrow.Author.Tests.{le-leb}
use Rattle.laws.proofs.Bools.{both}
use Rattle.refusal.proofs.Choice.{goes_on}
use Rattle.block.specs.Layout.{Entry, entries_of}
use Rattle.judging.specs.Tests.{is_whole, is_in_order, last_of, verdict_of, reader_after}
use Rattle.block.specs.Making.{sizes_of, open_block, block_of, EntryFits, OnPort, All}
use Rattle.judging.specs.declared.Reader.{Reader}
use Rattle.block.proofs.Check.{sealed_checked}
use Rattle.block.proofs.Made.{block_length, block_number, block_entries}
use Rattle.judging.proofs.Laid.{block_laid}
use Rattle.traces.specs.Taped.{fresh_tape, kept_of, cut, numbered, IsHeld, Filled, none, last, more, Sounds, end, next}
use Rattle.traces.proofs.Cutting.{all_there, filled}
use Rattle.traces.proofs.Meaning.{numbers_fit}
use Rattle.traces.proofs.Kept.{kept_of_lem, kept_short, kept_on_port, times_never_fall}

-- ---- ONE BLOCK
module _ (r : Reader) (n : ℕ) (es : List Entry) (held : IsHeld es) (fits : All EntryFits es) (ports : All OnPort es) (number : n < 4294967296) where
  size : sizes_of es ≤ 496
  size = omega (arith, held.room)

  -- the reader behind it
  reader_is : reader_after r (block_of n es) ≡ record { next = suc n; last = last_of r.last es }
  reader_is = λ i. record { next = suc (block_number n es size number i); last = last_of r.last (block_entries n es size fits i) }

  -- it is sound, behind a lower number and times that it does not fall below
  block_sound : r.next ≤ n → is_in_order r.last es ≡ true → verdict_of r (block_of n es) ≡ Ok (reader_after r (block_of n es))
  unfolding verdict_of
  block_sound l o =
      goes_on _ _ _ (ap (λ (b : Bool). is_whole (block_of n es) && not b) (sealed_checked (open_block n es)) ∙ and-false (is_whole (block_of n es)))
      ∙ goes_on _ _ _ (ap not (block_laid n es size fits held.some ports))
      ∙ goes_on _ _ _ (ap not (ap (leb r.next) (block_number n es size number) ∙ le-leb r.next n l))
      ∙ goes_on _ _ _ (ap not (ap (is_in_order r.last) (block_entries n es size fits) ∙ o))

-- ---- ONE BEHIND THE OTHER
-- what holds of several holds of the first ones and of the others; and so do times that never fall
all_split : (P : Entry → Type 0) (es fs : List Entry) → All P (es ++ fs) → All P es × All P fs
all_split P [] fs a = (tt, a)
all_split P (e ∷ es) fs a = let s = all_split P es fs a.1 in ((a.0, s.0), s.1)

order_split : (l : ℕ) (es fs : List Entry) → is_in_order l (es ++ fs) ≡ true → (is_in_order l es ≡ true) × (is_in_order (last_of l es) fs ≡ true)
unfolding is_in_order last_of
order_split l [] fs o = (refl, o)
order_split l (e ∷ es) fs o =
    let b = both (leb l e.time) (is_in_order e.time (es ++ fs)) o in
    let s = order_split e.time es fs b.1 in
    ((λ i. b.0 i && s.0 i), s.1)

-- blocks that are filled: the first, and the others
first_held : {es : List Entry} {bs : List (List Entry)} → Filled (es ∷ bs) → IsHeld es × Filled bs
first_held (last h) = (h, none)
first_held (more h f p) = (h, p)

-- blocks of records that a host can hand in, filled, of the ports that there are
record Good (bs : List (List Entry)) : Type 0 where
  are_filled : Filled bs
  all_fit : All EntryFits (flatten bs)
  all_ports : All OnPort (flatten bs)

record Split (es : List Entry) (bs : List (List Entry)) : Type 0 where
  held : IsHeld es
  fits : All EntryFits es
  ports : All OnPort es
  rest : Good bs

split : (es : List Entry) (bs : List (List Entry)) → Good (es ∷ bs) → Split es bs
unfolding flatten
split es bs g =
    let h = first_held g.are_filled in
    let f = all_split EntryFits es (flatten bs) g.all_fit in
    let p = all_split OnPort es (flatten bs) g.all_ports in
    record { held = h.0; fits = f.0; ports = p.0; rest = record { are_filled = h.1; all_fit = f.1; all_ports = p.1 } }

sounds : (bs : List (List Entry)) (r : Reader) (n : ℕ) → Good bs → is_in_order r.last (flatten bs) ≡ true → r.next ≤ n → n + length bs ≤ 4294967296
    → Sounds r (numbered n bs)
unfolding numbered flatten
sounds [] r n g o l m = end
sounds (es ∷ bs) r n g o l m =
    let s = split es bs g in
    let p = order_split r.last es (flatten bs) o in
    let k : n < 4294967296 = omega arith in
    let a = reader_is r n es s.held s.fits s.ports k in
    next (block_length n es (size r n es s.held s.fits s.ports k))
    (block_sound r n es s.held s.fits s.ports k l p.0)
    (subst (λ (q : Reader). Sounds q (numbered (suc n) bs)) (sym a) (sounds bs (record { next = suc n; last = last_of r.last es }) (suc n) s.rest p.1 (omega arith) (omega arith)))

-- the records are read as they were
read_back : (bs : List (List Entry)) (n : ℕ) → Good bs → map entries_of (numbered n bs) ≡ bs
unfolding numbered
read_back [] n g = refl
read_back (es ∷ bs) n g =
    let s = split es bs g in
    λ i. block_entries n es (omega (arith, s.held.room)) s.fits i ∷ read_back bs (suc n) s.rest i

-- ---- A RECORDING
module _ (opened : List ℕ) (n : ℕ) (es : List Entry) (fits : All EntryFits es) where
  good : Good (cut (kept_of (fresh_tape opened n) es))
  good =
      let k = kept_of (fresh_tape opened n) es in
      record {
        are_filled = filled k (kept_short es (fresh_tape opened n));
        all_fit = rw all_there (kept_of_lem EntryFits es (fresh_tape opened n) fits);
        all_ports = rw all_there (kept_on_port es (fresh_tape opened n));
      }

  -- ITS BLOCKS pass the four tests, one behind the other
  pub trace_sound : n ≤ 4294967296 → Sounds (record { next = 0; last = 0 }) (numbered n (cut (kept_of (fresh_tape opened n) es)))
  trace_sound m =
      sounds (cut (kept_of (fresh_tape opened n) es)) (record { next = 0; last = 0 }) n good
      (ap (is_in_order 0) (all_there _) ∙ times_never_fall opened n es)
      (omega arith)
      (numbers_fit opened n es m)

  -- THE RECORDS that are read from them are those that were kept
  pub records_back : flatten (map entries_of (numbered n (cut (kept_of (fresh_tape opened n) es)))) ≡ kept_of (fresh_tape opened n) es
  records_back = ap flatten (read_back (cut (kept_of (fresh_tape opened n) es)) n good) ∙ all_there (kept_of (fresh_tape opened n) es)
