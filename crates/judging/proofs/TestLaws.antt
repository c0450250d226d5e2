-- Laws of the four tests of a block: records and their times by one record more, what a layout that is right says, which answer the times
-- give, and the verdict test by test.
use Rattle.std.specs.Prelude.{Some, None, Result, Ok, Err}
use Prim.Native.Nat.{ℕ, suc, ◌+◌, ◌-◌, ◌<◌, ◌≤◌}
use mathlib.Core.Path.{◌≡◌, refl, sym, ap, ◌∙◌}
use mathlib.Core.List.{List}
use mathlib.Core.Bool.{Bool, true, false, not, ◌&&◌}
use Rattle.std.proofs.Math.Bool.{and_assoc}
use native.Mathlib.Omega.{arith}
use lib.Dec.{leb}
use lib.ListN.{length}
use borrow.Author.Tests.{eq-eqb, ne_eqb, le-leb, lt-leb, eqb-true, leb-true}
use Rattle.laws.proofs.Bools.{both}
use Rattle.refusal.specs.Choice.{pick, refuse}
use Rattle.refusal.proofs.Choice.{stops, passes}
use Rattle.refusal.specs.Limits.{is_port}
use Rattle.block.specs.Layout.{block_octets, records_at, Entry, entries_from, entries_of, first_time_of, count_of, time_at, port_at, end_at}
use Rattle.block.specs.Check.{is_checked}
use Rattle.judging.specs.Tests.{laid_from, is_laid, is_in_order, is_next, last_of, times_of, reader_after, verdict_of}
use Rattle.judging.specs.declared.Reader.{Reader}
use Rattle.judging.specs.declared.Flaw.{Flaw}
use Rattle.judging.specs.declared.Flaw.TheVariants.{Check, Layout, Number, Time}
use Rattle.judging.specs.Walking.{is_record_at, place_at, record_at}
use Rattle.judging.specs.declared.walking.Place.{Place}

-- ---- WHAT IS CHOSEN SAYS WHICH IT IS
picked_none : {A : Type 0} (b : Bool) (x : A) → pick b (Some x) None ≡ None → b ≡ false
picked_none true x e = cc
picked_none false x e = refl

picked_some : {A : Type 0} (b : Bool) (x y : A) → pick b (Some x) None ≡ Some y → (b ≡ true) × (x ≡ y)
picked_some true x y e = (refl, cc)
picked_some false x y e = (cc, cc)

-- ---- RECORDS
-- of n records i are passed: where none stands at an octet they are not laid out right, and else the others behind it have to be
module _ (s : List ℕ) (at n i : ℕ) (h : i < n) where
  one_more : n - i ≡ suc (n - (i + 1))
  one_more = omega arith

  one_record : laid_from (n - i) s at ≡ (is_record_at s at && laid_from (n - (i + 1)) s (end_at s at))
  unfolding laid_from
  one_record = rw one_more (sym (and_assoc (leb (end_at s at) block_octets) (is_port (port_at s at)) _))

  pub laid_none : record_at s at ≡ None → false ≡ laid_from (n - i) s at
  unfolding record_at
  laid_none e = sym (one_record ∙ rw (picked_none (is_record_at s at) (place_at s at) e))

  pub laid_more : (p : Place) → record_at s at ≡ Some p → (p.end ≤ block_octets) × (laid_from (n - (i + 1)) s p.end ≡ laid_from (n - i) s at)
  unfolding record_at
  laid_more p e =
      let k = picked_some (is_record_at s at) (place_at s at) p e in
      let f : end_at s at ≡ p.end = ap (λ (q : Place). q.end) k.1 in
      (rw (← f) (leb-true _ _ (both _ _ k.0).0), rw (← f) (sym (one_record ∙ rw k.0)))

  -- all are whole: then it is, and those behind it
  pub laid_on : laid_from (n - i) s at ≡ true → (end_at s at ≤ block_octets) × (is_port (port_at s at) ≡ true) × (laid_from (n - (i + 1)) s (end_at s at) ≡ true)
  unfolding laid_from
  laid_on e =
      let p = both _ _ (rw one_more at e) in
      let q = both _ _ p.1 in
      (leb-true _ _ p.0, q.0, q.1)

  -- its time is below the last one; or it is not, and is the last one from there on
  pub times_fall : (t : ℕ) → time_at s at < t → None ≡ times_of t (entries_from (n - i) s at)
  unfolding entries_from is_in_order
  times_fall t e = rw (one_more, lt-leb _ _ e)

  pub times_more : (t : ℕ) → t ≤ time_at s at → times_of (time_at s at) (entries_from (n - (i + 1)) s (end_at s at)) ≡ times_of t (entries_from (n - i) s at)
  unfolding entries_from is_in_order last_of
  times_more t e = rw (one_more, le-leb _ _ e)

-- ---- THE LAYOUT
-- what a layout that is right says, part by part
pub record Laid (s : List ℕ) : Type 0 where
  pub whole : length s ≡ block_octets
  pub some : 1 ≤ count_of s
  pub first : first_time_of s ≡ time_at s records_at
  pub records : laid_from (count_of s) s records_at ≡ true

pub laid : (s : List ℕ) → is_laid s ≡ true → Laid s
unfolding is_laid
laid s e =
    let p = both _ _ e in
    let q = both _ _ p.1 in
    let r = both _ _ q.1 in
    record { whole = eqb-true _ _ p.0; some = leb-true _ _ q.0; first = eqb-true _ _ r.0; records = r.1 }

-- what is not of 512 octets has no layout that is right
pub not_laid : (s : List ℕ) → (length s ≡ block_octets → ⊥) → is_laid s ≡ false
unfolding is_laid
not_laid s h = rw (ne_eqb _ _ h)

-- ---- THE TIMES
-- some time falls; or none does, and this is the last
module _ (last : ℕ) (es : List Entry) where
  pub falls : times_of last es ≡ None → is_in_order last es ≡ false
  falls e = picked_none (is_in_order last es) (last_of last es) e

  pub rises : (t : ℕ) → times_of last es ≡ Some t → (is_in_order last es ≡ true) × (last_of last es ≡ t)
  rises t e = picked_some (is_in_order last es) (last_of last es) t e

-- ---- ALL FOUR
-- what the tests from one on give
module _ (r : Reader) (s : List ℕ) where
  abbrev pub from_time : Result Reader Flaw
  from_time = refuse (not (is_in_order r.last (entries_of s))) (Err Time) (Ok (reader_after r s))

  abbrev pub from_number : Result Reader Flaw
  from_number = refuse (not (is_next r.next s)) (Err Number) from_time

  abbrev pub from_layout : Result Reader Flaw
  from_layout = refuse (not (is_laid s)) (Err Layout) from_number

  abbrev pub from_check : Result Reader Flaw
  from_check = refuse (not (is_checked s)) (Err Check) from_layout

  -- what is not of 512 octets fails by its layout; what is, by the first of the four
  pub not_whole : (length s ≡ block_octets → ⊥) → Err Layout ≡ verdict_of r s
  unfolding verdict_of
  not_whole h = passes (Err Check) (rw (ne_eqb _ _ h)) (stops _ (ap not (not_laid s h)))

  pub is_whole : {v : Result Reader Flaw} → length s ≡ block_octets → v ≡ from_check → v ≡ verdict_of r s
  unfolding verdict_of
  is_whole h e = rw (eq-eqb _ _ h) e
