-- Going through a block whose layout is right, record by record from octet 0 on, meets its records, and ends behind the last of them.
use Prim.Native.Nat.{ℕ, zero, suc}
use mathlib.Core.Path.{◌≡◌, refl, sym, ap, ◌∙◌}
use mathlib.Core.List.{List, [], ◌∷◌}
use mathlib.Core.Bool.{true, false, ◌&&◌, and-false}
use lib.Dec.{leb, eqb}
use lib.ListN.{get_or, drop}
use lib.Seq.{get_or-drop}
use borrow.Author.Tests.{eqb-true}
use Rattle.laws.proofs.Bools.{both}
use Rattle.refusal.specs.Limits.{is_port}
use Rattle.block.specs.Layout.{records_at, Entry, port_at, end_at, entry_at, count_of, entries_from, entries_of}
use Rattle.judging.specs.Tests.{all_zero, laid_from, is_laid}
use Rattle.judging.specs.Walking.{is_record_at, walked}
use Rattle.judging.proofs.TestLaws.{laid}

-- what is zero throughout has no other octet
pub zeros : (l : List ℕ) (k : ℕ) → all_zero l ≡ true → get_or l k 0 ≡ 0
unfolding all_zero
zeros [] k z = refl
zeros (x ∷ l) zero z = eqb-true x 0 (both (eqb x 0) (all_zero l) z).0
zeros (x ∷ l) (suc k) z = zeros l k (both (eqb x 0) (all_zero l) z).1

-- where nothing but zeros follows, no record stands
none_stands : (s : List ℕ) (at : ℕ) → all_zero (drop at s) ≡ true → is_record_at s at ≡ false
none_stands s at z =
    let p : port_at s at ≡ 0 = sym (get_or-drop at s 8 0) ∙ zeros (drop at s) 8 z in
    rw p (and-false (leb (end_at s at) 512))

-- so many records and no more
met : (n : ℕ) (s : List ℕ) (at : ℕ) → laid_from n s at ≡ true → walked (suc n) s at ≡ entries_from n s at
unfolding laid_from walked entries_from
met zero s at h = rw (none_stands s at h)
met (suc n) s at h =
    let whole = both (leb (end_at s at) 512) (is_port (port_at s at) && laid_from n s (end_at s at)) h in
    let its = both (is_port (port_at s at)) (laid_from n s (end_at s at)) whole.1 in
    rw (whole.0, its.0) (ap (λ (l : List Entry). entry_at s at ∷ l) (met n s (end_at s at) its.1))

-- the records that are met are those of the block
pub walk_meets : (s : List ℕ) → is_laid s ≡ true → walked (suc (count_of s)) s records_at ≡ entries_of s
walk_meets s h = met (count_of s) s records_at (laid s h).records
