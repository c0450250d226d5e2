-- How `tidy` blanks the unused slots.
use Prim.Native.Nat.{ℕ, zero, suc, ◌-◌, ◌≤◌, min}
use mathlib.Core.Path.{◌≡◌, refl, ap, ap₂, ◌∙◌, sym}
use mathlib.Core.List.{List, [], ◌∷◌, ◌++◌, append-nil}
use native.Mathlib.Omega.{arith}
use lib.ListN.{length, take, drop, replicate, length-take, take-append-drop, drop_of_length-le}
use Rattle.std.proofs.lemmas.List.{length-replicate}
use Rattle.std.proofs.lemmas.Slice.{take-put_mid, drop-put_mid}
use borrow.Rule.Slice.PartMut.{put_mid}
use Rattle.rank.specs.declared.Candidate.{Candidate}
use Rattle.rank.specs.declared.Ranked.{Ranked}
use Rattle.rank.specs.Ranked.{blank_of, pack, unpack}
use Rattle.rank.proofs.Sinking.{take_min}

abbrev blanks : List Candidate
blanks = blank_of ∷ blank_of ∷ blank_of ∷ blank_of ∷ []

blanks_are : (n : ℕ) → n ≤ 4 → replicate (4 - n) blank_of ≡ drop n blanks
blanks_are zero h = refl
blanks_are (suc zero) h = refl
blanks_are (suc (suc zero)) h = refl
blanks_are (suc (suc (suc zero))) h = refl
blanks_are (suc (suc (suc (suc zero)))) h = refl
blanks_are (suc (suc (suc (suc (suc n))))) h = absurd (omega arith)

filled : (n : ℕ) (first last : List Candidate) → n ≤ 4 → length first ≡ 4 → last ≡ replicate (4 - n) blank_of
    → put_mid n (4 - n) first last ≡ take n first ++ drop n blanks
filled n first last h e f =
    let k : length last ≡ 4 - n = ap length f ∙ length-replicate (4 - n) blank_of in
    let slots = put_mid n (4 - n) first last in
    let none : drop 4 slots ≡ [] = drop-put_mid n (4 - n) first last 4 (omega arith) (omega arith) k ∙ drop_of_length-le first {i = 4} (omega arith) in
    sym (take-append-drop 4 slots)
    ∙ ap₂ ◌++◌ (take-put_mid n (4 - n) first last 4 (omega arith) (omega arith)) none
    ∙ append-nil (take n first ++ last)
    ∙ ap (λ (l : List Candidate). take n first ++ l) (f ∙ blanks_are n h)

-- what they are then
pub to_pack : (r : Ranked) (n : ℕ) → length r.slots ≡ 4 → n ≡ min r.len 4 → (last : List Candidate) → last ≡ replicate (4 - n) blank_of
    → ◌≡◌ {A = Ranked} (record { len = n; slots = put_mid n (4 - n) r.slots last }) (pack (unpack r))
to_pack r n e h last f =
    let q = filled n r.slots last (omega arith) e f in
    let t : take n r.slots ≡ unpack r = rw h (take_min r.len r.slots e) in
    let k : length (unpack r) ≡ n = omega (arith, length-take r.len r.slots) in
    rw k (λ i. record { len = n; slots = (q ∙ ap (λ (l : List Candidate). l ++ drop n blanks) t) i })
