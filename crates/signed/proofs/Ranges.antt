-- Ranges of signed numbers: what the limits tell, and what fits an `i64`.
use mathlib.Core.Path.{◌≡◌, refl, sym, ap, ap₂, ◌∙◌, subst}
use mathlib.Core.Bool.{Bool, true, false, ◌&&◌, and-false}
use mathlib.Core.Logic.{⊎_elim}
use Prim.Native.Nat.{ℕ, ◌+◌, ◌^◌, ◌<◌, ◌≤◌}
use native.Mathlib.Omega.{arith}
use lib.Dec.{T}
use lib.IntN.{ℤ, pos, negsuc, neg_ℤ, nat_abs, ◌+ℤ◌, ◌-ℤ◌}
use lib.Signed.{mag, non_neg, lt_z}
use mir.Syntax.{w64}
use mir.Val.{SFits}
use Rattle.laws.proofs.Bools.{both}
use Rattle.signed.specs.Limits.{within, Within, Raisable}
use Rattle.signed.proofs.Parts.{up, dn, one_zero, add_law, neg_law, sub_law, lt_z_told, lt_lt_z, le_lt_z, le_z_told, le_le_z}

-- a test that holds, as a claim, and back
pub holds : {t : Bool} → t ≡ true → T t
holds e = subst T (sym e) tt

pub holding : (t : Bool) → T t → t ≡ true
holding true h = refl
holding false h = absurd h

module _ (k : ℕ) (z : ℤ) where
  low : ℤ
  low = neg_ℤ (pos (2 ^ k))

  pub within_told : within k z ≡ true → (up z < 2 ^ k) × (dn z < 2 ^ k)
  unfolding low
  within_told e =
      let l = lt_z_told low z (both (lt_z low z) (lt_z z (pos (2 ^ k))) e).0 in
      let h = lt_z_told z (pos (2 ^ k)) (both (lt_z low z) (lt_z z (pos (2 ^ k))) e).1 in
      let n = neg_law (pos (2 ^ k)) in
      ⊎_elim (λ u. (omega arith, omega arith)) (λ d. (omega arith, omega arith)) (one_zero z)

  pub within_yes : up z < 2 ^ k + dn z → dn z < 2 ^ k + up z → within k z ≡ true
  unfolding low
  within_yes p q =
      let n = neg_law (pos (2 ^ k)) in
      ap₂ ◌&&◌ (lt_lt_z low z (omega arith)) (lt_lt_z z (pos (2 ^ k)) (omega arith))

  pub within_low : 2 ^ k + up z ≤ dn z → within k z ≡ false
  unfolding low
  within_low p =
      let n = neg_law (pos (2 ^ k)) in
      ap (λ (t : Bool). t && lt_z z (pos (2 ^ k))) (le_lt_z low z (omega arith))

  pub within_high : 2 ^ k + dn z ≤ up z → within k z ≡ false
  unfolding low
  within_high p = ap (λ (t : Bool). lt_z low z && t) (le_lt_z z (pos (2 ^ k)) (omega arith)) ∙ and-false (lt_z low z)

  -- the test and the claim
  pub within_claim : within k z ≡ true → Within k z
  unfolding low
  within_claim e =
      record {
        above = record { lt = holds (both (lt_z low z) (lt_z z (pos (2 ^ k))) e).0 };
        below = record { lt = holds (both (lt_z low z) (lt_z z (pos (2 ^ k))) e).1 };
      }

  pub claim_within : Within k z → within k z ≡ true
  unfolding low
  claim_within w = ap₂ ◌&&◌ (holding (lt_z low z) w.above.lt) (holding (lt_z z (pos (2 ^ k))) w.below.lt)

  pub within_parts : Within k z → (up z < 2 ^ k) × (dn z < 2 ^ k)
  within_parts w = within_told (claim_within w)

  pub parts_within : up z < 2 ^ k + dn z → dn z < 2 ^ k + up z → Within k z
  parts_within p q = within_claim (within_yes p q)

-- what fits an `i64`
pub mag_of : (z : ℤ) {H : ℕ} → up z < H + dn z → dn z ≤ H + up z → mag z < H
mag_of (pos n) p q = omega arith
mag_of (negsuc n) p q = omega arith

pub non_neg_of : (z : ℤ) → dn z ≤ up z → T (non_neg z)
non_neg_of (pos n) p = tt
non_neg_of (negsuc n) p = absurd (omega arith)

pub nat_abs_of : (z : ℤ) → dn z ≤ up z → z ≡ pos (nat_abs z)
nat_abs_of (pos n) p = refl
nat_abs_of (negsuc n) p = absurd (omega arith)

pub signed_fits : (z : ℤ) → up z < 2 ^ 63 + dn z → dn z ≤ 2 ^ 63 + up z → SFits w64 z
signed_fits z p q = record { sfits = mag_of z p q }

-- a difference of two natural numbers of 63 bits
pub difference_fits : (x y : ℕ) → x < 2 ^ 63 → y < 2 ^ 63 → SFits w64 (pos x -ℤ pos y)
difference_fits x y p q = let l = sub_law (pos x) (pos y) in signed_fits (pos x -ℤ pos y) (omega arith) (omega arith)

-- the same facts of `Raisable`, by parts; and `Raisable` from them
pub raisable_told : (z : ℤ) (b : ℕ) → Raisable z b → (up z < 2 ^ 62) × (dn z ≤ b + up z)
raisable_told z b r =
    let l = le_z_told (pos 0) (z +ℤ pos b) (holding _ r.above.le) in
    let h = lt_z_told z (pos (2 ^ 62)) (holding _ r.below.lt) in
    let a = add_law z (pos b) in
    ⊎_elim (λ u. (omega arith, omega arith)) (λ d. (omega arith, omega arith)) (one_zero z)

pub raisable : (z : ℤ) (b : ℕ) → b ≤ 2 ^ 62 → dn z ≤ b + up z → up z < 2 ^ 62 → Raisable z b
raisable z b l p q =
    let a = add_law z (pos b) in
    record {
      least = l;
      above = record { le = holds (le_le_z (pos 0) (z +ℤ pos b) (omega arith)) };
      below = record { lt = holds (lt_lt_z z (pos (2 ^ 62)) (omega arith)) };
    }
