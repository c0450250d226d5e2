-- A signed number cast to 64 bits from a narrower width is the same number.
use mathlib.Core.Path.{◌≡◌, sym, ap, subst, ◌∙◌}
use Prim.Native.Nat.{ℕ}
use lib.IntN.{ℤ}
use lib.Dec.{T, leb}
use mir.Syntax.{Width, w64}
use mir.Val.{hbits, SFits, to_z, of_z}
use mir.Facts.{sfits_widen, to_z-of_z}

module _ {w : Width} {z : ℤ} (narrower : T (leb (hbits w) (hbits w64))) (fits : SFits w z) where
  pub widens : SFits w64 (to_z w (of_z w z))
  widens = subst (SFits w64) (sym (to_z-of_z fits)) (sfits_widen narrower fits)

  pub widened : to_z w64 (of_z w64 (to_z w (of_z w z))) ≡ z
  widened = ap (λ (y : ℤ). to_z w64 (of_z w64 y)) (to_z-of_z fits) ∙ to_z-of_z {w = w64} (sfits_widen narrower fits)

  -- its two's complement in a word
  pub word : (r : ℕ) → r ≡ of_z w64 (to_z w64 (of_z w64 (to_z w (of_z w z)))) → r ≡ of_z w64 z
  word r e = e ∙ ap (of_z w64) widened
