-- Refused exactly when out of range: every exchange within the limits is measured, every other one is refused with 14, and no other number is given.
use Rattle.std.specs.Prelude.{Ok, Err}
use mathlib.Core.Path.{◌≡◌, refl, sym, ap, ◌∙◌}
use mathlib.Core.Bool.{Bool, true, false}
use mathlib.Core.Logic.{◌⊎◌, inl, inr}
use mathlib.Core.List.{[], ◌∷◌}
use Prim.Native.Nat.{ℕ, ◌<◌}
use native.Mathlib.Omega.{arith}
use lib.IntN.{pos, ◌+ℤ◌, ◌*ℤ◌}
use Rattle.signed.specs.Floor.{floor, rest}
use Rattle.signed.proofs.Floors.{floor_rest, rest_below}
use Rattle.refusal.specs.declared.Refusal.TheVariants.{Range}
use Rattle.delay.specs.declared.Exchange.{Exchange}
use Rattle.delay.specs.Delay.{delay, offset, second, in_seconds}
use Rattle.delay.specs.Range.{in_range, InRange}
use Rattle.delay.specs.Answer.{measure_of, code_of, values_of}
use Rattle.delay.proofs.Ranges.{range_told, range_yes}

module _ (x : Exchange) where
  pub measured : InRange x → measure_of x ≡ Ok (record { 0 = delay x }, in_seconds (offset x))
  measured h = simp (range_yes h)

  -- its number and its values
  pub measured_values : InRange x
      → (code_of (measure_of x) ≡ 0) × (values_of (measure_of x) ≡ delay x ∷ floor (offset x) (pos second) ∷ pos (rest (offset x) second) ∷ [])
  measured_values h = (ap code_of (measured h), ap values_of (measured h))

  -- the seconds and the rest make up the offset, and the rest is less than a second
  pub offset_whole : pos second *ℤ floor (offset x) (pos second) +ℤ pos (rest (offset x) second) ≡ offset x
  offset_whole = floor_rest (offset x) second (omega arith)

  pub offset_rest : rest (offset x) second < second
  offset_rest = rest_below (offset x) second (omega arith)

  pub refused : (InRange x → ⊥) → measure_of x ≡ Err Range
  refused n = go (in_range x) refl
    where
      go : (t : Bool) → in_range x ≡ t → measure_of x ≡ Err Range
      go true e = absurd (n (range_told x e))
      go false e = simp e

  pub fourteen : (InRange x → ⊥) → code_of (measure_of x) ≡ 14
  fourteen n = ap code_of (refused n)

  pub fourteen_only : code_of (measure_of x) ≡ 14 → InRange x → ⊥
  fourteen_only e h = let z : ◌≡◌ {A = ℕ} 0 14 = sym (ap code_of (measured h)) ∙ e in omega arith

  pub no_other_number : (code_of (measure_of x) ≡ 0) ⊎ (code_of (measure_of x) ≡ 14)
  no_other_number = go (in_range x) refl
    where
      go : (t : Bool) → in_range x ≡ t → (code_of (measure_of x) ≡ 0) ⊎ (code_of (measure_of x) ≡ 14)
      go true e = inl (simp e)
      go false e = inr (simp e)
