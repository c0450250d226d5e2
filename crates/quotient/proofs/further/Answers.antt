-- `further` meets its contract: the rest, moved up, is divided again.
use Rattle.std.proofs.Common.{◌≡◌, ℕ, ◌+◌, ◌*◌, ◌/◌, ◌%◌, ◌^◌, ◌<◌, ◌≤◌, sym, ap, ◌∙◌, subst, mod-lt, mul-lt-mul_of_pos_right, arith}
use native.Mathlib.Nat.{one-le-pow}
use Rattle.quotient.proofs.Laws.{shifted, further_is}
use Rattle.quotient.proofs.further.Goals as goal

-- the divided part and the rest, moved up by D, lose nothing
module _ (whole rest q digits : ℕ) (low : rest < q) (high : q * 2 ^ digits ≤ 2 ^ 63) (small : whole * 2 ^ digits < 2 ^ 63) where
  below : rest * 2 ^ digits < q * 2 ^ digits
  below = mul-lt-mul_of_pos_right low (one-le-pow digits 2 (omega arith))

  up : rest * 2 ^ digits % 2 ^ 64 ≡ rest * 2 ^ digits
  up = let b = below in shifted rest (2 ^ digits) (omega arith)

  whole-up : whole * 2 ^ digits % 2 ^ 64 ≡ whole * 2 ^ digits
  whole-up = shifted whole (2 ^ digits) (omega arith)

pub returns : goal.returns
returns c =
    let a = c.args in
    let D = 2 ^ a.digits in
    let u = up a.a.whole a.a.rest a.q a.digits c.requires.0 c.requires.1 c.requires.4 in
    let w = whole-up a.a.whole a.a.rest a.q a.digits c.requires.0 c.requires.1 c.requires.4 in
    let e = c.divided-next.ensures.0 ∙ ap (λ (t : ℕ). t / a.q) u in
    let f = c.divided-next.ensures.1 ∙ ap (λ (t : ℕ). t % a.q) u in
    let r = c.divided-next.result in (
      ap (λ (t : ℕ). (t + r.whole) * a.q + r.rest) w ∙ further_is a.a.whole a.a.rest a.q D r.whole r.rest e f,
      subst (λ (t : ℕ). t < a.q) (sym f) (mod-lt (a.a.rest * D) (omega arith)),
    )
