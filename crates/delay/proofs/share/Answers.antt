-- `share` meets its contract: where z is negative, moved up by 256 q it is a natural number, and its portion is 256 p too high.
use mathlib.Core.Path.{◌≡◌, refl}
use Prim.Native.Nat.{ℕ, ◌+◌, ◌-◌, ◌*◌, ◌/◌, ◌%◌, ◌^◌, ◌<◌, ◌≤◌}
use native.Mathlib.Omega.{arith}
use lib.IntN.{ℤ, pos, ◌+ℤ◌}
use Rattle.quotient.proofs.Laws.{shifted}
use Rattle.signed.specs.Limits.{Within}
use Rattle.signed.proofs.Parts.{add_law, parts}
use Rattle.signed.proofs.Ranges.{within_parts}
use Rattle.delay.specs.Inside.{ShareIs}
use Rattle.delay.proofs.Laws.{portion_below, share_is}
use Rattle.delay.proofs.share.Goals as goal

-- the numerator, and what of it and of the denominator is moved up
module _ (a : ℤ) (p : ℕ) (w : Within 39 a) (isp : pos p ≡ pos (2 ^ 40) +ℤ a) where
  low : 2 ^ 39 < p
  low =
      let t = within_parts 39 a w in
      let e = parts isp in
      omega (arith, add_law (pos (2 ^ 40)) a)

  high : p < 3 * 2 ^ 39
  high =
      let t = within_parts 39 a w in
      let e = parts isp in
      omega (arith, add_law (pos (2 ^ 40)) a)

  q-shifted : (p + 2 ^ 40) * 256 % 2 ^ 64 ≡ (p + 2 ^ 40) * 256
  q-shifted = let h = high in shifted (p + 2 ^ 40) 256 (omega arith)

  p-shifted : p * 256 % 2 ^ 64 ≡ p * 256
  p-shifted = let h = high in shifted p 256 (omega arith)

  -- the portion of a natural z
  natural : (z n : ℕ) → 2 ^ 49 ≤ z → z < 7 * 2 ^ 47 → n ≡ p * (z - 2 ^ 49) / (p + 2 ^ 40) → ShareIs a z (n + 2 ^ 49)
  natural z n l m e =
      let t = portion_below {p = p} {x = z - 2 ^ 49} {q = p + 2 ^ 40} (omega arith) in
      record {
        is = share_is a z p (p + 2 ^ 40) (z - 2 ^ 49) n (n + 2 ^ 49) 0 0 isp refl (omega arith) (omega arith) e (omega arith);
        top = omega arith;
      }

  -- the portion of a z that was moved up
  moved : (z n : ℕ) → 2 ^ 47 ≤ z → z < 2 ^ 49 → n ≡ p * (z + (p + 2 ^ 40) * 256 % 2 ^ 64 - 2 ^ 49) / (p + 2 ^ 40)
      → ShareIs a z (n + 2 ^ 49 - p * 256 % 2 ^ 64)
  moved z n l m e =
      let s = q-shifted in
      let t = p-shifted in
      let lo = low in
      let hi = high in
      let x = z + (p + 2 ^ 40) * 256 % 2 ^ 64 - 2 ^ 49 in
      let k = portion_below {p = p} {x = x} {q = p + 2 ^ 40} (omega arith) in
      record {
        is = share_is a z p (p + 2 ^ 40) x n (n + 2 ^ 49 - p * 256 % 2 ^ 64) (256 * (p + 2 ^ 40)) (256 * p) isp refl (omega arith) (omega arith) e (omega arith);
        top = omega arith;
      }

pub returns-then-z-ge-TWO_49 : goal.returns-then-z-ge-TWO_49
returns-then-z-ge-TWO_49 c =
    natural c.args.a.0 c.numerator-p.result c.requires.0 c.numerator-p.ensures c.args.z c.portion.result (omega arith) (omega arith) c.portion.ensures

pub returns : goal.returns
returns c =
    moved c.args.a.0 c.numerator-p.result c.requires.0 c.numerator-p.ensures c.args.z c.portion-n.result (omega arith) (omega arith) c.portion-n.ensures
