-- Floors. The floor and the rest are the only pair that makes the number up (`floor_rest`, `floor_only`), and both may be worked out over natural
-- numbers, of the number moved up by a multiple of the divisor (`floor_moved`, `rest_moved`).
use mathlib.Core.Path.{◌≡◌, sym, ap, ◌∙◌}
use Prim.Native.Nat.{ℕ, suc, ◌+◌, ◌-◌, ◌*◌, ◌/◌, ◌%◌, ◌<◌}
use native.Mathlib.Omega.{arith}
use native.Mathlib.Nat.{add-zero, add_comm, add-mul, suc-mul, add-mul-div_right, add-mul-mod_self_right, div-add-mod', mod-lt, lt_of_mul-lt-mul_right}
use lib.Arith.{digits_div, digits_mod}
use lib.IntN.{ℤ, pos, negsuc, ◌+ℤ◌, ◌*ℤ◌}
use Rattle.signed.specs.Floor.{floor, rest}
use Rattle.signed.proofs.Parts.{up, dn, ext, parts, add_law, mul_law}

-- below zero, a number that is n when moved up by k times m: which multiple of m it starts from, and what it leaves
record Below (a m k n : ℕ) : Type 0 where
  from : ℕ
  many : k ≡ suc (a / m) + from
  left : n ≡ from * m + (m - suc (a % m))
  short : m - suc (a % m) < m

below : (a m k n : ℕ) → 0 < m → k * m ≡ n + suc a → Below a m k n
below a m k n h e =
    let s = div-add-mod' a m in
    let r = mod-lt a h in
    let over : a / m < k = lt_of_mul-lt-mul_right m (omega arith) in
    let j = k - suc (a / m) in
    let kj : k ≡ suc (a / m) + j = omega arith in
    let km : k * m ≡ m + a / m * m + j * m =
    ap (λ (t : ℕ). t * m) kj ∙ add-mul (suc (a / m)) j m ∙ ap (λ (t : ℕ). t + j * m) (suc-mul (a / m) m ∙ add_comm (a / m * m) m) in
    record { from = j; many = kj; left = omega arith; short = omega arith }

module _ (z : ℤ) (m k n : ℕ) (h : 0 < m) (e : up z + k * m ≡ n + dn z) where
  pub floor_moved : up (floor z (pos m)) + k ≡ n / m + dn (floor z (pos m))
  floor_moved = go z e
    where
      go : (y : ℤ) → up y + k * m ≡ n + dn y → up (floor y (pos m)) + k ≡ n / m + dn (floor y (pos m))
      go (pos a) q = let d = ap (λ (t : ℕ). t / m) (sym (add-zero n) ∙ sym q) ∙ add-mul-div_right a k h in omega arith
      go (negsuc a) q =
          let b = below a m k n h (omega arith) in
          let d : n / m ≡ b.from = ap (λ (t : ℕ). t / m) b.left ∙ digits_div b.from b.short in
          omega arith

  pub rest_moved : rest z m ≡ n % m
  rest_moved = go z e
    where
      go : (y : ℤ) → up y + k * m ≡ n + dn y → rest y m ≡ n % m
      go (pos a) q = sym (ap (λ (t : ℕ). t % m) (sym (add-zero n) ∙ sym q) ∙ add-mul-mod_self_right a k m)
      go (negsuc a) q =
          let b = below a m k n h (omega arith) in
          sym (ap (λ (t : ℕ). t % m) b.left ∙ digits_mod b.from b.short)

module _ (z : ℤ) (m : ℕ) (h : 0 < m) where
  pub rest_below : rest z m < m
  rest_below = go z
    where
      go : (y : ℤ) → rest y m < m
      go (pos a) = mod-lt a h
      go (negsuc a) = omega arith

  floor_parts : m * up (floor z (pos m)) + rest z m + dn z ≡ up z + m * dn (floor z (pos m))
  floor_parts = go z
    where
      go : (y : ℤ) → m * up (floor y (pos m)) + rest y m + dn y ≡ up y + m * dn (floor y (pos m))
      go (pos a) = let s = div-add-mod' a m in omega arith
      go (negsuc a) = let s = div-add-mod' a m in let r = mod-lt a h in omega arith

  -- the divisor times the floor, and the rest, are the number
  pub floor_rest : pos m *ℤ floor z (pos m) +ℤ pos (rest z m) ≡ z
  floor_rest =
      let l = mul_law m (floor z (pos m)) in
      let a = add_law (pos m *ℤ floor z (pos m)) (pos (rest z m)) in
      let f = floor_parts in
      ext (pos m *ℤ floor z (pos m) +ℤ pos (rest z m)) z (omega arith)

  -- and no other pair is, with a rest from 0 to below the divisor
  pub floor_only : (k : ℤ) (r : ℕ) → r < m → pos m *ℤ k +ℤ pos r ≡ z → (floor z (pos m) ≡ k) × (rest z m ≡ r)
  floor_only k r b e =
      let l = mul_law m k in
      let a = add_law (pos m *ℤ k) (pos r) in
      let q = parts e in
      let n = up k * m + r in
      let f = floor_moved z m (dn k) n h (omega arith) in
      let s = rest_moved z m (dn k) n h (omega arith) in
      let d = digits_div (up k) b in
      (ext (floor z (pos m)) k (omega arith), s ∙ digits_mod (up k) b)
