-- Laws of the numbers that the code works with.
use Rattle.std.specs.Prelude.{Some}
use mathlib.Core.Path.{◌≡◌, sym, ap, ◌∙◌}
use Prim.Native.Nat.{ℕ, ◌+◌, ◌-◌, ◌*◌, ◌/◌, ◌%◌, ◌^◌, ◌≤◌, ◌<◌}
use native.Mathlib.Omega.{arith}
use native.Mathlib.Nat.{add-mul-div_right, add-mul-mod_self_right, mul-le-mul_right, div-le_of_le-mul}
use lib.IntN.{ℤ, pos, ◌+ℤ◌, ◌-ℤ◌, ◌*ℤ◌}
use Rattle.signed.specs.Floor.{floor, rest}
use Rattle.signed.specs.Limits.{Within}
use Rattle.signed.proofs.Parts.{up, dn, ext, parts, nat_of, add_law, sub_law, mul_law, raised_told, raised_of}
use Rattle.signed.proofs.Floors.{floor_moved, rest_moved}
use Rattle.signed.proofs.Ranges.{within_parts}
use Rattle.delay.specs.declared.Exchange.{Exchange}
use Rattle.delay.specs.Delay.{t1, t2, t3, t4, M, share, second}
use Rattle.delay.specs.Inside.{SpanIs, MIs}

-- a correction raised by 2^47
pub raised_is : (z : ℤ) (r : ℕ) → Within 47 z → pos r ≡ z +ℤ pos (2 ^ 47) → (r + dn z ≡ up z + 2 ^ 47) × (r < 2 ^ 48)
raised_is z r w e =
    let p = within_parts 47 z w in
    let t = raised_told z (2 ^ 47) r e in
    (t, omega arith)

-- a difference of two times that are raised alike
pub raised_alike : (y z : ℤ) (m n b : ℕ) → pos m ≡ y +ℤ pos b → pos n ≡ z +ℤ pos b → pos m -ℤ pos n ≡ y -ℤ z
raised_alike y z m n b d e =
    let p = raised_told y b m d in
    let q = raised_told z b n e in
    let l = sub_law (pos m) (pos n) in
    let k = sub_law y z in
    ext (pos m -ℤ pos n) (y -ℤ z) (omega arith)

-- equal differences of natural numbers
pub same_gap : (k l m n : ℕ) → m + l ≡ k + n → pos k -ℤ pos l ≡ pos m -ℤ pos n
same_gap k l m n e =
    let p = sub_law (pos k) (pos l) in
    let q = sub_law (pos m) (pos n) in
    ext (pos k -ℤ pos l) (pos m -ℤ pos n) (omega arith)

-- a difference of two numbers that are within their limit and raised by 2^47, raised by 2^48
pub difference_is : (y z : ℤ) (m n : ℕ) → SpanIs y (Some m) → SpanIs z (Some n) → pos (m + 2 ^ 48 - n) ≡ (y -ℤ z) +ℤ pos (2 ^ 48)
difference_is y z m n d e =
    let p = raised_is y m d.0 d.1 in
    let q = raised_is z n e.0 e.1 in
    let l = sub_law y z in
    raised_of (y -ℤ z) (2 ^ 48) (m + 2 ^ 48 - n) (omega arith)

-- the share, worked over natural numbers: p is 2^40 + a, q is 2^41 + a, and x is z moved up by so many q, as the answer is by as many p
module _ (a : ℤ) (z p q x n r qs ps : ℕ) (isp : pos p ≡ pos (2 ^ 40) +ℤ a) (isq : q ≡ p + 2 ^ 40) (alike : p * qs ≡ ps * q) (isx : x + 2 ^ 49 ≡ z + qs)
    (isn : n ≡ p * x / q) (isr : r + ps ≡ n + 2 ^ 49) where
  pub share_is : pos r ≡ share a (pos z -ℤ pos (2 ^ 49)) +ℤ pos (2 ^ 49)
  unfolding share
  share_is =
      let Z = pos z -ℤ pos (2 ^ 49) in
      let lz = sub_law (pos z) (pos (2 ^ 49)) in
      let lp = add_law (pos (2 ^ 40)) a in
      let pp = parts isp in
      let lq = add_law (pos (2 ^ 41)) a in
      let over : pos (2 ^ 41) +ℤ a ≡ pos q = nat_of (pos (2 ^ 41) +ℤ a) q (omega arith) in
      let moved : up Z + qs ≡ x + dn Z = omega arith in
      let ml = mul_law p Z in
      let px = ap (λ (t : ℕ). p * t) moved in
      let f = floor_moved (pos p *ℤ Z) q ps (p * x) (omega arith) (omega arith) in
      rw (← isp, over) (raised_of (floor (pos p *ℤ Z) (pos q)) (2 ^ 49) r (omega arith))

-- the portion is at most the whole
pub portion_below : {p x q : ℕ} → p ≤ q → p * x / q ≤ x
portion_below {p} {x} {q} h = div-le_of_le-mul q (mul-le-mul_right x h)

-- whole seconds and a rest, worked over natural numbers: w is what is left of the number, less both whole seconds and 64 more
pub seconds_is : (z : ℤ) (s1 s2 w : ℕ) → up z + (s1 + 64) * second ≡ w + s2 * second + dn z
    → (pos (s2 + w / second) -ℤ pos (s1 + 64) ≡ floor z (pos second)) × (w % second ≡ rest z second)
seconds_is z s1 s2 w e =
    let n = w + s2 * second in
    let f = floor_moved z second (s1 + 64) n (omega arith) e in
    let m = rest_moved z second (s1 + 64) n (omega arith) e in
    let d = add-mul-div_right w s2 {z = second} (omega arith) in
    let r = add-mul-mod_self_right w s2 second in
    let l = sub_law (pos (s2 + w / second)) (pos (s1 + 64)) in
    (ext (pos (s2 + w / second) -ℤ pos (s1 + 64)) (floor z (pos second)) (omega arith), sym (m ∙ r))

-- M, raised by 2^48
pub M-is : (x : Exchange) (m : ℕ) → MIs x (Some m) → (m + dn (M x) ≡ up (M x) + 2 ^ 48) × (m < 2 ^ 49)
M-is x m h =
    let o = within_parts 47 (t4 x -ℤ t1 x) h.0.outer in
    let i = within_parts 47 (t3 x -ℤ t2 x) h.0.inner in
    let l = sub_law (t4 x -ℤ t1 x) (t3 x -ℤ t2 x) in
    let r = raised_told (M x) (2 ^ 48) m h.1 in
    (r, omega arith)

-- lowered again
pub lowered_is : (z : ℤ) (b n : ℕ) → pos n ≡ z +ℤ pos b → pos n -ℤ pos b ≡ z
lowered_is z b n e = let r = raised_told z b n e in let l = sub_law (pos n) (pos b) in ext (pos n -ℤ pos b) z (omega arith)
