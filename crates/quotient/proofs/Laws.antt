-- Laws of division by digits.
use Rattle.std.proofs.Common.{◌≡◌, ℕ, ◌+◌, ◌-◌, ◌*◌, ◌/◌, ◌%◌, ◌^◌, ◌<◌, ◌≤◌, sym, ap, ◌∙◌, mod-lt, mod-eq_of_lt, mul_assoc, mul_comm, add-mul, lt_of_mul-lt-mul_right, mul-le-mul_left, div-add-mod', mul-add, div-mul-le_self, le_of_mul-le-mul_right, arith, pow-add}
use native.Mathlib.Nat.{div-add-mod, div-eq_of_lt, div-eq_of_lt-le, div-eq_of_eq-mul_left, mul-div-mul_left, mul-add-div, add-mul-div_right, add-mul-mod_self_right}

-- a shift that loses nothing
pub shifted : (y d : ℕ) → y * d < 2 ^ 64 → y * d % 2 ^ 64 ≡ y * d
shifted y d h = mod-eq_of_lt h

-- a divisor that goes into a number, but not twice
pub once : (v h : ℕ) → h ≤ v → v < 2 * h → v / h ≡ 1
once v h le lt = div-eq_of_lt-le h (omega arith) (omega arith)

pub at_most_once : (v h : ℕ) → v < 2 * h → v / h ≤ 1
at_most_once v h l = let b = div-mul-le_self v h in let c = lt_of_mul-lt-mul_right h {m = v / h} {n = 2} (omega arith) in omega arith

-- a number with a zero for its last digit is twice its half, in its high place too
pub high_even : (q d : ℕ) → 0 < d → q * 2 ^ d ≤ 2 ^ 63 → 2 * (q * 2 ^ d % 2 ^ 64 / 2) ≡ q * 2 ^ d
high_even q d pos l =
    let m = shifted q (2 ^ d) (omega arith) in
    let p : 2 ^ d ≡ 2 ^ (d - 1) * 2 = ap (λ (j : ℕ). 2 ^ j) (omega arith) ∙ pow-add 2 (d - 1) 1 in
    let e : q * 2 ^ d ≡ q * 2 ^ (d - 1) * 2 = ap (λ (t : ℕ). q * t) p ∙ sym (mul_assoc q (2 ^ (d - 1)) 2) in
    omega arith

-- what has become of n after j digits: those of the quotient so far are t, and v is what the code holds
pub record Dealt (n m j v : ℕ) : Type 0 where
  pub t : ℕ
  pub is : v + t * m ≡ 2 ^ j * n
  pub top : t < 2 ^ j

pub begun : (n m : ℕ) → Dealt n m 0 n
begun n m = record { t = 0; is = omega arith; top = omega arith }

-- one digit more
pub more : (n m j v d w : ℕ) → Dealt n m j v → w + d * m ≡ 2 * v → d ≤ 1 → Dealt n m (j + 1) w
more n m j v d w h e le =
    let t = h.t in
    let p : 2 ^ (j + 1) ≡ 2 ^ j + 2 ^ j = pow-add 2 j 1 ∙ (omega arith) in
    let a : (2 * t + d) * m ≡ 2 * (t * m) + d * m = add-mul (2 * t) d m ∙ ap (λ (x : ℕ). x + d * m) (mul_assoc 2 t m) in
    let b : 2 ^ (j + 1) * n ≡ 2 ^ j * n + 2 ^ j * n = ap (λ (x : ℕ). x * n) p ∙ add-mul (2 ^ j) (2 ^ j) n in
    let i = h.is in
    let l = h.top in
    record { t = 2 * t + d; is = omega arith; top = omega arith }

-- when all digits have been dealt with, the quotient stands in the low places and the rest above them
module _ (n q D m v t : ℕ) (high : m + 1 ≡ q * D) (is : v + t * m ≡ D * n) (top : t < D) (below : v < q * D) where
  abbrev r : ℕ
  r = v / D

  abbrev w : ℕ
  w = v % D

  joined : D * (r + t * q) + w ≡ D * n + t
  joined =
      let a : t * (m + 1) ≡ t * (q * D) = ap (λ (x : ℕ). t * x) high in
      let b = mul-add t m 1 in
      let c : t * (q * D) ≡ D * (t * q) = sym (mul_assoc t q D) ∙ mul_comm (t * q) D in
      let d = mul-add D r (t * q) in
      let e = div-add-mod v D in
      omega arith

  sum : r + t * q ≡ n
  sum =
      let pos : 0 < D = omega arith in
      let a = mul-add-div {m = D} pos (r + t * q) w in
      let b = mul-add-div {m = D} pos n t in
      let c = div-eq_of_lt {n = w} {m = D} (mod-lt v {m = D} pos) in
      let d = div-eq_of_lt {n = t} {m = D} top in
      let e = ap (λ (x : ℕ). x / D) joined in
      omega arith

  digits : t ≡ w
  digits = let s = sum in let j = joined in let e = ap (λ (x : ℕ). D * x) s in omega arith

  under : r < q
  under = let e = div-add-mod v D in let c = mul_comm D r in lt_of_mul-lt-mul_right D (omega arith)

  pub rest_is : v / D ≡ n % q
  rest_is =
      let u = under in
      sym (ap (λ (x : ℕ). x % q) (sym sum) ∙ add-mul-mod_self_right r t q ∙ mod-eq_of_lt u)

  pub whole_is : v % D ≡ n / q
  whole_is =
      let u = under in
      let a = add-mul-div_right r t {z = q} (omega arith) in
      let b = div-eq_of_lt u in
      let c = ap (λ (x : ℕ). x / q) (sum) in
      let d = digits in
      omega arith

-- the product of 1 + e and 1 + e^2, over 128, from below and from above; e is 3/128
low_2 : (n a b c : ℕ) → 128 * a ≤ n → 128 * b ≤ 131 * a → 2 ^ 14 * c ≤ 16393 * b → 2 ^ 28 * c ≤ 2147483 * n
low_2 n a b c x y z = omega arith

high_2 : (n a b c : ℕ) → n < 128 * a + 128 → 131 * a < 128 * b + 128 → 16393 * b < 2 ^ 14 * c + 2 ^ 14 → 2147483 * n ≤ 2 ^ 28 * c + 807634021
high_2 n a b c x y z = omega arith

-- and with 1 + e^4
low_4 : (n c d : ℕ) → 2 ^ 28 * c ≤ 2147483 * n → 2 ^ 28 * d ≤ 268435537 * c → 125 * d ≤ n
low_4 n c d x y = omega arith

high_4 : (n c d : ℕ) → n < 2 ^ 61 → 2147483 * n ≤ 2 ^ 28 * c + 807634021 → 268435537 * c < 2 ^ 28 * d + 2 ^ 28 → n < 125 * d + 2 ^ 18
high_4 n c d l x y = omega arith

-- a little less than a 125th
module _ (n a b c d : ℕ) (isa : a ≡ n / 128) (isb : b ≡ a + 3 * a / 128) (isc : c ≡ b + 9 * b / 2 ^ 14) (isd : d ≡ c + 81 * c / 2 ^ 28) where
  pub nearly_low : 125 * d ≤ n
  nearly_low = low_4 n c d (low_2 n a b c (omega (arith, isa)) (omega (arith, isb)) (omega (arith, isc))) (omega (arith, isd))

  pub nearly_high : n < 2 ^ 61 → n < 125 * d + 2 ^ 18
  nearly_high l = high_4 n c d l (high_2 n a b c (omega (arith, isa)) (omega (arith, isb)) (omega (arith, isc))) (omega (arith, isd))

-- a 125th of a small number, first with one factor
module _ (n a b : ℕ) (isa : a ≡ n / 128) (isb : b ≡ a + 3 * a / 128) where
  pub small_low : 125 * b ≤ n
  small_low =
      let x : 128 * a ≤ n = omega (arith, isa) in
      let y : 128 * b ≤ 131 * a = omega (arith, isb) in
      omega arith

  pub small_high : n < 2 ^ 18 → n < 125 * b + 512
  small_high l =
      let x : n < 128 * a + 128 = omega (arith, isa) in
      let y : 131 * a < 128 * b + 128 = omega (arith, isb) in
      omega arith

-- and then by 131 / 2^14, of one more
pub fewer : (r : ℕ) → r < 512 → 131 * (r + 1) / 2 ^ 14 ≡ r / 125
fewer r l =
    let a : 125 * (r / 125) ≤ r = omega arith in
    let b : r < 125 * (r / 125) + 125 = omega arith in
    div-eq_of_lt-le {k = r / 125} (2 ^ 14) (omega arith) (omega arith)

-- so many digits further
module _ (whole rest q D w r : ℕ) (isw : w ≡ rest * D / q) (isr : r ≡ rest * D % q) where
  pub further_is : (whole * D + w) * q + r ≡ D * (whole * q + rest)
  further_is =
      let e = div-add-mod' (rest * D) q in
      let f = ap (λ (t : ℕ). t * q) isw in
      let a = add-mul (whole * D) w q in
      let b : whole * D * q ≡ D * (whole * q) = ap (λ (t : ℕ). t * q) (mul_comm whole D) ∙ mul_assoc D whole q in
      let c = mul-add D (whole * q) rest in
      omega (arith, mul_comm rest D, isr)

-- a quotient by 2^40 or more is the smaller
pub bounded : (w q r b : ℕ) → 2 ^ 40 ≤ q → w * q + r ≡ b → w * 2 ^ 40 ≤ b
bounded w q r b l e = let m = mul-le-mul_left w l in omega arith

-- p x / q, where q is p + 2^40, from what q x has more: w q and r
module _ (p x w r : ℕ) (is : w * (p + 2 ^ 40) + r ≡ 2 ^ 40 * x) where
  abbrev over : ℕ
  over = p + 2 ^ 40

  all : p * x + 2 ^ 40 * x ≡ x * over
  all = sym (add-mul p (2 ^ 40) x) ∙ mul_comm over x

  pub at_most : w ≤ x
  at_most = let a = all in le_of_mul-le-mul_right {m = w} {n = x} {k = over} (omega arith) (omega arith)

  pub exactly : r ≡ 0 → p * x / over ≡ x - w
  exactly z =
      let a = all in
      let l = at_most in
      let e : (x - w) * over + w * over ≡ x * over = sym (add-mul (x - w) w over) ∙ ap (λ (t : ℕ). t * over) (omega arith) in
      div-eq_of_eq-mul_left {n = over} {m = p * x} {k = x - w} (omega arith) (omega arith)

  pub less_one : 0 < r → w < x
  less_one pos = let a = all in lt_of_mul-lt-mul_right over {m = w} {n = x} (omega arith)

  pub not_exactly : 0 < r → r < over → p * x / over ≡ x - w - 1
  not_exactly pos l =
      let a = all in
      let m = less_one pos in
      let k = x - w - 1 in
      let e : (k + 1) * over + w * over ≡ x * over = sym (add-mul (k + 1) w over) ∙ ap (λ (t : ℕ). t * over) (omega arith) in
      let f = add-mul k 1 over in
      div-eq_of_lt-le {k = k} over {m = p * x} (omega arith) (omega arith)

-- without asymmetry, half
pub half_is : (x : ℕ) → 2 ^ 40 * x / (2 ^ 40 + 2 ^ 40) ≡ x / 2
half_is x = mul-div-mul_left {m = 2 ^ 40} x 2 (omega arith)
