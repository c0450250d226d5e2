-- Signed numbers for `omega`. A signed number is read by two natural ones, what it has above zero (`up`) and what it lacks (`dn`); each operation
-- has one law that is linear in these, so a fact about signed numbers is `omega` with a law for each operation in it. `ext` goes back to an equation.
use mathlib.Core.Path.{◌≡◌, refl, sym, ap, ◌∙◌, subst}
use mathlib.Core.Bool.{Bool, true, false, not, cond}
use mathlib.Core.Logic.{◌⊎◌, inl, inr}
use Prim.Native.Nat.{ℕ, zero, suc, ◌+◌, ◌-◌, ◌*◌, ◌<◌, ◌≤◌}
use native.Mathlib.Omega.{arith}
use native.Mathlib.Nat.{mul-zero}
use borrow.Author.Tests.{ltb-true, leb-true, lt-ltb, le-ltb, le-leb}
use lib.Dec.{T, ltb, ltb→lt, nltb→le}
use lib.IntN.{ℤ, pos, negsuc, neg_ℤ, sub_ℕ, ◌+ℤ◌, ◌-ℤ◌, ◌*ℤ◌}
use lib.Signed.{lt_z, le_z}

abbrev pub up : ℤ → ℕ
up (pos n) = n
up (negsuc n) = 0

abbrev pub dn : ℤ → ℕ
dn (pos n) = 0
dn (negsuc n) = suc n

pub ext : (z w : ℤ) → up z + dn w ≡ up w + dn z → z ≡ w
ext (pos a) (pos b) e = ap pos (omega arith)
ext (pos a) (negsuc b) e = absurd (omega arith)
ext (negsuc a) (pos b) e = absurd (omega arith)
ext (negsuc a) (negsuc b) e = ap negsuc (omega arith)

-- one of the two is nothing
pub one_zero : (z : ℤ) → (up z ≡ 0) ⊎ (dn z ≡ 0)
one_zero (pos n) = inr refl
one_zero (negsuc n) = inl refl

-- equal numbers have equal parts
pub parts : {z w : ℤ} → z ≡ w → (up z ≡ up w) × (dn z ≡ dn w)
parts e = (ap up e, ap dn e)

-- a signed number that is the natural number n
pub nat_of : (z : ℤ) (n : ℕ) → up z ≡ n + dn z → z ≡ pos n
nat_of z n e = ext z (pos n) (omega arith)

sub_nat : (a b : ℕ) → up (sub_ℕ a b) + b ≡ a + dn (sub_ℕ a b)
sub_nat a b = go (ltb a b) (ltb→lt a b) (nltb→le a b)
  where
    go : (t : Bool) → (T t → a < b) → (T (not t) → b ≤ a)
        → up (cond t (negsuc (b - suc a)) (pos (a - b))) + b ≡ a + dn (cond t (negsuc (b - suc a)) (pos (a - b)))
    go true p q = let h = p tt in omega arith
    go false p q = let h = q tt in omega arith

-- the sum, the negative, the difference, and a natural number times a signed one
pub add_law : (x y : ℤ) → up (x +ℤ y) + dn x + dn y ≡ up x + up y + dn (x +ℤ y)
add_law (pos a) (pos b) = omega arith
add_law (pos a) (negsuc b) = omega (arith, sub_nat a (suc b))
add_law (negsuc a) (pos b) = omega (arith, sub_nat b (suc a))
add_law (negsuc a) (negsuc b) = omega arith

pub neg_law : (x : ℤ) → (up (neg_ℤ x) ≡ dn x) × (dn (neg_ℤ x) ≡ up x)
neg_law (pos zero) = (refl, refl)
neg_law (pos (suc n)) = (refl, refl)
neg_law (negsuc n) = (refl, refl)

pub sub_law : (x y : ℤ) → up (x -ℤ y) + dn x + up y ≡ up x + dn y + dn (x -ℤ y)
sub_law x y = let n = neg_law y in omega (arith, add_law x (neg_ℤ y))

pub mul_law : (p : ℕ) (x : ℤ) → (up (pos p *ℤ x) ≡ p * up x) × (dn (pos p *ℤ x) ≡ p * dn x)
mul_law p (pos b) = (refl, sym (mul-zero p))
mul_law p (negsuc b) = ((neg_law (pos (p * suc b))).0 ∙ sym (mul-zero p), (neg_law (pos (p * suc b))).1)

-- n is z, raised by b: by parts, and back
pub raised_told : (z : ℤ) (b n : ℕ) → pos n ≡ z +ℤ pos b → n + dn z ≡ up z + b
raised_told z b n e = let p = parts e in omega (arith, add_law z (pos b))

pub raised_of : (z : ℤ) (b n : ℕ) → n + dn z ≡ up z + b → pos n ≡ z +ℤ pos b
raised_of z b n e = let l = add_law z (pos b) in ext (pos n) (z +ℤ pos b) (omega arith)

-- what a test tells, and the test from the fact
pub lt_z_told : (x y : ℤ) → lt_z x y ≡ true → up x + dn y < up y + dn x
lt_z_told (pos a) (pos b) e = omega (arith, ltb-true a b e)
lt_z_told (pos a) (negsuc b) e = absurd (subst T (sym e) tt)
lt_z_told (negsuc a) (pos b) e = omega arith
lt_z_told (negsuc a) (negsuc b) e = omega (arith, ltb-true b a e)

pub lt_lt_z : (x y : ℤ) → up x + dn y < up y + dn x → lt_z x y ≡ true
lt_lt_z (pos a) (pos b) h = lt-ltb a b (omega arith)
lt_lt_z (pos a) (negsuc b) h = absurd (omega arith)
lt_lt_z (negsuc a) (pos b) h = refl
lt_lt_z (negsuc a) (negsuc b) h = lt-ltb b a (omega arith)

pub le_lt_z : (x y : ℤ) → up y + dn x ≤ up x + dn y → lt_z x y ≡ false
le_lt_z (pos a) (pos b) h = le-ltb a b (omega arith)
le_lt_z (pos a) (negsuc b) h = refl
le_lt_z (negsuc a) (pos b) h = absurd (omega arith)
le_lt_z (negsuc a) (negsuc b) h = le-ltb b a (omega arith)

pub le_z_told : (x y : ℤ) → le_z x y ≡ true → up x + dn y ≤ up y + dn x
le_z_told (pos a) (pos b) e = omega (arith, leb-true a b e)
le_z_told (pos a) (negsuc b) e = absurd (subst T (sym e) tt)
le_z_told (negsuc a) (pos b) e = omega arith
le_z_told (negsuc a) (negsuc b) e = omega (arith, leb-true b a e)

pub le_le_z : (x y : ℤ) → up x + dn y ≤ up y + dn x → le_z x y ≡ true
le_le_z (pos a) (pos b) h = le-leb a b (omega arith)
le_le_z (pos a) (negsuc b) h = absurd (omega arith)
le_le_z (negsuc a) (pos b) h = refl
le_le_z (negsuc a) (negsuc b) h = le-leb b a (omega arith)
