-- Laws of `pick` and `refuse`: a check that was passed, and what a list of checks gives.
use Rattle.std.specs.Prelude.{Result, Ok, Err}
use Prim.Native.Nat.{ℕ}
use mathlib.Core.Path.{◌≡◌, ◌∙◌, refl, sym}
use mathlib.Core.Bool.{Bool, true, false, not}
use mathlib.Core.Logic.{◌⊎◌, inl, inr}
use native.Mathlib.Omega.{arith}
use borrow.Author.Tests.{not-true, not-false}
use Rattle.refusal.specs.declared.Refusal.{Refusal}
use Rattle.refusal.specs.Choice.{pick, refuse}

-- what is refused is not done
pub no_refusal : (x : Refusal) → ◌≡◌ {A = Result (Unit {0}) Refusal} (Err x) (Ok tt) → ⊥
no_refusal x e = let z : ◌≡◌ {A = ℕ} 0 1 = cc in omega arith

-- a choice between a thing and itself
pub either : {A : Type 0} (b : Bool) (x : A) → pick b x x ≡ x
either true x = refl
either false x = refl

module _ {A : Type 0} (x rest y : A) where
  -- the checks give y: this one refuses with it, or it is passed and those below give it
  pub refuse_gives : (t : Bool) → refuse t x rest ≡ y → ((t ≡ true) × (x ≡ y)) ⊎ ((t ≡ false) × (rest ≡ y))
  unfolding refuse
  refuse_gives true e = inl (refl, e)
  refuse_gives false e = inr (refl, e)

  -- they give another answer than this check's refusal, so it was passed
  pub passed : (t : Bool) → (x ≡ y → ⊥) → refuse t x rest ≡ y → (t ≡ false) × (rest ≡ y)
  unfolding refuse
  passed true other e = absurd (other e)
  passed false other e = (refl, e)

module _ {A : Type 0} (x rest : A) where
  pub refused : (t : Bool) → t ≡ true → refuse t x rest ≡ x
  unfolding refuse
  refused t e = rw e

  pub goes_on : (t : Bool) → t ≡ false → refuse t x rest ≡ rest
  unfolding refuse
  goes_on t e = rw e

-- what an ordered list of checks gives, check by check: this one stops, or it passes and those below give r. A function's answer
-- is cheaper to check by these two than by `rw` with all the tests at once.
pub stops : {A : Type 0} {t : Bool} {x : A} (rest : A) → t ≡ true → x ≡ refuse t x rest
unfolding refuse
stops rest e = rw e

pub passes : {A : Type 0} {t : Bool} {rest r : A} (x : A) → t ≡ false → r ≡ rest → r ≡ refuse t x rest
unfolding refuse
passes x e p = rw e p

-- a check that was looked at as b: it refuses, or what follows it answers
module _ {A : Type 0} (t b : Bool) (e : b ≡ t) (x y : A) where
  pub is_refused : not b ≡ true → x ≡ refuse (not t) x y
  unfolding refuse
  is_refused h = rw (sym e ∙ not-true _ h)

  pub is_passed : {r : A} → not b ≡ false → r ≡ y → r ≡ refuse (not t) x y
  unfolding refuse
  is_passed h p = rw (sym e ∙ not-false _ h) p
