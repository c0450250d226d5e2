-- `fields::fixed_size` meets its contract: each arm knows the type, the last that it is none of them.
use Prim.Native.Nat.{ℕ}
use mathlib.Core.Bool.{false}
use native.Mathlib.Omega.{arith}
use lib.Dec.{eqb}
use mathlib.Core.Path.{◌≡◌}
use borrow.Author.Tests.{ne_eqb}
use Rattle.message.specs.Fields.{fixed_size}
use Rattle.message.proofs.fields.fixed_size.Goals as goal

pub returns-in-0 : goal.returns-in-0
unfolding fixed_size
returns-in-0 c =
    rw c.in-0.is

pub returns-in-1 : goal.returns-in-1
unfolding fixed_size
returns-in-1 c =
    rw c.in-1.is

pub returns-in-8 : goal.returns-in-8
unfolding fixed_size
returns-in-8 c =
    rw c.in-8.is

pub returns-in-9 : goal.returns-in-9
unfolding fixed_size
returns-in-9 c =
    rw c.in-9.is

pub returns-in-11 : goal.returns-in-11
unfolding fixed_size
returns-in-11 c =
    rw c.in-11.is

pub returns-in-12 : goal.returns-in-12
unfolding fixed_size
returns-in-12 c =
    rw c.in-12.is

pub returns-in_default : goal.returns-in_default
unfolding fixed_size
returns-in_default c =
    let n = c.args.kind in
    let other : (k : ℕ) → (n ≡ k → ⊥) → eqb n k ≡ false = λ k h. ne_eqb n k h in
    rw (
      other 0x0 (λ e. omega arith),
      other 0x1 (λ e. omega arith),
      other 0x8 (λ e. omega arith),
      other 0x9 (λ e. omega arith),
      other 0xB (λ e. omega arith),
      other 0xC (λ e. omega arith),
    )
