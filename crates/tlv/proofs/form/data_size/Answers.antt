-- `form::data_size` meets its contract: each arm knows the number, the last that it is none of them.
use Prim.Native.Nat.{ℕ}
use mathlib.Core.Path.{◌≡◌}
use mathlib.Core.Bool.{false}
use native.Mathlib.Omega.{arith}
use borrow.Author.Tests.{ne_eqb}
use lib.Dec.{eqb}
use Rattle.tlv.specs.Form.{data_octets}
use Rattle.tlv.proofs.form.data_size.Goals as goal

pub returns-in-4096 : goal.returns-in-4096
unfolding data_octets
returns-in-4096 c =
    rw c.in-4096.is

pub returns-in-4097 : goal.returns-in-4097
unfolding data_octets
returns-in-4097 c =
    rw c.in-4097.is

pub returns-in-4098 : goal.returns-in-4098
unfolding data_octets
returns-in-4098 c =
    rw c.in-4098.is

pub returns-in-4099 : goal.returns-in-4099
unfolding data_octets
returns-in-4099 c =
    rw c.in-4099.is

pub returns-in-4100 : goal.returns-in-4100
unfolding data_octets
returns-in-4100 c =
    rw c.in-4100.is

pub returns-in-4101 : goal.returns-in-4101
unfolding data_octets
returns-in-4101 c =
    rw c.in-4101.is

pub returns-in-8192 : goal.returns-in-8192
unfolding data_octets
returns-in-8192 c =
    rw c.in-8192.is

pub returns-in_default : goal.returns-in_default
unfolding data_octets
returns-in_default c =
    let n = c.args.number in
    let other : (k : ℕ) → (n ≡ k → ⊥) → eqb n k ≡ false = λ k h. ne_eqb n k h in
    rw (
      other 0x1000 (λ e. omega arith),
      other 0x1001 (λ e. omega arith),
      other 0x1002 (λ e. omega arith),
      other 0x1003 (λ e. omega arith),
      other 0x1004 (λ e. omega arith),
      other 0x1005 (λ e. omega arith),
      other 0x2000 (λ e. omega arith),
    )
