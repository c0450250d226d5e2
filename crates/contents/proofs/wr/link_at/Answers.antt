-- `wr::link_at` meets its contract: each arm knows the number, and the readers give the values.
use Prim.Native.Nat.{ℕ}
use mathlib.Core.Bool.{false}
use native.Mathlib.Omega.{arith}
use lib.Dec.{eqb}
use mathlib.Core.Path.{◌≡◌}
use borrow.Author.Tests.{ne_eqb}
use Rattle.tlv.specs.Wr.{link_message_at}
use Rattle.tlv.specs.declared.wr.LinkMessage.TheVariants.{Calibrate, Calibrated}
use Rattle.contents.proofs.wr.link_at.Goals as goal

pub returns-in-4096 : goal.returns-in-4096
unfolding link_message_at
returns-in-4096 c =
    rw (← c.u16_at-number.ensures, c.in-4096.is)

pub returns-in-4097 : goal.returns-in-4097
unfolding link_message_at
returns-in-4097 c =
    rw (← c.u16_at-number.ensures, c.in-4097.is)

pub returns-in-4098 : goal.returns-in-4098
unfolding link_message_at
returns-in-4098 c =
    rw (← c.u16_at-number.ensures, c.in-4098.is)

pub returns-in-4099 : goal.returns-in-4099
unfolding link_message_at
returns-in-4099 c =
    rw (← c.u16_at-number.ensures, c.in-4099.is)
    (λ i. Calibrate (c.octet_at.ensures i) (c.octet_at-in-4099.ensures i) (c.u32_at.ensures i))

pub returns-in-4100 : goal.returns-in-4100
unfolding link_message_at
returns-in-4100 c =
    rw (← c.u16_at-number.ensures, c.in-4100.is)
    (λ i. Calibrated (c.u64_at.ensures i) (c.u64_at-in-4100.ensures i))

pub returns-in_default : goal.returns-in_default
unfolding link_message_at
returns-in_default c =
    let n = c.u16_at-number.result in
    let other : (k : ℕ) → (n ≡ k → ⊥) → eqb n k ≡ false = λ k h. ne_eqb n k h in
    rw (
      ← c.u16_at-number.ensures,
      other 0x1000 (λ e. omega arith),
      other 0x1001 (λ e. omega arith),
      other 0x1002 (λ e. omega arith),
      other 0x1003 (λ e. omega arith),
      other 0x1004 (λ e. omega arith),
    )
