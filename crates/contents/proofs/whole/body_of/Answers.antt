-- `whole::body_of` meets its contract: each arm knows the type, and so how many octets are there.
use Prim.Native.Nat.{ℕ}
use mathlib.Core.Bool.{false}
use native.Mathlib.Omega.{arith}
use lib.Dec.{eqb}
use mathlib.Core.Path.{◌≡◌, ap}
use borrow.Author.Tests.{ne_eqb}
use Rattle.message.specs.Fields.{type_of, fixed_size, body_of}
use Rattle.message.specs.declared.fields.Body.TheVariants as body
use Rattle.contents.proofs.whole.body_of.Goals as goal

pub delay_resp_of-requires : goal.delay_resp_of-requires
unfolding fixed_size
delay_resp_of-requires c =
    rw c.in-9.is at c.requires.1

pub announce_of-requires-clause-in_bounds : goal.announce_of-requires-clause-in_bounds
unfolding fixed_size
announce_of-requires-clause-in_bounds c =
    rw c.in-11.is at c.requires.1

pub returns-in-0 : goal.returns-in-0
unfolding body_of
returns-in-0 c =
    rw c.in-0.is (ap body.Sync c.stamp_of.ensures)

pub returns-in-1 : goal.returns-in-1
unfolding body_of
returns-in-1 c =
    rw c.in-1.is (ap body.DelayReq c.stamp_of-in-1.ensures)

pub returns-in-8 : goal.returns-in-8
unfolding body_of
returns-in-8 c =
    rw c.in-8.is (ap body.FollowUp c.stamp_of-in-8.ensures)

pub returns-in-9 : goal.returns-in-9
unfolding body_of
returns-in-9 c =
    rw c.in-9.is (ap body.DelayResp c.delay_resp_of.ensures)

pub returns-in-11 : goal.returns-in-11
unfolding body_of
returns-in-11 c =
    rw c.in-11.is (ap body.Announce c.announce_of.ensures)

pub returns-in_default : goal.returns-in_default
unfolding body_of
returns-in_default c =
    let n = type_of c.args.s.now in
    let other : (k : ℕ) → (n ≡ k → ⊥) → eqb n k ≡ false = λ k h. ne_eqb n k h in
    rw (
      other 0x0 (λ e. omega arith),
      other 0x1 (λ e. omega arith),
      other 0x8 (λ e. omega arith),
      other 0x9 (λ e. omega arith),
      other 0xB (λ e. omega arith),
    ) (ap body.Signaling c.identity_at.ensures)
