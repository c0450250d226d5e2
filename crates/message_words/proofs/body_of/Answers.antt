-- `body_of` meets its contract: each arm knows the type.
use lib.ListN.{get_or}
use native.Mathlib.Omega.{arith}
use mathlib.Core.Path.{ap}
use borrow.Author.Tests.{ne_eqb}
use Rattle.message_words.specs.Words.{body_of}
use Rattle.message.specs.declared.fields.Body.TheVariants as body
use Rattle.message_words.proofs.body_of.Goals as goal

pub returns-in-0 : goal.returns-in-0
unfolding body_of
returns-in-0 c =
    rw c.in-0.is (ap body.Sync c.stamp_of.ensures)

pub returns-in-1 : goal.returns-in-1
unfolding body_of
returns-in-1 c =
    rw c.in-1.is (ap body.DelayReq c.stamp_of-in-1.ensures)

pub returns-in-8 : goal.returns-in-8
unfolding body_of
returns-in-8 c =
    rw c.in-8.is (ap body.FollowUp c.stamp_of-in-8.ensures)

pub returns-in-9 : goal.returns-in-9
unfolding body_of
returns-in-9 c =
    rw c.in-9.is (λ i. body.DelayResp (record { receive = c.stamp_of-in-9.ensures i; requester = c.identity_at.ensures i }))

pub returns-in-11 : goal.returns-in-11
unfolding body_of
returns-in-11 c =
    rw c.in-11.is (ap body.Announce c.announce_of.ensures)

pub returns-in_default : goal.returns-in_default
unfolding body_of
returns-in_default c =
    rw (ne_eqb (get_or c.args.w.now 0 0) 0x0 (λ e. omega arith), ne_eqb (get_or c.args.w.now 0 0) 0x1 (λ e. omega arith), ne_eqb (get_or c.args.w.now 0 0) 0x8 (λ e. omega arith), ne_eqb (get_or c.args.w.now 0 0) 0x9 (λ e. omega arith), ne_eqb (get_or c.args.w.now 0 0) 0xB (λ e. omega arith)) (ap body.Signaling c.identity_at-in_default.ensures)
