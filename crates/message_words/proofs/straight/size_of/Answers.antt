-- `straight::size_of` meets its contract: type by type.
use mathlib.Core.Path.{sym, ap}
use native.Mathlib.Omega.{arith}
use Rattle.message.specs.Fields.{fixed_size}
use Rattle.layout.specs.Layout.{size_of}
use Rattle.message_words.proofs.Bodies.{body_sync, body_delay_req, body_follow_up, body_delay_resp, body_announce, body_signaling}
use Rattle.message_words.proofs.straight.size_of.Goals as goal

pub returns-in-0 : goal.returns-in-0
unfolding fixed_size
returns-in-0 c =
    let w = c.args.w.now in (sym (ap size_of (body_sync w c.in-0.is)), omega arith, omega arith)

pub returns-in-1 : goal.returns-in-1
unfolding fixed_size
returns-in-1 c =
    let w = c.args.w.now in (sym (ap size_of (body_delay_req w c.in-1.is)), omega arith, omega arith)

pub returns-in-8 : goal.returns-in-8
unfolding fixed_size
returns-in-8 c =
    let w = c.args.w.now in (sym (ap size_of (body_follow_up w c.in-8.is)), omega arith, omega arith)

pub returns-in-9 : goal.returns-in-9
unfolding fixed_size
returns-in-9 c =
    let w = c.args.w.now in (sym (ap size_of (body_delay_resp w c.in-9.is)), omega arith, omega arith)

pub returns-in-11 : goal.returns-in-11
unfolding fixed_size
returns-in-11 c =
    let w = c.args.w.now in (sym (ap size_of (body_announce w c.in-11.is)), omega arith, omega arith)

pub returns-in_default : goal.returns-in_default
unfolding fixed_size
returns-in_default c =
    let w = c.args.w.now in (sym (ap size_of (body_signaling w (λ e. omega arith) (λ e. omega arith) (λ e. omega arith) (λ e. omega arith) (λ e. omega arith))), omega arith, omega arith)
