-- `straight::body_holds` meets its contract: type by type.
use native.Mathlib.Omega.{arith}
use mathlib.Core.Path.{◌∙◌, sym, ap}
use Rattle.writer.specs.Writing.{body_fits}
use Rattle.message_words.specs.Words.{announce_of}
use Rattle.message_words.proofs.Bodies.{body_sync, body_delay_req, body_follow_up, body_delay_resp, body_announce, body_signaling}
use Rattle.message_words.proofs.straight.body_holds.Goals as goal

pub returns-in-0 : goal.returns-in-0
returns-in-0 c =
    let w = c.args.w.now in c.stamp_holds.ensures ∙ sym (ap body_fits (body_sync w c.in-0.is))

pub returns-in-1 : goal.returns-in-1
returns-in-1 c =
    let w = c.args.w.now in c.stamp_holds-in-1.ensures ∙ sym (ap body_fits (body_delay_req w c.in-1.is))

pub returns-in-8 : goal.returns-in-8
returns-in-8 c =
    let w = c.args.w.now in c.stamp_holds-in-8.ensures ∙ sym (ap body_fits (body_follow_up w c.in-8.is))

pub returns-in-9 : goal.returns-in-9
returns-in-9 c =
    let w = c.args.w.now in c.stamp_holds-in-9.ensures ∙ sym (ap body_fits (body_delay_resp w c.in-9.is))

pub returns-in-11 : goal.returns-in-11
unfolding announce_of
returns-in-11 c =
    let w = c.args.w.now in c.stamp_holds-in-11.ensures ∙ sym (ap body_fits (body_announce w c.in-11.is))

pub returns-in_default : goal.returns-in_default
returns-in_default c =
    let w = c.args.w.now in sym (ap body_fits (body_signaling w (λ e. omega arith) (λ e. omega arith) (λ e. omega arith) (λ e. omega arith) (λ e. omega arith)))
