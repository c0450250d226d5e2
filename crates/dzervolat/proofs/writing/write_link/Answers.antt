-- `write_link` meets its contract: the words are looked at, then the Signaling is written.
use mathlib.Core.Path.{ap, ◌∙◌}
use Rattle.writer.specs.Writing.{write_of, buffer_of}
use Rattle.wr_tlvs.specs.Built.{signaling, link_octets}
use mathlib.Core.Bool.{not}
use Rattle.words.proofs.Laws.{is_refused, is_passed}
use Rattle.dzervolat.proofs.writing.write_link.Goals as goal

pub returns-then-not-is_signaling-clause-answer : goal.returns-then-not-is_signaling-clause-answer
returns-then-not-is_signaling-clause-answer c =
    is_refused _ _ c.is_signaling.ensures _ _ (ap not c.if-not-is_signaling.true)

pub returns-then-not-is_signaling-clause-buffer : goal.returns-then-not-is_signaling-clause-buffer
returns-then-not-is_signaling-clause-buffer c =
    is_refused _ _ c.is_signaling.ensures _ _ (ap not c.if-not-is_signaling.true)

pub returns-clause-answer : goal.returns-clause-answer
returns-clause-answer c =
    let a = c.args in
    let whole = c.is_signaling.ensures in
    let o = a.out.now in is_passed _ _ whole _ _ (ap not c.if-not-is_signaling.false)
    (c.write_link.ensures.answer ∙ (λ i. write_of a.magic (signaling (c.header_of-h.ensures i) (c.identity_at-target.ensures i)) (link_octets a.magic (c.link_message_of-x.ensures i)) o))

pub returns-clause-buffer : goal.returns-clause-buffer
returns-clause-buffer c =
    let a = c.args in
    let whole = c.is_signaling.ensures in
    let o = a.out.now in is_passed _ _ whole _ _ (ap not c.if-not-is_signaling.false)
    (c.write_link.ensures.buffer ∙ (λ i. buffer_of a.magic (signaling (c.header_of-h.ensures i) (c.identity_at-target.ensures i)) (link_octets a.magic (c.link_message_of-x.ensures i)) o))
