-- The contract of each public function fixes its answer and the words it is lent: any two results that it allows are equal.
use mathlib.Core.Path.{◌∙◌, refl, sym}
use Rattle.laws.proofs.Fixes.{Fixes}
use Rattle.message_words.specs.contracts as contracts
use Rattle.message_words.proofs as its

pub message_words_determined : Fixes contracts.message_words.ended its.message_words.Reads.Post
message_words_determined κs a x y v w p q = (p ∙ sym q, refl)

pub identity_at_determined : Fixes contracts.identity_at.ended its.identity_at.Reads.Post
identity_at_determined κs a x y v w p q = (p ∙ sym q, refl)

pub header_of_determined : Fixes contracts.header_of.ended its.header_of.Reads.Post
header_of_determined κs a x y v w p q = (p ∙ sym q, refl)

pub message_of_determined : Fixes contracts.message_of.ended its.message_of.Reads.Post
message_of_determined κs a x y v w p q = (p ∙ sym q, refl)

pub are_same_determined : Fixes contracts.are_same.ended its.are_same.Reads.Post
are_same_determined κs a x y v w p q = (p ∙ sym q, refl)

pub is_whole_determined : Fixes contracts.is_whole.ended its.is_whole.Reads.Post
is_whole_determined κs a x y v w p q = (p ∙ sym q, refl)

pub put_walked_determined : Fixes contracts.answers.put_walked.ended its.answers.put_walked.Reads.Post
put_walked_determined κs a x y v w p q = (p.0 ∙ sym q.0, λ i. ((p.1 ∙ sym q.1) i, w.1))

pub put_tlv_determined : Fixes contracts.answers.put_tlv.ended its.answers.put_tlv.Reads.Post
put_tlv_determined κs a x y v w p q = (p.0 ∙ sym q.0, λ i. ((p.1 ∙ sym q.1) i, w.1))

pub put_suffix_determined : Fixes contracts.answers.put_suffix.ended its.answers.put_suffix.Reads.Post
put_suffix_determined κs a x y v w p q = (p.0 ∙ sym q.0, λ i. ((p.1 ∙ sym q.1) i, w.1))

pub link_message_words_determined : Fixes contracts.answers.link_message_words.ended its.answers.link_message_words.Reads.Post
link_message_words_determined κs a x y v w p q = (p ∙ sym q, refl)

pub put_link_determined : Fixes contracts.answers.put_link.ended its.answers.put_link.Reads.Post
put_link_determined κs a x y v w p q = (p.0 ∙ sym q.0, λ i. ((p.1 ∙ sym q.1) i, w.1))

pub put_origin_determined : Fixes contracts.answers.put_origin.ended its.answers.put_origin.Reads.Post
put_origin_determined κs a x y v w p q = (refl, λ i. ((p ∙ sym q) i, w.1))

pub put_message_determined : Fixes contracts.reading.put_message.ended its.reading.put_message.Reads.Post
put_message_determined κs a x y v w p q = (refl, λ i. ((p ∙ sym q) i, w.1))

pub link_message_of_determined : Fixes contracts.writing.link_message_of.ended its.writing.link_message_of.Reads.Post
link_message_of_determined κs a x y v w p q = (p ∙ sym q, refl)

pub is_link_determined : Fixes contracts.writing.is_link.ended its.writing.is_link.Reads.Post
is_link_determined κs a x y v w p q = (p ∙ sym q, refl)

pub put_written_determined : Fixes contracts.writing.put_written.ended its.writing.put_written.Reads.Post
put_written_determined κs a x y v w p q = (p.0 ∙ sym q.0, λ i. ((p.1 ∙ sym q.1) i, w.1))

pub straight_write_determined : Fixes contracts.straight.write.ended its.straight.write.Reads.Post
straight_write_determined κs a x y v w p q = (p.0 ∙ sym q.0, λ i. ((p.1 ∙ sym q.1) i, w.1))
