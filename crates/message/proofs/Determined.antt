-- Any two results that a contract of this crate allows are equal, over the contract as it is read of the source: a
-- contract that said less would not prove these.
use mathlib.Core.Path.{◌∙◌, refl, sym}
use Rattle.laws.proofs.Fixes.{Fixes}
use Rattle.message.specs.contracts as contracts
use Rattle.message.proofs as its

pub announce_read_announce_determined : Fixes contracts.announce.read_announce.ended its.announce.read_announce.Reads.Post
announce_read_announce_determined κs a x y v w p q = (p ∙ sym q, refl)

pub fields_fixed_size_determined : Fixes contracts.fields.fixed_size.ended its.fields.fixed_size.Reads.Post
fields_fixed_size_determined κs a x y v w p q = (p ∙ sym q, refl)

pub fields_header_of_determined : Fixes contracts.fields.header_of.ended its.fields.header_of.Reads.Post
fields_header_of_determined κs a x y v w p q = (p ∙ sym q, refl)

pub fields_announce_of_determined : Fixes contracts.fields.announce_of.ended its.fields.announce_of.Reads.Post
fields_announce_of_determined κs a x y v w p q = (p ∙ sym q, refl)

pub reading_head_determined : Fixes contracts.reading.head.ended its.reading.head.Reads.Post
reading_head_determined κs a x y v w p q = (p ∙ sym q, refl)

pub reading_check_determined : Fixes contracts.reading.check.ended its.reading.check.Reads.Post
reading_check_determined κs a x y v w p q = (p ∙ sym q, refl)

pub reading_takes_determined : Fixes contracts.reading.takes.ended its.reading.takes.Reads.Post
reading_takes_determined κs a x y v w p q = (p ∙ sym q, refl)

pub reading_bad_stamp_determined : Fixes contracts.reading.bad_stamp.ended its.reading.bad_stamp.Reads.Post
reading_bad_stamp_determined κs a x y v w p q = (p ∙ sym q, refl)

pub reading_tail_check_determined : Fixes contracts.reading.tail_check.ended its.reading.tail_check.Reads.Post
reading_tail_check_determined κs a x y v w p q = (p ∙ sym q, refl)

pub reading_place_in_determined : Fixes contracts.reading.place_in.ended its.reading.place_in.Reads.Post
reading_place_in_determined κs a x y v w p q = (p ∙ sym q, refl)

pub fields_identity_at_determined : Fixes contracts.fields.identity_at.ended its.fields.identity_at.Reads.Post
fields_identity_at_determined κs a x y v w p q = (p ∙ sym q, refl)

pub fields_stamp_with_determined : Fixes contracts.fields.stamp_with.ended its.fields.stamp_with.Reads.Post
fields_stamp_with_determined κs a x y v w p q = (p ∙ sym q, refl)
