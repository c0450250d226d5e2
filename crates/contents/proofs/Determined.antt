-- Any two results that a contract of this crate allows are equal, over the contract as it is read of the source: a
-- contract that said less would not prove these.
use mathlib.Core.Path.{◌∙◌, refl, sym}
use Rattle.laws.proofs.Fixes.{Fixes, FixesPart}
use Rattle.contents.specs.contracts as contracts
use Rattle.contents.proofs as its

pub parts_checked_tail_determined : FixesPart contracts.parts.checked_tail.ended its.parts.checked_tail.Reads.Post (λ κs. (λ x. x.now))
parts_checked_tail_determined κs a x y v w p q = (p ∙ sym q, refl)

pub parts_tail_determined : FixesPart contracts.parts.tail.ended its.parts.tail.Reads.Post (λ κs. (λ x. x.now))
parts_tail_determined κs a x y v w p q = (p ∙ sym q, refl)

pub parts_lookup_determined : FixesPart contracts.parts.lookup.ended its.parts.lookup.Reads.Post (λ κs. (λ x. x.now))
parts_lookup_determined κs a x y v w p q = (p ∙ sym q, refl)

pub parts_looked_up_determined : Fixes contracts.parts.looked_up.ended its.parts.looked_up.Reads.Post
parts_looked_up_determined κs a x y v w p q = (p ∙ sym q, refl)

pub parts_suffix_determined : Fixes contracts.parts.suffix.ended its.parts.suffix.Reads.Post
parts_suffix_determined κs a x y v w p q = (p ∙ sym q, refl)

pub parts_link_message_determined : Fixes contracts.parts.link_message.ended its.parts.link_message.Reads.Post
parts_link_message_determined κs a x y v w p q = (p ∙ sym q, refl)

pub parts_data_length_determined : Fixes contracts.parts.data_length.ended its.parts.data_length.Reads.Post
parts_data_length_determined κs a x y v w p q = (p ∙ sym q, refl)

pub sound_fixed_bounds_determined : Fixes contracts.sound.fixed_bounds.ended its.sound.fixed_bounds.Reads.Post
sound_fixed_bounds_determined κs a x y v w p q = (p ∙ sym q, refl)

pub sound_sound_bounds_determined : Fixes contracts.sound.sound_bounds.ended its.sound.sound_bounds.Reads.Post
sound_sound_bounds_determined κs a x y v w p q = (p ∙ sym q, refl)

pub tlvs_next_tlv_determined : Fixes contracts.tlvs.next_tlv.ended its.tlvs.next_tlv.Reads.Post
tlvs_next_tlv_determined κs a x y v w p q = (p ∙ sym q, refl)

pub tlvs_next_data_determined : FixesPart contracts.tlvs.next_data.ended its.tlvs.next_data.Reads.Post (λ κs. (λ x. x.now))
tlvs_next_data_determined κs a x y v w p q = (p ∙ sym q, refl)

pub search_is_link_determined : Fixes contracts.search.is_link.ended its.search.is_link.Reads.Post
search_is_link_determined κs a x y v w p q = (p ∙ sym q, refl)

pub search_place_determined : Fixes contracts.search.place.ended its.search.place.Reads.Post
search_place_determined κs a x y v w p q = (p ∙ sym q, refl)

pub search_data_of_determined : FixesPart contracts.search.data_of.ended its.search.data_of.Reads.Post (λ κs. (λ x. x.now))
search_data_of_determined κs a x y v w p q = (p ∙ sym q, refl)

pub search_is_sound_determined : Fixes contracts.search.is_sound.ended its.search.is_sound.Reads.Post
search_is_sound_determined κs a x y v w p q = (p ∙ sym q, refl)

pub search_sound_place_determined : Fixes contracts.search.sound_place.ended its.search.sound_place.Reads.Post
search_sound_place_determined κs a x y v w p q = (p ∙ sym q, refl)

pub wr_first_suffix_determined : Fixes contracts.wr.first_suffix.ended its.wr.first_suffix.Reads.Post
wr_first_suffix_determined κs a x y v w p q = (p ∙ sym q, refl)

pub wr_first_link_determined : Fixes contracts.wr.first_link.ended its.wr.first_link.Reads.Post
wr_first_link_determined κs a x y v w p q = (p ∙ sym q, refl)

pub whole_body_of_determined : Fixes contracts.whole.body_of.ended its.whole.body_of.Reads.Post
whole_body_of_determined κs a x y v w p q = (p ∙ sym q, refl)

pub whole_read_determined : Fixes contracts.whole.read.ended its.whole.read.Reads.Post
whole_read_determined κs a x y v w p q = (p ∙ sym q, refl)
