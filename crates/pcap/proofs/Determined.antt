-- The contract of each public function fixes its answer: any two results that it allows are equal. Over each contract's own reading, so that a weaker
-- contract breaks these proofs.
use mathlib.Core.Path.{◌∙◌, refl, sym}
use Rattle.laws.proofs.Fixes.{Fixes}
use Rattle.pcap.specs.contracts as contracts
use Rattle.pcap.proofs as its

pub form_of_determined : Fixes contracts.form_of.ended its.form_of.Reads.Post
form_of_determined κs a x y v w p q = (p ∙ sym q, refl)

pub is_head_determined : Fixes contracts.is_head.ended its.is_head.Reads.Post
is_head_determined κs a x y v w p q = (p ∙ sym q, refl)

pub stored_determined : Fixes contracts.stored.ended its.stored.Reads.Post
stored_determined κs a x y v w p q = (p ∙ sym q, refl)

pub size_determined : Fixes contracts.size.ended its.size.Reads.Post
size_determined κs a x y v w p q = (p ∙ sym q, refl)

pub time_determined : Fixes contracts.time.ended its.time.Reads.Post
time_determined κs a x y v w p q = (p ∙ sym q, refl)

pub is_packet_head_determined : Fixes contracts.is_packet_head.ended its.is_packet_head.Reads.Post
is_packet_head_determined κs a x y v w p q = (p ∙ sym q, refl)

pub is_packet_determined : Fixes contracts.is_packet.ended its.is_packet.Reads.Post
is_packet_determined κs a x y v w p q = (p ∙ sym q, refl)

pub is_capture_determined : Fixes contracts.is_capture.ended its.is_capture.Reads.Post
is_capture_determined κs a x y v w p q = (p ∙ sym q, refl)
