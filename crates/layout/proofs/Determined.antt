-- Every public contract determines its answer and the buffer at exit: any two results that it allows are equal. Over each
-- contract's own reading, so that a weaker contract breaks these proofs.
use mathlib.Core.Path.{◌∙◌, refl, sym}
use Rattle.laws.proofs.Fixes.{Fixes}
use Rattle.layout.specs.contracts as contracts
use Rattle.layout.proofs as its

pub kind_of_determined : Fixes contracts.kind_of.ended its.kind_of.Reads.Post
kind_of_determined κs a x y v w p q = (p ∙ sym q, refl)

pub put_header_determined : Fixes contracts.put_header.ended its.put_header.Reads.Post
put_header_determined κs a x y v w p q = (refl, λ i. ((p ∙ sym q) i, w.1))

pub put_body_determined : Fixes contracts.put_body.ended its.put_body.Reads.Post
put_body_determined κs a x y v w p q = (refl, λ i. ((p ∙ sym q) i, w.1))

pub put_identity_determined : Fixes contracts.put_identity.ended its.put_identity.Reads.Post
put_identity_determined κs a x y v w p q = (refl, λ i. ((p ∙ sym q) i, w.1))

pub put_stamp_determined : Fixes contracts.put_stamp.ended its.put_stamp.Reads.Post
put_stamp_determined κs a x y v w p q = (refl, λ i. ((p ∙ sym q) i, w.1))

pub put_lead_determined : Fixes contracts.put_lead.ended its.put_lead.Reads.Post
put_lead_determined κs a x y v w p q = (refl, λ i. ((p ∙ sym q) i, w.1))

pub put_close_determined : Fixes contracts.put_close.ended its.put_close.Reads.Post
put_close_determined κs a x y v w p q = (refl, λ i. ((p ∙ sym q) i, w.1))

pub put_announce_determined : Fixes contracts.put_announce.ended its.put_announce.Reads.Post
put_announce_determined κs a x y v w p q = (refl, λ i. ((p ∙ sym q) i, w.1))
