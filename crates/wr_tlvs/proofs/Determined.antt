-- Every public contract determines its answer and the buffer at exit: any two results that it allows are equal. Over each
-- contract's own reading, so that a weaker contract breaks these proofs.
use mathlib.Core.Path.{◌∙◌, refl, sym}
use Rattle.laws.proofs.Fixes.{Fixes}
use Rattle.wr_tlvs.specs.contracts as contracts
use Rattle.wr_tlvs.proofs as its

pub suffix_determined : Fixes contracts.suffix.ended its.suffix.Reads.Post
suffix_determined κs a x y v w p q = (p ∙ sym q, refl)

pub link_determined : Fixes contracts.link.ended its.link.Reads.Post
link_determined κs a x y v w p q = (p ∙ sym q, refl)

pub write_link_determined : Fixes contracts.write_link.ended its.write_link.Reads.Post
write_link_determined κs a x y v w p q = (p.0 ∙ sym q.0, λ i. ((p.1 ∙ sym q.1) i, w.1))

pub digits_two_determined : Fixes contracts.digits.two.ended its.digits.two.Reads.Post
digits_two_determined κs a x y v w p q = (p ∙ sym q, refl)

pub digits_four_determined : Fixes contracts.digits.four.ended its.digits.four.Reads.Post
digits_four_determined κs a x y v w p q = (p ∙ sym q, refl)

pub digits_six_determined : Fixes contracts.digits.six.ended its.digits.six.Reads.Post
digits_six_determined κs a x y v w p q = (p ∙ sym q, refl)

pub digits_eight_determined : Fixes contracts.digits.eight.ended its.digits.eight.Reads.Post
digits_eight_determined κs a x y v w p q = (p ∙ sym q, refl)
