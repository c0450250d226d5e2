-- Every public contract determines the buffer at exit: any two results that it allows are equal. Over each
-- contract's own reading, so that a weaker contract breaks these proofs.
use mathlib.Core.Path.{◌∙◌, refl, sym}
use Rattle.laws.proofs.Fixes.{Fixes}
use Rattle.stores.specs.contracts as contracts
use Rattle.stores.proofs as its

pub one_determined : Fixes contracts.one.ended its.one.Reads.Post
one_determined κs a x y v w p q = (refl, λ i. ((p ∙ sym q) i, w.1))

pub two_determined : Fixes contracts.two.ended its.two.Reads.Post
two_determined κs a x y v w p q = (refl, λ i. ((p ∙ sym q) i, w.1))

pub four_determined : Fixes contracts.four.ended its.four.Reads.Post
four_determined κs a x y v w p q = (refl, λ i. ((p ∙ sym q) i, w.1))

pub six_determined : Fixes contracts.six.ended its.six.Reads.Post
six_determined κs a x y v w p q = (refl, λ i. ((p ∙ sym q) i, w.1))

pub eight_determined : Fixes contracts.eight.ended its.eight.Reads.Post
eight_determined κs a x y v w p q = (refl, λ i. ((p ∙ sym q) i, w.1))

pub copy_in_determined : Fixes contracts.copy_in.ended its.copy_in.Reads.Post
copy_in_determined κs a x y v w p q = (refl, λ i. ((p ∙ sym q) i, w.1))
