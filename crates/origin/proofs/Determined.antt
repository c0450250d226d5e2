-- Every public contract determines its answer: any two results that it allows are equal. Over each contract's own
-- reading, so that a weaker contract breaks these proofs.
use mathlib.Core.Path.{◌∙◌, refl, sym}
use Rattle.laws.proofs.Fixes.{Fixes, FixesPart}
use Rattle.origin.specs.contracts as contracts
use Rattle.origin.proofs as its

pub origin_says_determined : Fixes contracts.origin_says.ended its.origin_says.Reads.Post
origin_says_determined κs a x y v w p q = (p ∙ sym q, refl)

pub origin_determined : FixesPart contracts.origin.ended its.origin.Reads.Post (λ κs. (λ x. x.now))
origin_determined κs a x y v w p q = (p ∙ sym q, refl)

pub checked_origin_determined : FixesPart contracts.checked_origin.ended its.checked_origin.Reads.Post (λ κs. (λ x. x.now))
checked_origin_determined κs a x y v w p q = (p ∙ sym q, refl)
