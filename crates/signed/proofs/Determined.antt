-- Any two results that a contract allows are equal.
use mathlib.Core.Path.{◌∙◌, ap, refl, sym}
use Rattle.signed.proofs.Parts.{up}
use Rattle.laws.proofs.Fixes.{Fixes}
use Rattle.signed.specs.contracts as contracts
use Rattle.signed.proofs as its

pub raised_determined : Fixes contracts.raised.ended its.raised.Reads.Post
raised_determined κs a x y v w p q = (ap up (p ∙ sym q), refl)

pub difference_determined : Fixes contracts.difference.ended its.difference.Reads.Post
difference_determined κs a x y v w p q = (p ∙ sym q, refl)
