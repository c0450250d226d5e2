-- Any two results that a contract of this crate allows are equal, over the contract as it is read of the source: a
-- contract that said less would not prove these.
use mathlib.Core.Path.{◌∙◌, refl, sym}
use Rattle.laws.proofs.Fixes.{Fixes}
use Rattle.refusal.specs.contracts as contracts
use Rattle.refusal.proofs as its

pub is_port_determined : Fixes contracts.is_port.ended its.is_port.Reads.Post
is_port_determined κs a x y v w p q = (p ∙ sym q, refl)

pub number_determined : Fixes contracts.number.ended its.number.Reads.Post
number_determined κs a x y v w p q = (p ∙ sym q, refl)

pub answer_determined : Fixes contracts.answer.ended its.answer.Reads.Post
answer_determined κs a x y v w p q = (p ∙ sym q, refl)

pub code_determined : Fixes contracts.code.ended its.code.Reads.Post
code_determined κs a x y v w p q = (p ∙ sym q, refl)
