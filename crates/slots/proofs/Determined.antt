-- The contract of each public function fixes its answer and every word it is lent: any two results that it allows are equal.
use mathlib.Core.Path.{◌∙◌, refl, sym}
use Rattle.laws.proofs.Fixes.{Fixes}
use Rattle.slots.specs.contracts as contracts
use Rattle.slots.proofs as its

pub plan_determined : Fixes contracts.plan.ended its.plan.Reads.Post
plan_determined κs a x y v w p q = (p ∙ sym q, refl)

pub put_determined : Fixes contracts.put.ended its.put.Reads.Post
put_determined κs a x y v w p q = (refl, λ i. ((p ∙ sym q) i, w.1))

pub slot_determined : Fixes contracts.slot.ended its.slot.Reads.Post
slot_determined κs a x y v w p q = (p ∙ sym q, refl)

pub candidate_determined : Fixes contracts.candidate.ended its.candidate.Reads.Post
candidate_determined κs a x y v w p q = (p ∙ sym q, refl)

pub best_determined : Fixes contracts.best.ended its.best.Reads.Post
best_determined κs a x y v w p q = (p ∙ sym q, refl)

pub last_determined : Fixes contracts.last.ended its.last.Reads.Post
last_determined κs a x y v w p q = (p ∙ sym q, refl)

pub exponent_determined : Fixes contracts.exponent.ended its.exponent.Reads.Post
exponent_determined κs a x y v w p q = (p ∙ sym q, refl)

pub set_exponent_determined : Fixes contracts.set_exponent.ended its.set_exponent.Reads.Post
set_exponent_determined κs a x y v w p q = (refl, λ i. ((p ∙ sym q) i, w.1))

pub read_determined : Fixes contracts.read.ended its.read.Reads.Post
read_determined κs a x y v w p q = (p ∙ sym q, refl)

pub place_determined : Fixes contracts.place.ended its.place.Reads.Post
place_determined κs a x y v w p q = (p ∙ sym q, refl)

pub comes_before_determined : Fixes contracts.comes_before.ended its.comes_before.Reads.Post
comes_before_determined κs a x y v w p q = (p ∙ sym q, refl)
