-- The contract of each public function fixes its answer: any two results that it allows are equal. Nothing is lent to any
-- of them.
use mathlib.Core.Path.{◌∙◌, refl, sym}
use Rattle.laws.proofs.Fixes.{Fixes}
use Rattle.decide.specs.contracts as contracts
use Rattle.decide.proofs as its

pub compare_determined : Fixes contracts.compare.ended its.compare.Reads.Post
compare_determined κs a x y v w p q = (p ∙ sym q, refl)

pub own_set_determined : Fixes contracts.own_set.ended its.own_set.Reads.Post
own_set_determined κs a x y v w p q = (p ∙ sym q, refl)

pub decide_determined : Fixes contracts.decide.ended its.decide.Reads.Post
decide_determined κs a x y v w p q = (p ∙ sym q, refl)

pub leading_determined : Fixes contracts.leading.ended its.leading.Reads.Post
leading_determined κs a x y v w p q = (p ∙ sym q, refl)

pub led_determined : Fixes contracts.led.ended its.led.Reads.Post
led_determined κs a x y v w p q = (p ∙ sym q, refl)
