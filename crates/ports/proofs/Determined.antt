-- The contract of each public function fixes its answer and every word it is lent: any two results that it allows are equal.
use mathlib.Core.Path.{◌∙◌, refl, sym}
use Rattle.laws.proofs.Fixes.{Fixes}
use Rattle.ports.specs.contracts as contracts
use Rattle.ports.proofs as its

pub intake_take_determined : Fixes contracts.intake.take.ended its.intake.take.Reads.Post
intake_take_determined κs a x y v w p q = (p.0 ∙ sym q.0, λ i. ((p.1 ∙ sym q.1) i, w.1))

pub interval_set_interval_determined : Fixes contracts.interval.set_interval.ended its.interval.set_interval.Reads.Post
interval_set_interval_determined κs a x y v w p q = (p.0 ∙ sym q.0, λ i. ((p.1 ∙ sym q.1) i, w.1))

pub interval_interval_of_determined : Fixes contracts.interval.interval_of.ended its.interval.interval_of.Reads.Post
interval_interval_of_determined κs a x y v w p q = (p ∙ sym q, refl)

pub asking_candidate_determined : Fixes contracts.asking.candidate.ended its.asking.candidate.Reads.Post
asking_candidate_determined κs a x y v w p q = (p ∙ sym q, refl)

pub asking_best_determined : Fixes contracts.asking.best.ended its.asking.best.Reads.Post
asking_best_determined κs a x y v w p q = (p ∙ sym q, refl)

pub asking_port_status_determined : Fixes contracts.asking.port_status.ended its.asking.port_status.Reads.Post
asking_port_status_determined κs a x y v w p q = (p ∙ sym q, refl)

pub asking_look_determined : Fixes contracts.asking.look.ended its.asking.look.Reads.Post
asking_look_determined κs a x y v w p q = (p ∙ sym q, refl)

pub places_is_late_determined : Fixes contracts.places.is_late.ended its.places.is_late.Reads.Post
places_is_late_determined κs a x y v w p q = (p ∙ sym q, refl)

pub places_place_determined : Fixes contracts.places.place.ended its.places.place.Reads.Post
places_place_determined κs a x y v w p q = (p ∙ sym q, refl)

pub places_port_of_determined : Fixes contracts.places.port_of.ended its.places.port_of.Reads.Post
places_port_of_determined κs a x y v w p q = (p ∙ sym q, refl)

pub places_candidate_determined : Fixes contracts.places.candidate.ended its.places.candidate.Reads.Post
places_candidate_determined κs a x y v w p q = (p ∙ sym q, refl)

pub places_is_before_determined : Fixes contracts.places.is_before.ended its.places.is_before.Reads.Post
places_is_before_determined κs a x y v w p q = (p ∙ sym q, refl)
