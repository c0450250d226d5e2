-- The contract of each public function fixes its answer and the words it is lent: any two results that it allows are equal.
use mathlib.Core.Path.{◌∙◌, refl, sym}
use Rattle.laws.proofs.Fixes.{Fixes}
use Rattle.exchange_words.specs.contracts as contracts
use Rattle.exchange_words.proofs as its

pub measured_determined : Fixes contracts.measured.ended its.measured.Reads.Post
measured_determined κs a x y v w p q = (p ∙ sym q, refl)

pub put_measured_determined : Fixes contracts.put_measured.ended its.put_measured.Reads.Post
put_measured_determined κs a x y v w p q = (p.0 ∙ sym q.0, λ i. ((p.1 ∙ sym q.1) i, w.1))
