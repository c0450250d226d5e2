-- The contract of each public function fixes its answer and every word it is lent: any two results that it allows are equal.
use mathlib.Core.Path.{◌∙◌, sym}
use Rattle.laws.proofs.Fixes.{Fixes}
use Rattle.bursts.specs.contracts as contracts
use Rattle.bursts.proofs as its

pub answer_determined : Fixes contracts.answer.ended its.answer.Reads.Post
answer_determined κs a x y v w p q = (p.0 ∙ sym q.0, λ i. ((p.1 ∙ sym q.1) i, w.1))

pub take_burst_determined : Fixes contracts.take_burst.ended its.take_burst.Reads.Post
take_burst_determined κs a x y v w p q = (p.0 ∙ sym q.0, λ i. ((p.1.0 ∙ sym q.1.0) i, (tt, ((p.1.1 ∙ sym q.1.1) i, w.1.1.1))))
