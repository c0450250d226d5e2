-- The contract of each public function fixes its answer and the words it is lent: any two results that it allows are equal.
use mathlib.Core.Path.{◌∙◌, sym}
use Rattle.laws.proofs.Fixes.{Fixes}
use Rattle.link_words.specs.contracts as contracts
use Rattle.link_words.proofs as its

pub put_taken_determined : Fixes contracts.put_taken.ended its.put_taken.Reads.Post
put_taken_determined κs a x y v w p q = (p.0 ∙ sym q.0, λ i. ((p.1 ∙ sym q.1) i, w.1))

pub take_determined : Fixes contracts.events.take.ended its.events.take.Reads.Post
take_determined κs a x y v w p q = (p.0 ∙ sym q.0, λ i. ((p.1.0 ∙ sym q.1.0) i, (tt, (tt, ((p.1.1 ∙ sym q.1.1) i, w.1.1.1.1)))))
