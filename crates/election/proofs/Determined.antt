-- The contract of each public function fixes its answer and every octet it is lent: any two results that it allows are equal.
use mathlib.Core.Path.{◌∙◌, refl, sym}
use Rattle.laws.proofs.Fixes.{Fixes}
use Rattle.election.specs.contracts as contracts
use Rattle.election.proofs as its

pub decide_all_determined : Fixes contracts.decide_all.ended its.decide_all.Reads.Post
decide_all_determined κs a x y v w p q = (p.0 ∙ sym q.0, λ i. (tt, (tt, (tt, ((p.1 ∙ sym q.1) i, w.1.1.1.1)))))

pub elect_determined : Fixes contracts.elect.ended its.elect.Reads.Post
elect_determined κs a x y v w p q = (p ∙ sym q, refl)

pub parent_determined : Fixes contracts.parent.ended its.parent.Reads.Post
parent_determined κs a x y v w p q = (p ∙ sym q, refl)

pub code_determined : Fixes contracts.code.ended its.code.Reads.Post
code_determined κs a x y v w p q = (p ∙ sym q, refl)
