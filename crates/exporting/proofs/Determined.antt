-- The contract of each public function fixes its answer and all that it is lent: any two results that it allows are equal.
use mathlib.Core.Path.{◌∙◌, refl, sym}
use Rattle.laws.proofs.Fixes.{Fixes}
use Rattle.exporting.specs.contracts as contracts
use Rattle.exporting.proofs as its

pub put_head_determined : Fixes contracts.put_head.ended its.put_head.Reads.Post
put_head_determined κs a x y v w p q = (refl, λ i. ((p ∙ sym q) i, w.1))

pub export_determined : Fixes contracts.export.ended its.export.Reads.Post
export_determined κs a x y v w p q = (p.0 ∙ sym q.0, λ i. ((p.1 ∙ sym q.1) i, w.1))

pub export_block_determined : Fixes contracts.export_block.ended its.export_block.Reads.Post
export_block_determined κs a x y v w p q =
    (p.0 ∙ sym q.0, λ i. ((p.1.0 ∙ sym q.1.0) i, (tt, ((p.1.1 ∙ sym q.1.1) i, tt))))
