-- Every public contract determines its answer and the block at exit: any two results that it allows are equal. Over each contract's own
-- reading, so that a weaker contract breaks these proofs.
use mathlib.Core.Path.{◌∙◌, refl, sym}
use Rattle.laws.proofs.Fixes.{Fixes}
use Rattle.block.specs.contracts as contracts
use Rattle.block.proofs as its

pub count_determined : Fixes contracts.count.ended its.count.Reads.Post
count_determined κs a x y v w p q = (p ∙ sym q, refl)

pub sums_folded_determined : Fixes contracts.sums.folded.ended its.sums.folded.Reads.Post
sums_folded_determined κs a x y v w p q = (p ∙ sym q, refl)

pub sums_remainder_determined : Fixes contracts.sums.remainder.ended its.sums.remainder.Reads.Post
sums_remainder_determined κs a x y v w p q = (p ∙ sym q, refl)

pub making_open_determined : Fixes contracts.making.open.ended its.making.open.Reads.Post
making_open_determined κs a x y v w p q = (refl, λ i. ((p ∙ sym q) i, w.1))

pub making_add_determined : Fixes contracts.making.add.ended its.making.add.Reads.Post
making_add_determined κs a x y v w p q = (refl, λ i. ((p ∙ sym q) i, w.1))

pub making_seal_determined : Fixes contracts.making.seal.ended its.making.seal.Reads.Post
making_seal_determined κs a x y v w p q = (refl, λ i. (tt, ((p ∙ sym q) i, w.1.1)))
