-- The contract of each function that reads and writes in one call fixes its answer and the buffer at exit: any two results that it allows are equal. Over the
-- contract as it is read of the source, so that one that said less would not prove these.
use mathlib.Core.Path.{◌∙◌, sym}
use Rattle.laws.proofs.Fixes.{Fixes}
use Rattle.roundtrip.specs.contracts as contracts
use Rattle.roundtrip.proofs as its

pub again_determined : Fixes contracts.again.ended its.again.Reads.Post
again_determined κs a x y v w p q = (p.0 ∙ sym q.0, λ i. ((p.1 ∙ sym q.1) i, w.1))

pub link_again_determined : Fixes contracts.link_again.ended its.link_again.Reads.Post
link_again_determined κs a x y v w p q = (p.0 ∙ sym q.0, λ i. ((p.1 ∙ sym q.1) i, w.1))
