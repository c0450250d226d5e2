-- Every public contract determines its answer and the buffer at exit: any two results that it allows are equal. Over each
-- contract's own reading, so that a weaker contract breaks these proofs.
use mathlib.Core.Path.{◌∙◌, refl, sym}
use Rattle.laws.proofs.Fixes.{Fixes}
use Rattle.writer.specs.contracts as contracts
use Rattle.writer.proofs as its

pub check_type_determined : Fixes contracts.writing.check_type.ended its.writing.check_type.Reads.Post
check_type_determined κs a x y v w p q = (p ∙ sym q, refl)

pub write_determined : Fixes contracts.writing.write.ended its.writing.write.Reads.Post
write_determined κs a x y v w p q = (p.0 ∙ sym q.0, λ i. ((p.1 ∙ sym q.1) i, w.1))
