-- The contract of each public function fixes its answer and all that it is lent: any two results that it allows are equal.
use mathlib.Core.Path.{◌∙◌, sym}
use Rattle.laws.proofs.Fixes.{Fixes}
use Rattle.importing.specs.contracts as contracts
use Rattle.importing.proofs as its

pub keep_determined : Fixes contracts.keep.ended its.keep.Reads.Post
keep_determined κs a x y v w p q =
    (p.0 ∙ sym q.0, λ i. ((p.1.0 ∙ sym q.1.0) i, ((p.1.1.0 ∙ sym q.1.1.0) i, (tt, (tt, (tt, ((p.1.1.1 ∙ sym q.1.1.1) i, tt)))))))

pub import_determined : Fixes contracts.import.ended its.import.Reads.Post
import_determined κs a x y v w p q = (p.0 ∙ sym q.0, λ i. ((p.1 ∙ sym q.1) i, (tt, (tt, tt))))
