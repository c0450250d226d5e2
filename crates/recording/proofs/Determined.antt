-- The contract of each public function fixes its answer and all that it is lent: any two results that it allows are equal.
use mathlib.Core.Path.{◌∙◌, sym}
use Rattle.laws.proofs.Fixes.{Fixes}
use Rattle.recording.specs.contracts as contracts
use Rattle.recording.proofs as its

pub record_determined : Fixes contracts.record.ended its.record.Reads.Post
record_determined κs a x y v w p q =
    (p.0 ∙ sym q.0, λ i. ((p.1.0 ∙ sym q.1.0) i, ((p.1.1.0 ∙ sym q.1.1.0) i, (tt, (tt, (tt, ((p.1.1.1 ∙ sym q.1.1.1) i, tt)))))))

pub foresee_determined : Fixes contracts.foresee.ended its.foresee.Reads.Post
foresee_determined κs a x y v w p q = (p.0 ∙ sym q.0, λ i. ((p.1 ∙ sym q.1) i, (tt, (tt, (tt, tt)))))

pub finish_determined : Fixes contracts.finish.ended its.finish.Reads.Post
finish_determined κs a x y v w p q = (p.0 ∙ sym q.0, λ i. (tt, (tt, ((p.1 ∙ sym q.1) i, tt))))
