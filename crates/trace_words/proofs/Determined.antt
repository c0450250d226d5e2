-- Any two results that a contract of this crate allows are equal, over the contract as it is read of the source: a
-- contract that said less would not prove these.
use mathlib.Core.Path.{◌∙◌, refl, sym}
use Rattle.laws.proofs.Fixes.{Fixes}
use Rattle.trace_words.specs.contracts as contracts
use Rattle.trace_words.proofs as its

pub put_recorded_determined : Fixes contracts.put_recorded.ended its.put_recorded.Reads.Post
put_recorded_determined κs a x y v w p q = (p.0 ∙ sym q.0, λ i. ((p.1 ∙ sym q.1) i, w.1))

pub finished_determined : Fixes contracts.finished.ended its.finished.Reads.Post
finished_determined κs a x y v w p q = (p ∙ sym q, refl)

pub put_replayed_determined : Fixes contracts.put_replayed.ended its.put_replayed.Reads.Post
put_replayed_determined κs a x y v w p q = (p.0 ∙ sym q.0, λ i. ((p.1 ∙ sym q.1) i, w.1))

pub next_determined : Fixes contracts.next.ended its.next.Reads.Post
next_determined κs a x y v w p q = (p ∙ sym q, refl)
