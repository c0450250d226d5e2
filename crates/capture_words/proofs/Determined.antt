-- The contract of each public function fixes its answer and every word it is lent: any two results that it allows are equal.
use mathlib.Core.Path.{◌∙◌, sym}
use Rattle.laws.proofs.Fixes.{Fixes}
use Rattle.capture_words.specs.contracts as contracts
use Rattle.capture_words.proofs as its

pub put_form_determined : Fixes contracts.put_form.ended its.put_form.Reads.Post
put_form_determined κs a x y v w p q = (p.0 ∙ sym q.0, λ i. ((p.1 ∙ sym q.1) i, w.1))

pub put_packet_determined : Fixes contracts.put_packet.ended its.put_packet.Reads.Post
put_packet_determined κs a x y v w p q = (p.0 ∙ sym q.0, λ i. ((p.1 ∙ sym q.1) i, w.1))
