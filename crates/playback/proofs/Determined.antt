-- The contract of each public function fixes its answer and every word it is lent: any two results that it allows are equal.
use mathlib.Core.Path.{◌∙◌, refl, sym}
use Rattle.laws.proofs.Fixes.{Fixes}
use Rattle.playback.specs.contracts as contracts
use Rattle.playback.proofs as its

pub replay_block_determined : Fixes contracts.replay_block.ended its.replay_block.Reads.Post
replay_block_determined κs a x y v w p q = (p.0 ∙ sym q.0, λ i. ((p.1.0 ∙ sym q.1.0) i, ((p.1.1 ∙ sym q.1.1) i, w.1.1)))

pub replay_determined : Fixes contracts.replay.ended its.replay.Reads.Post
replay_determined κs a x y v w p q = (p.0 ∙ sym q.0, λ i. ((p.1 ∙ sym q.1) i, w.1))

pub judged_determined : Fixes contracts.judged.ended its.judged.Reads.Post
judged_determined κs a x y v w p q = (p ∙ sym q, refl)
