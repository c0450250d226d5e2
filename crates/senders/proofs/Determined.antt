-- The contract of each public function fixes its answer: any two results that it allows are equal. No function here is lent
-- anything to change, so there is nothing else to fix.
use Rattle.std.proofs.Common.{sym, refl, ◌∙◌}
use Rattle.laws.proofs.Fixes.{Fixes}
use Rattle.senders.specs.contracts as contracts
use Rattle.senders.proofs as its

pub window_determined : Fixes contracts.window.ended its.window.Reads.Post
window_determined κs a x y v w p q = (p ∙ sym q, refl)

pub is_of_determined : Fixes contracts.is_of.ended its.is_of.Reads.Post
is_of_determined κs a x y v w p q = (p ∙ sym q, refl)

pub is_live_determined : Fixes contracts.is_live.ended its.is_live.Reads.Post
is_live_determined κs a x y v w p q = (p ∙ sym q, refl)

pub is_free_determined : Fixes contracts.is_free.ended its.is_free.Reads.Post
is_free_determined κs a x y v w p q = (p ∙ sym q, refl)

pub is_distant_determined : Fixes contracts.is_distant.ended its.is_distant.Reads.Post
is_distant_determined κs a x y v w p q = (p ∙ sym q, refl)

pub is_qualified_determined : Fixes contracts.is_qualified.ended its.is_qualified.Reads.Post
is_qualified_determined κs a x y v w p q = (p ∙ sym q, refl)

pub is_newer_determined : Fixes contracts.is_newer.ended its.is_newer.Reads.Post
is_newer_determined κs a x y v w p q = (p ∙ sym q, refl)

pub fresh_determined : Fixes contracts.fresh.ended its.fresh.Reads.Post
fresh_determined κs a x y v w p q = (p ∙ sym q, refl)

pub next_determined : Fixes contracts.next.ended its.next.Reads.Post
next_determined κs a x y v w p q = (p ∙ sym q, refl)

pub known_determined : Fixes contracts.known.ended its.known.Reads.Post
known_determined κs a x y v w p q = (p ∙ sym q, refl)

pub unknown_determined : Fixes contracts.unknown.ended its.unknown.Reads.Post
unknown_determined κs a x y v w p q = (p ∙ sym q, refl)

pub candidate_determined : Fixes contracts.candidate.ended its.candidate.Reads.Post
candidate_determined κs a x y v w p q = (p ∙ sym q, refl)
