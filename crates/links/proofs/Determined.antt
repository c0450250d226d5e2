-- The contract of each public function fixes its answer and the lent words at exit: any two results that it allows are equal.
use mathlib.Core.Path.{◌≡◌, ◌∙◌, refl, sym}
use mathlib.Core.Bool.{true}
use contract.Lifetimes.{Lfts}
use denote.Triple.Clauses.{AtExit}
use denote.Triple.Entry.{Args, Res}
use lib.ListN.{length}
use Rattle.laws.proofs.Fixes.{Fixes}
use Rattle.links.specs.Words.{IsPort, link_at, step_at, take_words}
use Rattle.links.proofs.WordLaws.{take_kept}
use Rattle.links.specs.contracts as contracts
use Rattle.links.proofs as its

pub set_determined : Fixes contracts.set.ended its.set.Reads.Post
set_determined κs a x y v w p q = (p.0 ∙ sym q.0, λ i. ((p.1 ∙ sym q.1) i, w.1))

pub take_determined : Fixes contracts.take.ended its.take.Reads.Post
take_determined κs a x y v w p q = (p.0 ∙ sym q.0, λ i. ((p.1 ∙ sym q.1) i, w.1))

-- a call that does nothing is not allowed: the port's link at exit is the one that the step answers
module _ (κs : Lfts 1) (a : Args contracts.take.signature κs) (x : Res contracts.take.signature κs) (e : AtExit contracts.take.ended κs) where
  pub take_moves : length a.0.now ≡ 72 → IsPort a.1.0 ≡ true → its.take.Reads.Post κs a x e → link_at e.0.now a.1.0 ≡ (step_at a.0.now a.1.0 a.1.1.0).link
  take_moves full known p =
      let q : e.0.now ≡ take_words a.0.now a.1.0 a.1.1.0 = p.1 in
      rw q (take_kept a.0.now a.1.0 full known a.1.1.0)

pub state_number_determined : Fixes contracts.state_number.ended its.state_number.Reads.Post
state_number_determined κs a x y v w p q = (p ∙ sym q, refl)

pub role_number_determined : Fixes contracts.role_number.ended its.role_number.Reads.Post
role_number_determined κs a x y v w p q = (p ∙ sym q, refl)

pub look_determined : Fixes contracts.look.ended its.look.Reads.Post
look_determined κs a x y v w p q = (p ∙ sym q, refl)

pub place_determined : Fixes contracts.place.ended its.place.Reads.Post
place_determined κs a x y v w p q = (p.0 ∙ sym q.0, refl)

pub placed_determined : Fixes contracts.placed.ended its.placed.Reads.Post
placed_determined κs a x y v w p q = (p.0 ∙ sym q.0, refl)

pub step_determined : Fixes contracts.brief.step.ended its.brief.step.Reads.Post
step_determined κs a x y v w p q = (p ∙ sym q, refl)
