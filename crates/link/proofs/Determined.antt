-- The contract of each public function fixes its answer: any two results that it allows are equal. And a
-- machine that works at its first event and then stands still is not allowed.
use Prim.Native.Nat.{ℕ}
use mathlib.Core.Path.{◌≡◌, refl, ◌∙◌, sym}
use mathlib.Core.Bool.{Bool, false}
use contract.Lifetimes.{Lfts}
use denote.Triple.Clauses.{AtExit}
use denote.Triple.Entry.{Args, Res}
use Rattle.laws.proofs.Fixes.{Fixes}
use Rattle.link.specs.declared.Role.TheVariants.{Slave}
use Rattle.link.specs.declared.State.TheVariants.{Present, SLock}
use Rattle.link.specs.declared.Event.TheVariants.{Message}
use Rattle.link.specs.declared.Settings.{Settings}
use Rattle.link.specs.declared.Move.{Move}
use Rattle.link.specs.declared.Waits.TheVariants as waits
use Rattle.link.specs.Machine.{LOCK, is_idle, waits_of, in_state, stepped}
use Rattle.link.specs.States.{same_state}
use Rattle.link.proofs.StepLaws.{message_moves}
use Rattle.link.specs.contracts as contracts
use Rattle.link.proofs as its

lock_in_present : (s : Settings) (mode : Bool) → (stepped s (in_state Slave Present mode) (Message LOCK)).link.state ≡ SLock
unfolding stepped
lock_in_present s mode = refl

pub fresh_determined : Fixes contracts.fresh.ended its.fresh.Reads.Post
fresh_determined κs a x y v w p q = (p ∙ sym q, refl)

pub asked_determined : Fixes contracts.asked.ended its.asked.Reads.Post
asked_determined κs a x y v w p q = (p ∙ sym q, refl)

pub step_determined : Fixes contracts.step.ended its.step.Reads.Post
step_determined κs a x y v w p q = (p ∙ sym q, refl)

module _ (κs : Lfts 0) (a : Args contracts.step.signature κs) (x : Res contracts.step.signature κs) (e : AtExit contracts.step.ended κs) where
  -- in every state on the way, the message waited for changes the state
  pub never_stands_still : (n : ℕ) (then : Move) → is_idle a.1.0.state ≡ false → waits_of a.1.0.role a.1.0.state ≡ waits.Message n then →
      a.1.1.0 ≡ Message n → its.step.Reads.Post κs a x e → same_state x.link.state a.1.0.state ≡ false
  never_stands_still n then i w m p = let q : x ≡ stepped a.0 a.1.0 a.1.1.0 = p in rw (q, m) (message_moves a.0 a.1.0 n then i w)

  -- so a slave in PRESENT, where a first event leads, goes to S_LOCK by LOCK
  pub second_event : (mode : Bool) → a.1.0 ≡ in_state Slave Present mode → a.1.1.0 ≡ Message LOCK → its.step.Reads.Post κs a x e → x.link.state ≡ SLock
  second_event mode l m p = let q : x ≡ stepped a.0 a.1.0 a.1.1.0 = p in rw (q, l, m) (lock_in_present a.0 mode)
