-- Laws of eighteen ports: a port that is one, its part of the words, and the cases of taking, asking and setting.
use Rattle.std.specs.Prelude.{Option, Some, Result, Ok, Err}
use mathlib.Core.Path.{◌≡◌, refl, sym, ap, ◌∙◌}
use mathlib.Core.Bool.{Bool, true, false, not}
use mathlib.Core.List.{List, ◌++◌}
use Prim.Native.Nat.{ℕ, suc, ◌+◌, ◌-◌, ◌*◌, ◌%◌, ◌≤◌, ◌<◌}
use native.Mathlib.Omega.{arith}
use lib.Dec.{ltb}
use lib.ListN.{take, drop, set, take-append-drop}
use lib.Seq.{drop-drop}
use mir.Syntax.{w8}
use mir.Val.{to_z}
use mir.ValLaws.{to_z_pos, to_z-neg}
use borrow.Author.Tests.{not-true, not-false, lt-ltb, le-ltb}
pub use Rattle.refusal.proofs.Limits.{port_bounds}
use Rattle.refusal.specs.Choice.{refuse}
use Rattle.refusal.specs.declared.Refusal.{Refusal}
use Rattle.refusal.specs.declared.Refusal.TheVariants.{Port, Backward, Field}
use Rattle.refusal.proofs.Choice.{passed, stops, passes}
use Rattle.rank.specs.declared.Candidate.{Candidate}
use Rattle.rank.specs.Ranked.{is_port}
use Rattle.senders.specs.declared.Notice as kept
use Rattle.senders.specs.Port as senders
use Rattle.slots.specs.Words.{block, port_of, words_after}
use Rattle.slots.proofs.Laws.{lent}
use Rattle.ports.specs.declared.intake.Settings.{Settings}
use Rattle.ports.specs.Words.{own, with, port_at}
use Rattle.ports.specs.Intake.{admitted_of, admitted_by, plan_by, plan_at, state_after}
use Rattle.ports.specs.Asking.{on_port}
use Rattle.ports.specs.Interval.{interval_of, set_by, after_by}
use Rattle.message.specs.Announced.{announced_of}
use Rattle.senders.specs.declared.Notice.{Notice}
use Rattle.senders.specs.declared.Record.{Record}

-- the part that is lent is the port's own
pub lent_own : (ws : List ℕ) (port b : ℕ) → b ≡ 98 * (port - 1) → take (b + 98 - b) (drop b ws) ≡ own ws port
lent_own ws port b e = lent ws b 98 ∙ ap (λ (k : ℕ). block ws k 98) e

-- a part put back as it was
pub with_own : (ws : List ℕ) (port : ℕ) → with ws port (own ws port) ≡ ws
with_own ws port =
    let b = 98 * (port - 1) in
    let tail : drop (b + 98) ws ≡ drop 98 (drop b ws) = sym (drop-drop 98 b ws) in
    ap (λ (z : List ℕ). take b ws ++ (take 98 (drop b ws) ++ z)) tail
    ∙ ap (λ (z : List ℕ). take b ws ++ z) (take-append-drop 98 (drop b ws))
    ∙ take-append-drop b ws

-- ---- taking
-- what is refused is no notice
pub unlike : {x : Refusal} {a : kept.Notice} → ◌≡◌ {A = Result Notice Refusal} (Err x) (Ok a) → ⊥
unlike {x} {a} e = let z : ◌≡◌ {A = ℕ} 0 1 = cc in omega arith

-- what is admitted is on a port
pub admitted_port : (set : Settings) (port : ℕ) (s : List ℕ) (a : kept.Notice) → admitted_of set port s ≡ Ok a → is_port port ≡ true
unfolding admitted_of
admitted_port set port s a e =
    not-false _ (passed (Err Port) (admitted_by set (announced_of set.magic s)) (Ok a) (not (is_port port)) unlike e).0

pub state_of_lem : (ws : List ℕ) (port t : ℕ) (q : Result (ℕ × Record) Refusal) → with ws port (words_after (own ws port) t q) ≡ state_after ws port t q
state_of_lem ws port t (Err x) = with_own ws port
state_of_lem ws port t (Ok (i, r)) = refl

module _ (set : Settings) (ws : List ℕ) (port t : ℕ) (s : List ℕ) where
  pub take_refused : (q : Result Notice Refusal) (x : Refusal) → q ≡ admitted_of set port s → q ≡ Err x
      → (Err x ≡ senders.outcome_of (plan_at set ws port t s)) × (ws ≡ state_after ws port t (plan_at set ws port t s))
  unfolding plan_at
  take_refused q x e f =
      let p : plan_by (port_at ws port) t (Err x) ≡ plan_by (port_at ws port) t (admitted_of set port s) = ap (plan_by (port_at ws port) t) (sym f ∙ e) in
      (ap senders.outcome_of p, ap (state_after ws port t) p)

  pub plan_refused : (a : kept.Notice) (x : Refusal) → Ok a ≡ admitted_of set port s → Err x ≡ senders.plan_of (port_at ws port) t a
      → (Err x ≡ senders.outcome_of (plan_at set ws port t s)) × (ws ≡ state_after ws port t (plan_at set ws port t s))
  unfolding plan_at
  plan_refused a x e f =
      let p : Err x ≡ plan_by (port_at ws port) t (admitted_of set port s) = f ∙ ap (plan_by (port_at ws port) t) e in
      (ap senders.outcome_of p, ap (state_after ws port t) p)

  pub take_on : (q : Result Notice Refusal) (a : kept.Notice) (part vs : List ℕ) (r : Result (Unit {0}) Refusal) → q ≡ admitted_of set port s → q ≡ Ok a → part ≡ own ws port
      → (r ≡ senders.outcome_of (senders.plan_of (port_of part) t a)) × (vs ≡ words_after part t (senders.plan_of (port_of part) t a))
      → (r ≡ senders.outcome_of (plan_at set ws port t s)) × (with ws port vs ≡ state_after ws port t (plan_at set ws port t s))
  unfolding plan_at
  take_on q a part vs r e f ep w =
      let p : plan_by (port_at ws port) t (Ok a) ≡ plan_by (port_at ws port) t (admitted_of set port s) = ap (plan_by (port_at ws port) t) (sym f ∙ e) in
      let its : senders.plan_of (port_of part) t a ≡ senders.plan_of (port_at ws port) t a = ap (λ (l : List ℕ). senders.plan_of (port_of l) t a) ep in (
        w.0 ∙ ap senders.outcome_of (its ∙ p),
        ap (with ws port) (w.1 ∙ ap (λ (l : List ℕ). words_after l t (senders.plan_of (port_of l) t a)) ep)
            ∙ state_of_lem ws port t (senders.plan_of (port_at ws port) t a)
            ∙ ap (state_after ws port t) p,
      )

-- ---- asking
-- a port that is none is refused with 8, and any other answers
pub no_port : {A : Type 0} (r rest : Result A Refusal) (port : ℕ) (x : Refusal) → (y : Refusal) × (r ≡ Err y) × (y ≡ x) → (is_port port ≡ false) × (x ≡ Port)
    → r ≡ refuse (not (is_port port)) (Err Port) rest
no_port r rest port x p w = rw (p.1, p.2, w.1) (stops rest (ap not w.0))

pub on_port_is : {A : Type 0} {answer rest : Result A Refusal} (port : ℕ) → is_port port ≡ true → answer ≡ rest → answer ≡ refuse (not (is_port port)) (Err Port) rest
on_port_is port e f = passes (Err Port) (ap not e) f

-- what is found was refused neither with 8 nor with 11
module _ (ws : List ℕ) (port t : ℕ) (answer : Result (Option Candidate) Refusal) (c : Candidate) where
  not_found : (x : Refusal) → ◌≡◌ {A = Result (Option Candidate) Refusal} (Err x) (Ok (Some c)) → ⊥
  not_found x e = let z : ◌≡◌ {A = ℕ} 0 1 = cc in omega arith

  pub asked_found : on_port port (senders.asked_of (port_at ws port) t answer) ≡ Ok (Some c) → (is_port port ≡ true) × (answer ≡ Ok (Some c))
  asked_found e =
      let p = port_at ws port in
      let on = passed (Err Port) (senders.asked_of p t answer) (Ok (Some c)) (not (is_port port)) (not_found Port) e in
      (not-false _ on.0, (passed (Err Backward) answer (Ok (Some c)) (ltb t p.last) (not_found Backward) on.1).1)

-- ---- the interval
pub interval_low : (e : ℕ) → e % 8 < 5 → to_z w8 (e % 8) ≡ interval_of e
interval_low e h = to_z_pos w8 (e % 8) (omega arith) ∙ sym (rw (lt-ltb _ _ h))

pub interval_high : (e : ℕ) → 5 ≤ e % 8 → to_z w8 (e % 8 + 248) ≡ interval_of e
interval_high e h =
    let k : e % 8 + 248 ≡ 256 - suc (7 - e % 8) = omega arith in
    ap (to_z w8) k ∙ to_z-neg w8 (7 - e % 8) (omega arith) ∙ sym (rw (le-ltb _ _ h))

module _ (ws : List ℕ) (port : ℕ) (b c f : Bool) (e : ℕ) (eb : b ≡ is_port port) (ec : c ≡ f) where
  pub set_no_port : not b ≡ true → (Err Port ≡ set_by port f) × (ws ≡ after_by ws port f e)
  unfolding refuse
  set_no_port h = (rw (sym eb ∙ not-true _ h), rw (sym eb ∙ not-true _ h))

  pub set_no_interval : not b ≡ false → not c ≡ true → (Err Field ≡ set_by port f) × (ws ≡ after_by ws port f e)
  unfolding refuse
  set_no_interval h g = (rw (sym eb ∙ not-false _ h, sym ec ∙ not-true _ g), rw (sym eb ∙ not-false _ h, sym ec ∙ not-true _ g))

  pub set_done : (vs part : List ℕ) → not b ≡ false → not c ≡ false → part ≡ own ws port → vs ≡ set part 1 e
      → (Ok tt ≡ set_by port f) × (with ws port vs ≡ after_by ws port f e)
  unfolding refuse
  set_done vs part h g ep ev = (
    rw (sym eb ∙ not-false _ h, sym ec ∙ not-false _ g),
    rw (sym eb ∙ not-false _ h, sym ec ∙ not-false _ g) (ap (with ws port) (ev ∙ ap (λ (l : List ℕ). set l 1 e) ep)),
  )
