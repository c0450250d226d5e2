-- INTAKE DOES NOT LOOK AT STEPSREMOVED (02, (iii): a distant record "is kept"): who is taken and who is refused, with 12 or 13 or 11, in which
-- slot a record stands, and its receipts, are the same whatever the steps. Said by leaving the steps out: what an Announce does to a port
-- without steps is what it does to the port, without steps.
use Rattle.std.specs.Prelude.{Result, Ok, Err}
use Rattle.std.proofs.Common.{◌≡◌, ℕ, zero, suc, Bool, true, false, not, ltb, List, [], ◌∷◌, map, get_or, set, refl, ap, ◌∙◌, ap₂}
use lib.ListN.{get_or-map}
use Rattle.refusal.specs.Choice.{pick, refuse}
use Rattle.refusal.specs.declared.Refusal.TheVariants.{Backward, Stale, Full}
use Rattle.senders.specs.declared.Notice.{Notice}
use Rattle.senders.specs.declared.Record.{Record}
use Rattle.senders.specs.Record.{window_of, is_of, is_live, is_free, is_newer, fresh_of, next_of}
use Rattle.senders.specs.Port.{Port, empty_slot, first, known_of, new_of, sender_plan, plan_of, outcome_of, port_after}
use Rattle.senders.specs.History.{PortEvent, announced, interval, made_by}
use Rattle.senders.proofs.Candidates.{tab_map}
use Rattle.refusal.specs.declared.Refusal.{Refusal}

-- an Announce, a record, a port, a plan and an event without their steps
abbrev pub blind_notice : Notice → Notice
blind_notice a = record { sender = a.sender; sequence = a.sequence; grandmaster = a.grandmaster; steps = 0; wrflags = a.wrflags }

abbrev pub blind_record : Record → Record
blind_record r = record { notice = blind_notice r.notice; receipts = r.receipts; newest = r.newest; older = r.older }

abbrev pub blind_port : Port → Port
blind_port p = record { last = p.last; e = p.e; slots = map blind_record p.slots }

abbrev pub blind_plan : Result (ℕ × Record) Refusal → Result (ℕ × Record) Refusal
blind_plan (Err x) = Err x
blind_plan (Ok (i, r)) = Ok (i, blind_record r)

abbrev pub blind_event : PortEvent → PortEvent
blind_event (announced t a) = announced t (blind_notice a)
blind_event (interval e) = interval e

-- ---- looking for a slot, and into one
first_blind : (test : Record → Bool) → ((r : Record) → test (blind_record r) ≡ test r) → (l : List Record) → first test (map blind_record l) ≡ first test l
unfolding first
first_blind test same [] = refl
first_blind test same (r ∷ l) = ap₂ (λ (b : Bool) (n : ℕ). pick b 0 (suc n)) (same r) (first_blind test same l)

set_blind : (l : List Record) (i : ℕ) (r : Record) → set (map blind_record l) i (blind_record r) ≡ map blind_record (set l i r)
set_blind [] zero r = refl
set_blind [] (suc i) r = refl
set_blind (x ∷ l) zero r = refl
set_blind (x ∷ l) (suc i) r = ap (λ (k : List Record). blind_record x ∷ k) (set_blind l i r)

-- ---- a choice of plans
pick_blind : (b : Bool) (x y : Result (ℕ × Record) Refusal) → pick b (blind_plan x) (blind_plan y) ≡ blind_plan (pick b x y)
pick_blind true x y = refl
pick_blind false x y = refl

refuse_blind : (b : Bool) (x y : Result (ℕ × Record) Refusal) → refuse b (blind_plan x) (blind_plan y) ≡ blind_plan (refuse b x y)
unfolding refuse
refuse_blind true x y = refl
refuse_blind false x y = refl

module _ (t : ℕ) (a : Notice) where
  known_blind : (w i : ℕ) (r : Record) → known_of w t (blind_notice a) i (blind_record r) ≡ blind_plan (known_of w t a i r)
  known_blind w i r =
      let stale = not (is_newer a.sequence r.notice.sequence) in
      ap (λ (p : Result (ℕ × Record) Refusal). pick (is_live w t r) p (blind_plan (Ok (i, fresh_of t a)))) (refuse_blind stale (Err Stale) (Ok (i, next_of r t a)))
      ∙ pick_blind (is_live w t r) (refuse stale (Err Stale) (Ok (i, next_of r t a))) (Ok (i, fresh_of t a))

  new_blind : (j : ℕ) → new_of t (blind_notice a) j ≡ blind_plan (new_of t a j)
  new_blind j = refuse_blind (not (ltb j 16)) (Err Full) (Ok (j, fresh_of t a))

  sender_blind : (w i : ℕ) (l : List Record) → sender_plan w t (blind_notice a) (map blind_record l) i ≡ blind_plan (sender_plan w t a l i)
  sender_blind w i l =
      ap₂ (λ (x y : Result (ℕ × Record) Refusal). pick (ltb i 16) x y)
      (ap (known_of w t (blind_notice a) i) (get_or-map blind_record l i empty_slot) ∙ known_blind w i (get_or l i empty_slot))
      (ap (new_of t (blind_notice a)) (first_blind (is_free w t) (λ r. refl) l) ∙ new_blind (first (is_free w t) l))
      ∙ pick_blind (ltb i 16) (known_of w t a i (get_or l i empty_slot)) (new_of t a (first (is_free w t) l))

  -- WHAT AN ANNOUNCE DOES DOES NOT DEPEND ON STEPS, its own or those that are kept
  pub plan_blind : (p : Port) → plan_of (blind_port p) t (blind_notice a) ≡ blind_plan (plan_of p t a)
  unfolding plan_of
  plan_blind p =
      let w = window_of p.e in
      let l = p.slots in
      let i = first (is_of a.sender) l in
      ap (λ (q : Result (ℕ × Record) Refusal). refuse (ltb t p.last) (Err Backward) q)
      (ap (sender_plan w t (blind_notice a) (map blind_record l)) (first_blind (is_of a.sender) (λ r. refl) l) ∙ sender_blind w i l)
      ∙ refuse_blind (ltb t p.last) (Err Backward) (sender_plan w t a l i)

  outcome_blind : (q : Result (ℕ × Record) Refusal) → outcome_of (blind_plan q) ≡ outcome_of q
  outcome_blind (Err x) = refl
  outcome_blind (Ok (i, r)) = refl

  after_blind : (p : Port) (q : Result (ℕ × Record) Refusal) → port_after (blind_port p) t (blind_plan q) ≡ blind_port (port_after p t q)
  after_blind p (Err x) = refl
  after_blind p (Ok (i, r)) = ap (λ (l : List Record). record { last = t; e = p.e; slots = l }) (set_blind p.slots i r)

  -- so the answers of two ports that differ in steps alone are the same, and they differ in steps alone afterwards
  pub answer_blind : (p : Port) → outcome_of (plan_of (blind_port p) t (blind_notice a)) ≡ outcome_of (plan_of p t a)
  answer_blind p = ap outcome_of (plan_blind p) ∙ outcome_blind (plan_of p t a)

-- AND OVER ANY HISTORY: without steps it makes the same port, without steps
pub history_blind : (hs : List PortEvent) → made_by (map blind_event hs) ≡ blind_port (made_by hs)
unfolding made_by
history_blind [] = ap (λ (l : List Record). record { last = 0; e = 0; slots = l }) (tab_map blind_record 16 (λ i. empty_slot))
history_blind (announced t a ∷ older) =
    ap (λ (p : Port). port_after p t (plan_of p t (blind_notice a))) (history_blind older)
    ∙ ap (port_after (blind_port (made_by older)) t) (plan_blind t a (made_by older))
    ∙ after_blind t a (made_by older) (plan_of (made_by older) t a)
history_blind (interval e ∷ older) = ap (λ (p : Port). record { last = p.last; e = e; slots = p.slots }) (history_blind older)
