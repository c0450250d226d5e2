-- An Announce is refused with 1 to 10 exactly when 01 says: 8, the reading checks, 3 if it isn't an Announce, 9, 10.
use Rattle.std.specs.Prelude.{Result, Ok, Err}
use Prim.Native.Nat.{ℕ, ◌<◌, ◌≤◌}
use mathlib.Core.Path.{◌≡◌, refl, sym, ap, subst, ◌∙◌}
use mathlib.Core.List.{List}
use mathlib.Core.Bool.{Bool, true, false, not}
use mathlib.Core.Logic.{◌⊎◌, inl, inr, ⊎_elim}
use native.Mathlib.Omega.{arith}
use borrow.Author.Tests.{eq-eqb, ne_eqb, eqb-true, eqb-false}
use lib.Dec.{eqb}
use Rattle.refusal.specs.Choice.{refuse}
use Rattle.refusal.specs.Refusal.{answer_of, code_of}
use Rattle.refusal.proofs.Numbers.{answered}
use Rattle.refusal.specs.declared.Refusal.TheVariants.{«Type»}
use Rattle.message.specs.Fields.{type_of, header_of}
use Rattle.message.specs.Reading.{check_of, by}
use Rattle.message.specs.When.{TakesWhen}
use Rattle.message.specs.Announced.{announced_of}
use Rattle.message.specs.Answers.{announced_code}
use Rattle.message.specs.declared.announce.Heard.{Heard}
use Rattle.message.proofs.Exactly.{announced_told, when_announced}
use Rattle.rank.specs.Ranked.{is_port}
use Rattle.senders.specs.declared.Notice as kept
use Rattle.senders.specs.Port.{plan_of, outcome_of}
use Rattle.senders.proofs.Intake.{plan_cases}
use Rattle.slots.specs.Words.{slot_at}
use Rattle.slots.proofs.Laws.{length_tab}
use Rattle.ports.specs.declared.intake.Settings.{Settings}
use Rattle.ports.specs.Words.{own, port_at}
use Rattle.ports.specs.Intake.{judged_of, admitted_by, admitted_of, plan_by, plan_at}
use Rattle.ports.specs.Admitting.{admitted_code, IsAnnounce, AdmittedWhen, no_port, unread, other_domain, own_clock, admitted}
use Rattle.senders.specs.declared.Notice.{Notice}
use Rattle.refusal.specs.declared.Refusal.{Refusal}

-- an Announce that was read has the header of its octets
whole_header : (o : Result (Unit {0}) Refusal) (b : Bool) (g h : Heard) → by o Err (refuse b (Err «Type») (Ok g)) ≡ Ok h → g ≡ h
unfolding refuse
whole_header (Ok tt) false g h e = cc
whole_header (Ok tt) true g h e = absurd (let z : ◌≡◌ {A = ℕ} 0 1 = cc in omega arith)
whole_header (Err x) b g h e = absurd (let z : ◌≡◌ {A = ℕ} 0 1 = cc in omega arith)

module _ (set : Settings) (s : List ℕ) where
  header_is : {h : Heard} → announced_of set.magic s ≡ Ok h → h.header ≡ header_of s
  unfolding announced_of
  header_is {h} e =
      ap (λ (g : Heard). g.header) (sym (whole_header (check_of set.magic s) (not (eqb (type_of s) 0xB)) _ h e))

  read_as : (x : Result Heard Refusal) → announced_of set.magic s ≡ x → TakesWhen set.magic 0xB s (announced_code x)
  read_as x e = subst (λ (y : Result Heard Refusal). TakesWhen set.magic 0xB s (announced_code y)) e (announced_told set.magic s)

module _ (set : Settings) (port : ℕ) (s : List ℕ) where
  -- ---- a line that holds
  not_a_port : is_port port ≡ false → admitted_code (admitted_of set port s) ≡ 8
  unfolding admitted_of refuse
  not_a_port e = rw e

  on_port_lem : is_port port ≡ true → admitted_of set port s ≡ admitted_by set (announced_of set.magic s)
  unfolding admitted_of refuse
  on_port_lem e = rw e

  refused_by : (x : Result Heard Refusal) {n : ℕ} → announced_code x ≡ n → 0 < n → admitted_code (admitted_by set x) ≡ n
  refused_by (Err x) e h = e
  refused_by (Ok g) e h = absurd (omega arith)

  -- an Announce that is read is judged by its header
  judged : (x : Result Heard Refusal) → announced_of set.magic s ≡ x → announced_code x ≡ 0
      → (h : Heard) × ((admitted_by set x ≡ judged_of set h) × (h.header ≡ header_of s))
  judged (Err x) e z = absurd (omega (arith, answered x, z))
  judged (Ok h) e z = (h, (refl, header_is set s e))

  of_announce : IsAnnounce set port s → (h : Heard) × ((admitted_of set port s ≡ judged_of set h) × (h.header ≡ header_of s))
  of_announce p =
      let j = judged (announced_of set.magic s) refl (when_announced set.magic s p.1) in
      (j.0, (on_port_lem p.0 ∙ j.1.0, j.1.1))

  -- A LINE THAT HOLDS: its number is given
  pub when_admitted : {n : ℕ} → AdmittedWhen set port s n → admitted_code (admitted_of set port s) ≡ n
  unfolding refuse
  when_admitted (no_port e) = not_a_port e
  when_admitted (unread e w h) =
      ap admitted_code (on_port_lem e) ∙ refused_by (announced_of set.magic s) (when_announced set.magic s w) h
  when_admitted (other_domain p n) =
      let j = of_announce p in
      rw (j.1.0, j.1.1, ne_eqb _ _ n)
  when_admitted (own_clock p d c) =
      let j = of_announce p in
      rw (j.1.0, j.1.1, eq-eqb _ _ d, eq-eqb _ _ c)
  when_admitted (admitted p d c) =
      let j = of_announce p in
      rw (j.1.0, j.1.1, eq-eqb _ _ d, ne_eqb _ _ c)

  -- which line it is
  line : (i : Bool) → is_port port ≡ i → (x : Result Heard Refusal) → announced_of set.magic s ≡ x
      → (d : Bool) → eqb (header_of s).domain set.domain ≡ d → (c : Bool) → eqb (header_of s).source.clock set.clock ≡ c
      → (n : ℕ) × AdmittedWhen set port s n
  line false i x e d ed c ec = (8, no_port i)
  line true i (Err x) e d ed c ec = (answer_of x, unread i (read_as set s (Err x) e) (answered x))
  line true i (Ok h) e false ed c ec =
      (9, other_domain (i, read_as set s (Ok h) e) (eqb-false _ _ ed))
  line true i (Ok h) e true ed true ec =
      (10, own_clock (i, read_as set s (Ok h) e) (eqb-true _ _ ed) (eqb-true _ _ ec))
  line true i (Ok h) e true ed false ec =
      (0, admitted (i, read_as set s (Ok h) e) (eqb-true _ _ ed) (eqb-false _ _ ec))

  -- THE NUMBER GIVEN: its line holds
  pub admitted_told : AdmittedWhen set port s (admitted_code (admitted_of set port s))
  admitted_told =
      let l = line (is_port port) refl (announced_of set.magic s) refl (eqb (header_of s).domain set.domain) refl (eqb (header_of s).source.clock set.clock) refl in
      subst (AdmittedWhen set port s) (sym (when_admitted l.1)) l.1

-- ---- taking: what is not admitted is refused with that number, and the records refuse with 11, 12 or 13 alone
module _ (ws : List ℕ) (port t : ℕ) where
  by_records : (a : kept.Notice) → (code_of (outcome_of (plan_of (port_at ws port) t a)) ≡ 0) ⊎ (11 ≤ code_of (outcome_of (plan_of (port_at ws port) t a)))
  by_records a =
      plan_cases (port_at ws port) t a (length_tab 16 (slot_at (own ws port))) (λ q. (code_of (outcome_of q) ≡ 0) ⊎ (11 ≤ code_of (outcome_of q)))
      (record {
        backward = λ l. inr (omega arith);
        renewed = λ i l g o v n. inl refl;
        stale = λ i l g o v n. inr (omega arith);
        restarted = λ i l g o v. inl refl;
        placed = λ j l n g v b. inl refl;
        full = λ l n v. inr (omega arith);
      })

  first_refuses : (x : Result Notice Refusal) {n : ℕ} → admitted_code x ≡ n → 0 < n → code_of (outcome_of (plan_by (port_at ws port) t x)) ≡ n
  first_refuses (Err x) e h = e
  first_refuses (Ok a) e h = absurd (omega arith)

  only_first : (x : Result Notice Refusal) {n : ℕ} → code_of (outcome_of (plan_by (port_at ws port) t x)) ≡ n → 0 < n → n ≤ 10 → admitted_code x ≡ n
  only_first (Err x) e h l = e
  only_first (Ok a) e h l =
      absurd (⊎_elim
      (λ (z : code_of (outcome_of (plan_of (port_at ws port) t a)) ≡ 0). omega (arith, e, z))
      (λ (g : 11 ≤ code_of (outcome_of (plan_of (port_at ws port) t a))). omega (arith, e, g))
      (by_records a))

module _ (set : Settings) (ws : List ℕ) (port t : ℕ) (s : List ℕ) {n : ℕ} where
  -- AN ANNOUNCE IS REFUSED WITH 1 TO 10 EXACTLY WHEN ITS LINE HOLDS
  pub when_taking : AdmittedWhen set port s n → 0 < n → code_of (outcome_of (plan_at set ws port t s)) ≡ n
  unfolding plan_at
  when_taking w h = first_refuses ws port t (admitted_of set port s) (when_admitted set port s w) h

  pub taking_told : code_of (outcome_of (plan_at set ws port t s)) ≡ n → 0 < n → n ≤ 10 → AdmittedWhen set port s n
  unfolding plan_at
  taking_told e h l =
      subst (AdmittedWhen set port s) (only_first ws port t (admitted_of set port s) e h l) (admitted_told set port s)
