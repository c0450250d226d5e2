-- What the clock is promised of its decisions: 11 comes exactly where a port's candidates are refused with it, one port at most is
-- S1, and the parent is on that port.
use Rattle.std.specs.Prelude.{Option, Some, None, Result, Ok, Err}
use Prim.Native.Nat.{ℕ, suc, ◌-◌, ◌≤◌, ◌<◌}
use mathlib.Core.Path.{◌≡◌, refl, sym, ap, subst, ◌∙◌}
use mathlib.Core.List.{List, [], ◌∷◌}
use mathlib.Core.Bool.{Bool, true, false, ◌&&◌}
use native.Mathlib.Omega.{arith}
use lib.Dec.{ltb, leb, eqb}
use lib.ListN.{get_or}
use borrow.Author.Tests.{eqb-true, ltb-true}
use Rattle.refusal.specs.Choice.{pick, refuse}
use Rattle.refusal.specs.Refusal as numbered
use Rattle.refusal.specs.declared.Refusal.{Refusal}
use Rattle.refusal.specs.declared.Refusal.TheVariants.{Port, Backward}
use Rattle.rank.specs.declared.Grandmaster.{Grandmaster}
use Rattle.rank.specs.declared.Candidate.{Candidate}
use Rattle.rank.specs.declared.Ranked.{Ranked}
use Rattle.rank.specs.Ranked.{is_port, pack, holds_of}
use Rattle.rank.specs.Calls.{outcome_of}
use Rattle.rank.proofs.Best.{cases}
use Rattle.rank.proofs.Merging.{unpack_pack, port-sound, ranked_valid, AllValid}
use Rattle.senders.specs.Record.{window_of, is_qualified, candidate_of}
use Rattle.senders.specs.Port.{slot_of, best_of, candidate_in}
use Rattle.slots.proofs.Laws.{get_d_tab}
use Rattle.ports.specs.Words.{port_at}
use Rattle.ports.specs.Asking.{candidate_on}
use Rattle.decide.specs.declared.Decision.{Decision}
use Rattle.decide.specs.declared.Decision.TheVariants.{M1, M2, M3, P1, P2, S1, S2}
use Rattle.decide.specs.Deciding.{own_beats, beats_erbest, nearer_of, decision_of}
use Rattle.election.specs.Elected.{every_port, any_late, elected_of}
use Rattle.election.specs.Decisions.{code_of, erbest_of, list_at, decision_at, octets_at, leads, parent_by, backups_of, followed_by}
use Rattle.election.proofs.Electing.{Ports, all_tab, every_port_lem}
use Rattle.election.proofs.Deciding.{none_late, list_ranked, follows}

unlike : {G : Type 0} {d e : Decision} → ltb (code_of d) (code_of e) ≡ true → d ≡ e → G
unlike {G} {d} {e} h q =
    let l = ltb-true (code_of d) (code_of e) h in
    let n = ap code_of q in
    absurd (omega arith)

-- ---- the parent
-- the parent that is followed on port p
pub record ParentOn (own : Grandmaster) (l : List Candidate) (p : ℕ) : Type 0 where
  pub master : Candidate
  pub follows : parent_by own l ≡ Ok (Some master)
  pub on : master.port ≡ p

-- S1 is for Ebest's port alone
s1_by : (c b o q n h : Bool) → pick c (pick b M1 P1) (pick o M2 (pick q S1 (pick n (pick h S2 P2) M3))) ≡ S1 → q ≡ true
s1_by true true o q n h e = unlike refl e
s1_by true false o q n h e = unlike refl (sym e)
s1_by false b true q n h e = unlike refl e
s1_by false b false true n h e = refl
s1_by false b false false true true e = unlike refl (sym e)
s1_by false b false false true false e = unlike refl (sym e)
s1_by false b false false false h e = unlike refl e

no_s1 : (c b : Bool) → pick c (pick b M1 P1) M2 ≡ S1 → ⊥
no_s1 true true e = unlike refl e
no_s1 true false e = unlike refl (sym e)
no_s1 false b e = unlike refl e

followed_s1 : (d : Decision) (e x : Candidate) → followed_by d e ≡ Ok (Some x) → (d ≡ S1) × (e ≡ x)
followed_s1 M1 e x h = (cc, cc)
followed_s1 M2 e x h = (cc, cc)
followed_s1 M3 e x h = (cc, cc)
followed_s1 S1 e x h = (refl, cc)
followed_s1 S2 e x h = (cc, cc)
followed_s1 P1 e x h = (cc, cc)
followed_s1 P2 e x h = (cc, cc)

module _ (own : Grandmaster) where
  -- WHERE A PORT IS S1 THERE IS A PARENT, AND IT IS ON THAT PORT
  pub s1_parent : (l : List Candidate) (p : ℕ) (best : Option Candidate) → decision_of own l p best ≡ S1 → ParentOn own l p
  s1_parent [] p best h =
      absurd (no_s1 (leb 1 own.class && leb own.class 127) (beats_erbest own p best) h)
  s1_parent (e ∷ l) p best h =
      let q : e.port ≡ p =
      eqb-true e.port p
      (s1_by (leb 1 own.class && leb own.class 127) (beats_erbest own p best) (own_beats own e e.port) (eqb e.port p)
      (nearer_of e own.identity p best) (holds_of p (e ∷ l)) h) in
      let s : decision_of own (e ∷ l) e.port best ≡ S1 = subst (λ (k : ℕ). decision_of own (e ∷ l) k best ≡ S1) (sym q) h in
      record { master = e; follows = sym (follows own e l best) ∙ ap (λ (d : Decision). followed_by d e) s; on = q }

  -- AND WHERE THERE IS A PARENT ITS PORT IS S1, whatever the best of the port
  pub parent_s1 : (l : List Candidate) (x : Candidate) (best : Option Candidate) → parent_by own l ≡ Ok (Some x) → decision_of own l x.port best ≡ S1
  parent_s1 [] x best h = cc
  parent_s1 (e ∷ l) x best h =
      let f = followed_s1 (decision_of own (e ∷ l) e.port best) e x (follows own e l best ∙ h) in
      subst (λ (c : Candidate). decision_of own (e ∷ l) c.port best ≡ S1) f.1 f.0

  -- the parent is Ebest, and its backups the rest of the list
  pub parent_first : (l : List Candidate) (x : Candidate) → parent_by own l ≡ Ok (Some x) → l ≡ x ∷ backups_of l
  parent_first [] x h = cc
  parent_first (e ∷ l) x h = ap (λ (c : Candidate). c ∷ l) (parent_is h)
    where
      parent_is : ◌≡◌ {A = Result (Option Candidate) Refusal} (pick (leads own e) (Ok None) (Ok (Some e))) (Ok (Some x)) → e ≡ x
      parent_is h = cases (leads own e) (λ k. let z : ◌≡◌ {A = Result (Option Candidate) Refusal} (Ok None) (Ok (Some x)) = rw k at h in cc) (λ k. let z : ◌≡◌ {A = Result (Option Candidate) Refusal} (Ok (Some e)) (Ok (Some x)) = rw k at h in cc)

-- ---- every port's decision at a time
s1_code : (d : Decision) → code_of d ≡ 4 → d ≡ S1
s1_code M1 h = absurd (omega arith)
s1_code M2 h = absurd (omega arith)
s1_code M3 h = absurd (omega arith)
s1_code S1 h = refl
s1_code S2 h = absurd (omega arith)
s1_code P1 h = absurd (omega arith)
s1_code P2 h = absurd (omega arith)

module _ (own : Grandmaster) (ws : List ℕ) (t : ℕ) where
  -- what stands in the octet of port i + 1
  pub octet_is : (i : ℕ) → i < 18 → get_or (octets_at own ws t) i 0 ≡ code_of (decision_at own ws t (suc i))
  octet_is i h = get_d_tab 18 (λ k. code_of (decision_at own ws t (suc k))) i 0 h

  -- A PORT WHOSE OCTET IS S1's IS THE PARENT'S
  pub s1_octet : (i : ℕ) → i < 18 → get_or (octets_at own ws t) i 0 ≡ 4 → ParentOn own (list_at ws t) (suc i)
  unfolding decision_at
  s1_octet i h e =
      s1_parent own (list_at ws t) (suc i) (erbest_of (best_of (suc i) (port_at ws (suc i)) t)) (s1_code (decision_at own ws t (suc i)) (sym (octet_is i h) ∙ e))

  -- so there is one at most
  pub one_s1 : (i k : ℕ) → i < 18 → k < 18 → get_or (octets_at own ws t) i 0 ≡ 4 → get_or (octets_at own ws t) k 0 ≡ 4 → i ≡ k
  one_s1 i k h g e f =
      let a = s1_octet i h e in
      let b = s1_octet k g f in
      let m : ◌≡◌ {A = Result (Option Candidate) Refusal} (Ok (Some a.master)) (Ok (Some b.master)) = sym a.follows ∙ b.follows in
      let s : a.master ≡ b.master = cc in
      let p = sym a.on ∙ ap (λ (c : Candidate). c.port) s ∙ b.on in
      omega arith

  -- AND WHERE OUR OWN CLOCK DOES NOT LEAD THERE IS ONE: the parent's port is a port of the clock, and its octet S1's
  pub parent_octet : (x : Candidate) → parent_by own (list_at ws t) ≡ Ok (Some x)
      → (0 < x.port) × (x.port ≤ 18) × (get_or (octets_at own ws t) (x.port - 1) 0 ≡ 4)
  unfolding decision_at
  parent_octet x h =
      let l = list_at ws t in
      let v = subst AllValid (unpack_pack l ∙ parent_first own l x h) (ranked_valid (pack l) (list_ranked own ws t)) in
      let i : x.port - 1 < 18 = omega (arith, v.0.0, v.0.1) in
      let e : suc (x.port - 1) ≡ x.port = omega (arith, v.0.0) in (
        v.0.0,
        v.0.1,
        octet_is (x.port - 1) i
            ∙ ap (λ (p : ℕ). code_of (decision_at own ws t p)) e
            ∙ ap code_of (parent_s1 own l x (erbest_of (best_of x.port (port_at ws x.port) t)) h),
      )

-- ---- refused
-- a port whose candidates are refused with 11
pub record Late (ws : List ℕ) (t : ℕ) : Type 0 where
  pub port : ℕ
  pub refused : (slot : ℕ) → candidate_on ws port slot t ≡ Err Backward

-- "11", or nothing
pub data ElectWhen (ws : List ℕ) (t : ℕ) : ℕ → Type 0 where
  late : Late ws t → ElectWhen ws t 11
  elected : (Late ws t → ⊥) → ElectWhen ws t 0

module _ (ws : List ℕ) (t : ℕ) where
  late_when : (p slot : ℕ) → candidate_on ws p slot t ≡ Err Backward → (is_port p ≡ true) × (ltb t (port_at ws p).last ≡ true)
  unfolding candidate_in refuse
  late_when p slot h =
      cases (is_port p)
      (λ i.
      cases (ltb t (port_at ws p).last)
      (λ l. (i, l))
      (λ l.
      cases (is_qualified (window_of (port_at ws p).e) t (slot_of (port_at ws p) slot))
      (λ q. let z : ◌≡◌ {A = Result (Option Candidate) Refusal} (Ok (Some (candidate_of p (slot_of (port_at ws p) slot)))) (Err Backward) = rw (i, l, q) at h in (i, cc))
      (λ q. let z : ◌≡◌ {A = Result (Option Candidate) Refusal} (Ok None) (Err Backward) = rw (i, l, q) at h in (i, cc))))
      (λ i. let z : ◌≡◌ {A = Result (Option Candidate) Refusal} (Err Port) (Err Backward) = rw i at h in (cc, cc))

  late_in : (ps : List ℕ) → Ports ps → any_late ws t ps ≡ true → Late ws t
  unfolding any_late refuse
  late_in [] h e = absurd (let z : ◌≡◌ {A = ℕ} 0 1 = cc in omega arith)
  late_in (p ∷ ps) h e =
      cases (ltb t (port_at ws p).last)
      (λ l. record { port = p; refused = λ slot. rw (h.0, l) })
      (λ l. late_in ps h.1 (rw l at e))

  -- WHERE A PORT'S CANDIDATES ARE REFUSED WITH 11, SO IS THE WHOLE
  pub late_refuses : (p slot : ℕ) → candidate_on ws p slot t ≡ Err Backward → elected_of ws t every_port ≡ Err Backward
  unfolding elected_of refuse
  late_refuses p slot h =
      let l = late_when p slot h in
      let b = port-sound p l.0 in
      let q : suc (p - 1) ≡ p = omega (arith, b.0) in
      cases (any_late ws t every_port)
      (λ e. rw e)
      (λ e.
      let n = all_tab (λ k. ltb t (port_at ws k).last ≡ false) 18 suc (none_late ws t every_port e) (p - 1) (omega (arith, b.0, b.1)) in
      let m : ltb t (port_at ws p).last ≡ false = subst (λ (k : ℕ). ltb t (port_at ws k).last ≡ false) q n in
      let k = l.1 in
      cc)

  -- AND NOTHING ELSE IS REFUSED
  pub refused_late : (x : Refusal) → (outcome_of (elected_of ws t every_port)) ≡ Err x → (x ≡ Backward) × Late ws t
  unfolding elected_of refuse
  refused_late x h =
      cases (any_late ws t every_port)
      (λ e. let z : ◌≡◌ {A = Result (Unit {0}) Refusal} (Err Backward) (Err x) = rw e at h in (cc, late_in every_port every_port_lem e))
      (λ e. let z : ◌≡◌ {A = Result (Unit {0}) Refusal} (Ok tt) (Err x) = rw e at h in absurd (let y : ◌≡◌ {A = ℕ} 0 1 = cc in omega arith))

  -- THE SAME BY ITS NUMBER: a line that holds is the number given, and the number given has its line
  pub when_elect : {n : ℕ} → ElectWhen ws t n → numbered.code_of (outcome_of (elected_of ws t every_port)) ≡ n
  unfolding elected_of refuse
  when_elect (late l) = ap (λ (r : Result Ranked Refusal). numbered.code_of (outcome_of r)) (late_refuses l.port 0 (l.refused 0))
  when_elect (elected none) =
      cases (any_late ws t every_port)
      (λ e. absurd (none (late_in every_port every_port_lem e)))
      (λ e. rw e)

  pub elect_told : ElectWhen ws t (numbered.code_of (outcome_of (elected_of ws t every_port)))
  unfolding elected_of refuse
  elect_told =
      cases (any_late ws t every_port)
      (λ e. rw e (late (late_in every_port every_port_lem e)))
      (λ e.
      rw e
      (elected
      (λ l.
      let z : numbered.code_of (outcome_of (elected_of ws t every_port)) ≡ 11 = when_elect (late l) in
      let y : ◌≡◌ {A = ℕ} 0 11 = rw e at z in
      omega (arith, y))))
