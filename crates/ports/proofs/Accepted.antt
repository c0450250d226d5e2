-- After any calls from fresh words: what a port holds of a sender, and who its candidates are, by the Announces that it accepted.
use Rattle.std.specs.Prelude.{Option, Some, None, Result, Ok, Err}
use mathlib.Core.Path.{◌≡◌, refl, sym, ap, subst, ◌∙◌}
use mathlib.Core.Bool.{Bool, true, false}
use mathlib.Core.List.{List, [], ◌∷◌}
use Prim.Native.Nat.{ℕ, ◌+◌, ◌-◌, ◌*◌, ◌≤◌, ◌<◌}
use native.Mathlib.Omega.{arith}
use lib.Dec.{eqb}
use lib.IntN.{ℤ}
use lib.ListN.{length, set}
use borrow.Author.Tests.{eqb-true, eqb-false, eq-eqb, ne_eqb, le-ltb}
use Rattle.refusal.specs.Choice.{pick, refuse}
use Rattle.refusal.specs.declared.Refusal.TheVariants.{Stale}
use Rattle.refusal.specs.Refusal.{code_of}
use Rattle.rank.specs.declared.Candidate.{Candidate}
use Rattle.identity.specs.declared.PortIdentity.{PortIdentity}
use Rattle.rank.specs.Ranked.{is_port}
use Rattle.senders.specs.declared.Notice as kept
use Rattle.senders.specs.declared.Record.{Record}
use Rattle.senders.specs.Record.{window_of, is_of}
use Rattle.senders.specs.Port.{Port, empty_slot, slot_of, plan_of, outcome_of, port_after, candidate_in}
use Rattle.senders.specs.History.{PortEvent, interval, made_by, Receipt, last_accepted, since, kept_of, candidate_by, stale_by, unbroken, Steady}
use Rattle.senders.proofs.Intake as intake
use Rattle.senders.proofs.Exactly.{plan_numbered}
use Rattle.senders.proofs.Names.{is_of_lem}
use Rattle.senders.proofs.History.{size_by_lem, last_is, record_is, candidate_only}
use Rattle.senders.proofs.Steady.{HasRecord, holds, since_is, candidate_when, stale_when, stale_only}
use Rattle.slots.specs.Words.{record_of, slot_at, port_of, words_after, block, seen_in}
use Rattle.slots.proofs.Laws.{length_tab, tab_ext}
use Rattle.slots.proofs.Meaning.{Fitting, port_eq, exponent_means}
use Rattle.ports.specs.declared.intake.Settings.{Settings}
use Rattle.ports.specs.Words.{own, port_at}
use Rattle.ports.specs.Intake.{admitted_of, plan_by}
use Rattle.ports.specs.Interval.{is_interval, exponent_of}
use Rattle.ports.specs.Asking.{candidate_on, looked_at}
use Rattle.ports.specs.History.{Call, taking, setting, asking, port_of_call, after, run, own_after, fresh, OctetCall, OctetCalls}
use Rattle.ports.specs.When.{take_number}
use Rattle.ports.specs.Accepted.{announced_by, added_by, history_from, history_on, accepted_on, Unset, SteadyOn, IsCandidate}
use Rattle.ports.proofs.Laws.{asked_found}
use Rattle.ports.proofs.Follows.{own_length, after_all, frame, own_after_lem}
use Rattle.ports.proofs.Fits.{notice_fits}
use Rattle.ports.proofs.Promises.{Zeros, zeros_tab, zeros_block, by_means, planned}
use Rattle.senders.specs.declared.Notice.{Notice}
use Rattle.refusal.specs.declared.Refusal.{Refusal}

-- ---- a fresh port
blank : (l : List ℕ) → Zeros l → record_of l ≡ empty_slot
unfolding record_of
blank l z = rw (z 0, z 1, z 2, z 3, z 4, z 5)

fresh_is : (q : ℕ) → port_at fresh q ≡ made_by []
unfolding made_by
fresh_is q =
    let l = own fresh q in
    let z : Zeros l = zeros_block fresh (98 * (q - 1)) 98 (zeros_tab 1764) in
    port_eq (z 0) (z 1) (tab_ext 16 (slot_at l) (λ i. empty_slot) (λ i h. blank (block l (2 + 6 * i) 6) (zeros_block l (2 + 6 * i) 6 z)))

-- ---- a call, and calls
module _ (l : List ℕ) (n : length l ≡ 98) (hs : List PortEvent) (is : port_of l ≡ made_by hs) where
  announced_is : (t : ℕ) (x : Result Notice Refusal) → ((a : kept.Notice) → x ≡ Ok a → Fitting a)
      → port_of (words_after l t (plan_by (port_of l) t x)) ≡ made_by (announced_by t x hs)
  unfolding made_by
  announced_is t (Err x) fits = is
  announced_is t (Ok a) fits = by_means l t n (Ok a) fits ∙ ap (λ (p : Port). port_after p t (plan_of p t a)) is

  interval_is : (e : ℕ) (b : Bool) → port_of (pick b (set l 1 e) l) ≡ made_by (pick b (interval e ∷ hs) hs)
  unfolding made_by
  interval_is e true = exponent_means l e n ∙ ap (λ (p : Port). record { last = p.last; e = e; slots = p.slots }) is
  interval_is e false = is

  own_is : (c : Call) → OctetCall c → port_of (own_after l c) ≡ made_by (added_by c hs)
  own_is (taking set port t s) o = announced_is t (admitted_of set port s) (λ a e. notice_fits set port s a e o)
  own_is (setting port k) o = interval_is (exponent_of k) (is_interval k)
  own_is (asking port) o = is

module _ (q : ℕ) (iq : is_port q ≡ true) where
  step_is : (ws : List ℕ) (n : length ws ≡ 1764) (c : Call) → OctetCall c → (hs : List PortEvent) → port_at ws q ≡ made_by hs
      → (b : Bool) → eqb (port_of_call c) q ≡ b → port_at (after ws c) q ≡ made_by (pick b (added_by c hs) hs)
  step_is ws n c o hs is true e = ap port_of (own_after_lem ws n c q iq (eqb-true _ _ e)) ∙ own_is (own ws q) (own_length ws n q iq) hs is c o
  step_is ws n c o hs is false e = ap port_of (frame ws n c q iq (λ f. eqb-false _ _ e (sym f))) ∙ is

  run_is : (ws : List ℕ) (cs : List Call) → length ws ≡ 1764 → OctetCalls cs → (hs : List PortEvent) → port_at ws q ≡ made_by hs
      → port_at (run ws cs) q ≡ made_by (history_from q hs cs)
  run_is ws [] n o hs is = is
  run_is ws (c ∷ cs) n o hs is =
      run_is (after ws c) cs (after_all ws n c) o.1 (pick (eqb (port_of_call c) q) (added_by c hs) hs)
      (step_is ws n c o.0 hs is (eqb (port_of_call c) q) refl)

  module _ (cs : List Call) (o : OctetCalls cs) where
    -- THE PORT IS WHAT ITS HISTORY MAKES IT
    pub port_by_history : port_at (run fresh cs) q ≡ made_by (history_on q cs)
    port_by_history = run_is fresh cs (length_tab 1764 (λ i. 0)) o [] (fresh_is q)

    -- its last accepted time is that of the last accepted Announce, 0 before any
    pub last_by_history : (port_at (run fresh cs) q).last ≡ last_accepted (history_on q cs)
    last_by_history = ap (λ (p : Port). p.last) port_by_history ∙ last_is (history_on q cs)

    -- A RECORD IS WHAT ITS SENDER'S ACCEPTED ANNOUNCES SINCE IT LAST RESTARTED MAKE
    pub record_by_history : (x : PortIdentity) (i : ℕ) → i < 16 → is_of x (slot_of (port_at (run fresh cs) q) i) ≡ true
        → slot_of (port_at (run fresh cs) q) i ≡ kept_of (since x (history_on q cs))
    record_by_history x i h =
        subst (λ (p : Port). is_of x (slot_of p i) ≡ true → slot_of p i ≡ kept_of (since x (history_on q cs))) (sym port_by_history) (record_is (history_on q cs) x i h)

    -- so it is shown
    shown_by : (r s : Record) (i : ℕ) → i < 16 → slot_of (port_at (run fresh cs) q) i ≡ s → (b : Bool) → eqb s.receipts 0 ≡ b → pick b None (Some s) ≡ Some r
        → r ≡ kept_of (since r.notice.sender (history_on q cs))
    shown_by r s i h e true n f = absurd (let z : ◌≡◌ {A = ℕ} 0 1 = cc in omega arith)
    shown_by r s i h e false n f =
        let same : s ≡ r = cc in
        let x = s.notice.sender in
        let its : is_of x (slot_of (port_at (run fresh cs) q) i) ≡ true = ap (is_of x) e ∙ is_of_lem x s refl n in
        subst (λ (z : Record). z ≡ kept_of (since z.notice.sender (history_on q cs))) same (sym e ∙ record_by_history x i h its)

    pub shown_by_history : (i : ℕ) → i < 16 → (r : Record) → looked_at (run fresh cs) q i ≡ Ok (Some r) → r ≡ kept_of (since r.notice.sender (history_on q cs))
    unfolding refuse seen_in
    shown_by_history i h r e =
        let s = slot_of (port_at (run fresh cs) q) i in
        let f : ◌≡◌ {A = Result (Option Record) Refusal} (Ok (pick (eqb s.receipts 0) None (Some s))) (Ok (Some r)) = rw iq at e in
        shown_by r s i h refl (eqb s.receipts 0) refl (cc)

    -- ---- candidates
    -- A CANDIDATE'S TWO LATEST ACCEPTED ANNOUNCES LIE WITH THE OLDER WITHIN W OF T, and it has the data of the last
    pub candidates_only : (i t : ℕ) → i < 16 → (c : Candidate) → candidate_on (run fresh cs) q i t ≡ Ok (Some c)
        → candidate_by q (window_of (port_at (run fresh cs) q).e) t (accepted_on q cs c.sender) ≡ Ok (Some c)
    candidates_only i t h c e =
        let p = port_at (run fresh cs) q in
        let g = (asked_found (run fresh cs) q t (candidate_in q p i t) c e).1 in
        subst (λ (r : Port). candidate_in q r i t ≡ Ok (Some c) → candidate_by q (window_of r.e) t (accepted_on q cs c.sender) ≡ Ok (Some c)) (sym port_by_history)
        (candidate_only (history_on q cs) q i t h c) g

-- ---- where the interval is not changed
abbrev numbered : Result (ℕ × Record) Refusal → ℕ
numbered q = code_of (outcome_of q)

module _ (q : ℕ) (iq : is_port q ≡ true) (cs : List Call) (o : OctetCalls cs) (w : ℕ) (steady : SteadyOn q cs w) where
  -- a sender restarts exactly after a gap that is longer than W: its record is what the accepted Announces since the last such gap make
  pub record_by_gaps : (x : PortIdentity) (i : ℕ) → i < 16 → is_of x (slot_of (port_at (run fresh cs) q) i) ≡ true
      → slot_of (port_at (run fresh cs) q) i ≡ kept_of (unbroken w (accepted_on q cs x))
  record_by_gaps x i h its = record_by_history q iq cs o x i h its ∙ ap kept_of (since_is x w (history_on q cs) steady.came)

  -- NOBODY IS PUSHED OUT: whose latest accepted Announce lies within W of the port's last accepted time has its record
  pub place_by_history : (x : PortIdentity) (n : Receipt) (l : List Receipt) → accepted_on q cs x ≡ n ∷ l → (port_at (run fresh cs) q).last - n.at ≤ w
      → HasRecord x (port_at (run fresh cs) q)
  place_by_history x n l f =
      subst (λ (p : Port). p.last - n.at ≤ w → HasRecord x p) (sym (port_by_history q iq cs o)) (holds x w (history_on q cs) steady.came n l f)

  -- WHOSE TWO LATEST ACCEPTED ANNOUNCES LIE WITH THE OLDER WITHIN W OF T IS A CANDIDATE, at every time T that is not refused
  pub candidates_when : (t : ℕ) → (port_at (run fresh cs) q).last ≤ t
      → (x : PortIdentity) (c : Candidate) → candidate_by q w t (accepted_on q cs x) ≡ Ok (Some c) → IsCandidate (run fresh cs) q t c
  unfolding refuse
  candidates_when t later x c e =
      let same = port_by_history q iq cs o in
      let now : (made_by (history_on q cs)).last ≤ t = subst (λ (p : Port). p.last ≤ t) same later in
      let there = candidate_when (history_on q cs) q w t steady.came steady.stands now x c e in
      record {
        slot = there.at;
        inside = there.inside;
        is = rw (iq, le-ltb _ _ later) (subst (λ (p : Port). candidate_in q p there.at t ≡ Ok (Some c)) (sym same) there.is);
      }

  -- so A PORT'S CANDIDATES AT T ARE EXACTLY THOSE
  pub candidates_exactly : (t : ℕ) → (port_at (run fresh cs) q).last ≤ t → (c : Candidate)
      → (IsCandidate (run fresh cs) q t c → candidate_by q w t (accepted_on q cs c.sender) ≡ Ok (Some c))
      × (candidate_by q w t (accepted_on q cs c.sender) ≡ Ok (Some c) → IsCandidate (run fresh cs) q t c)
  candidates_exactly t later c =
      let window : window_of (port_at (run fresh cs) q).e ≡ w = ap (λ (p : Port). window_of p.e) (port_by_history q iq cs o) ∙ steady.stands in (
        λ is. rw window at (candidates_only q iq cs o is.slot t is.inside c is.is),
        candidates_when t later c.sender c,
      )

  -- 12 EXACTLY WHEN THE SENDER'S LATEST ACCEPTED ANNOUNCE LIES WITHIN W OF T AND THE SEQUENCEID IS NOT NEWER THAN ITS
  module _ (set : Settings) (t : ℕ) (s : List ℕ) (a : kept.Notice) (admitted : admitted_of set q s ≡ Ok a) where
    pub twelve_by_history : (port_at (run fresh cs) q).last ≤ t → stale_by w t a (accepted_on q cs a.sender) ≡ true → take_number set (run fresh cs) q t s ≡ 12
    twelve_by_history later e =
        let same = port_by_history q iq cs o in
        let now : (made_by (history_on q cs)).last ≤ t = subst (λ (p : Port). p.last ≤ t) same later in
        ap numbered (planned set (run fresh cs) q t s a admitted
        ∙ ap (λ (p : Port). plan_of p t a) same
        ∙ stale_when (history_on q cs) w t a steady.came steady.stands now e)

    pub twelve_by_history_only : take_number set (run fresh cs) q t s ≡ 12 → stale_by w t a (accepted_on q cs a.sender) ≡ true
    twelve_by_history_only e =
        let hs = history_on q cs in
        let p = made_by hs in
        let plan = planned set (run fresh cs) q t s a admitted ∙ ap (λ (r : Port). plan_of r t a) (port_by_history q iq cs o) in
        let stale : plan_of p t a ≡ Err Stale =
        plan_numbered p t a (size_by_lem hs) Stale (omega arith) (λ z. absurd (omega arith)) (λ z. refl) (λ z. absurd (omega arith)) (sym (ap numbered plan) ∙ e) in
        stale_only hs w t a steady.came steady.stands (intake.stale_only p t a (size_by_lem hs) stale).later stale

-- ---- the interval is not changed: never set, or set first
e_kept : (p : Port) (t : ℕ) (q : Result (ℕ × Record) Refusal) → (port_after p t q).e ≡ p.e
e_kept p t (Err x) = refl
e_kept p t (Ok (i, r)) = refl

module _ (q w : ℕ) where
  abbrev Stands : List PortEvent → Type 0
  Stands hs = Steady w hs × (window_of (made_by hs).e ≡ w)

  announced_steady : (t : ℕ) (x : Result Notice Refusal) (hs : List PortEvent) → Stands hs → Stands (announced_by t x hs)
  unfolding Steady made_by
  announced_steady t (Err x) hs s = s
  announced_steady t (Ok a) hs s = ((s.1, s.0), ap window_of (e_kept (made_by hs) t (plan_of (made_by hs) t a)) ∙ s.1)

  taken_steady : (t : ℕ) (x : Result Notice Refusal) (hs : List PortEvent) (b : Bool) → Stands hs → Stands (pick b (announced_by t x hs) hs)
  taken_steady t x hs true s = announced_steady t x hs s
  taken_steady t x hs false s = s

  kept_steady : (hs : List PortEvent) (b : Bool) → Stands hs → Stands (pick b hs hs)
  kept_steady hs true s = s
  kept_steady hs false s = s

  steady_from : (cs : List Call) (hs : List PortEvent) → Unset q cs → Stands hs → Stands (history_from q hs cs)
  steady_from [] hs u s = s
  steady_from (taking set port t d ∷ cs) hs u s =
      steady_from cs (pick (eqb port q) (announced_by t (admitted_of set port d) hs) hs) u (taken_steady t (admitted_of set port d) hs (eqb port q) s)
  steady_from (setting port k ∷ cs) hs u s =
      steady_from cs (pick (eqb port q) (pick (is_interval k) (interval (exponent_of k) ∷ hs) hs) hs) u.1 (rw (ne_eqb port q u.0) s)
  steady_from (asking port ∷ cs) hs u s = steady_from cs (pick (eqb port q) hs hs) u (kept_steady hs (eqb port q) s)

-- never set: four seconds
pub never_set : (q : ℕ) (cs : List Call) → Unset q cs → SteadyOn q cs 4000000000
unfolding Steady made_by
never_set q cs u = let s = steady_from q 4000000000 cs [] u (tt, refl) in record { came = s.0; stands = s.1 }

-- set before all else, to k
pub set_first : (q : ℕ) (k : ℤ) (cs : List Call) → is_interval k ≡ true → Unset q cs → SteadyOn q (setting q k ∷ cs) (window_of (exponent_of k))
unfolding Steady made_by
set_first q k cs ik u =
    let e = exponent_of k in
    let added : pick (eqb q q) (pick (is_interval k) (interval e ∷ []) []) [] ≡ interval e ∷ [] = rw (eq-eqb q q refl, ik) in
    let s : Stands q (window_of e) (history_on q (setting q k ∷ cs)) =
    subst (λ (hs : List PortEvent). Stands q (window_of e) (history_from q hs cs)) (sym added) (steady_from q (window_of e) cs (interval e ∷ []) u (tt, refl)) in
    record { came = s.0; stands = s.1 }
