-- A port's records and candidates are those of its history.
use Rattle.std.specs.Prelude.{Option, Some, None, Result, Ok, Err}
use Rattle.std.proofs.Common.{◌≡◌, ℕ, zero, suc, ◌<◌, ◌≤◌, Bool, true, false, ◌&&◌, eqb, ltb, List, [], ◌∷◌, length, get_or, sym, refl, ap, ◌∙◌, subst, arith, get_or-set_other, get_or-set_same, ltb-false, ne_eqb, eqb-true, leb-true}
use borrow.Author.Tests.{eqb-false}
use Rattle.refusal.specs.Choice.{pick}
use Rattle.rank.specs.declared.Candidate.{Candidate}
use Rattle.identity.specs.declared.PortIdentity.{PortIdentity}
use Rattle.rank.proofs.Best.{cases}
use Rattle.rank.proofs.Merging.{both}
use Rattle.senders.specs.declared.Notice.{Notice}
use Rattle.senders.specs.declared.Record.{Record}
use Rattle.senders.specs.Record.{window_of, is_of, is_live, is_qualified, fresh_of, next_of, candidate_of}
use Rattle.senders.specs.Port.{Port, tab, empty_slot, slot_of, first, plan_of, port_after, candidate_in, Live, Single}
use Rattle.senders.specs.History.{PortEvent, announced, interval, made_by, Receipt, accepts, is_by, last_accepted, accepted_from, has_live, since, kept_of, candidate_by}
use Rattle.laws.proofs.Bools.{clash}
use Rattle.senders.proofs.First.{first_none, first_misses}
use Rattle.senders.proofs.Names.{of_name, of_heard, is_of_lem, by_name, is_by_lem}
use Rattle.senders.proofs.Intake.{plan_cases, size_kept, alone, single_kept}
use Rattle.refusal.specs.declared.Refusal.{Refusal}

-- ---- sixteen slots, and one record a sender
empty : (n i : ℕ) → get_or (tab n (λ k. empty_slot)) i empty_slot ≡ empty_slot
unfolding tab
empty zero i = refl
empty (suc n) zero = refl
empty (suc n) (suc i) = empty n i

pub size_by_lem : (hs : List PortEvent) → length (made_by hs).slots ≡ 16
unfolding made_by tab
size_by_lem [] = refl
size_by_lem (announced t a ∷ older) = size_kept (made_by older) t a (size_by_lem older)
size_by_lem (interval e ∷ older) = size_by_lem older

pub single_by : (hs : List PortEvent) → Single (made_by hs)
unfolding made_by
single_by [] x i j hi hj oi oj = clash refl (of_heard x empty_slot (sym (ap (is_of x) (empty 16 i)) ∙ oi))
single_by (announced t a ∷ older) x i j hi hj oi oj = single_kept (made_by older) t a (size_by_lem older) (single_by older) x i j hi hj oi oj
single_by (interval e ∷ older) x i j hi hj oi oj = single_by older x i j hi hj oi oj

-- ---- whether a live record is there
module _ (x : PortIdentity) (p : Port) (t : ℕ) (size : length p.slots ≡ 16) where
  abbrev test : Record → Bool
  test r = is_of x r && is_live (window_of p.e) t r

  live_by : (b : Bool) (k : ℕ) → k < 16 → is_of x (slot_of p k) ≡ true → Live p t k → ltb (first test p.slots) 16 ≡ b → ltb (first test p.slots) 16 ≡ true
  live_by true k h o v e = e
  live_by false k h o v e =
      let far : 16 ≤ first test p.slots = ltb-false _ _ e in
      let miss : test (slot_of p k) ≡ false = first_misses test empty_slot p.slots k (omega arith) in
      let hit : test (slot_of p k) ≡ true = rw (o, v) in
      clash hit miss

  pub has_live_lem : (k : ℕ) → k < 16 → is_of x (slot_of p k) ≡ true → Live p t k → has_live x p t ≡ true
  unfolding has_live
  has_live_lem k h o v = live_by (ltb (first test p.slots) 16) k h o v refl

  dead_by : (r : Record) (b : Bool) → is_of x r ≡ b → (is_of x r ≡ true → is_live (window_of p.e) t r ≡ false) → test r ≡ false
  dead_by r true o d = rw (o, d o)
  dead_by r false o d = rw o

  pub has_none : ((k : ℕ) → k < 16 → is_of x (slot_of p k) ≡ true → is_live (window_of p.e) t (slot_of p k) ≡ false) → has_live x p t ≡ false
  unfolding has_live
  has_none dead =
      rw (first_none test empty_slot p.slots (λ k h. dead_by (slot_of p k) (is_of x (slot_of p k)) refl (dead k (rw size at h))) ∙ size)

-- ---- the records are those that the receipts since the last restart make
-- one more receipt shifts them
pub next_kept : (r : Record) (t : ℕ) (a : Notice) (l : List Receipt) → r ≡ kept_of l → eqb r.receipts 0 ≡ false → next_of r t a ≡ kept_of (record { at = t; notice = a } ∷ l)
next_kept r t a [] e n = clash (ap (λ (z : Record). eqb z.receipts 0) e) n
next_kept r t a (m ∷ []) e n = ap (λ (z : Record). next_of z t a) e
next_kept r t a (m ∷ o ∷ l) e n = ap (λ (z : Record). next_of z t a) e

-- a port, and for each sender the receipts that its record is made of
abbrev Made : Port → (PortIdentity → List Receipt) → Type 0
Made p past = (x : PortIdentity) (i : ℕ) → i < 16 → is_of x (slot_of p i) ≡ true → slot_of p i ≡ kept_of (past x)

module _ (p : Port) (t : ℕ) (a : Notice) (size : length p.slots ≡ 16) (single : Single p) (past : PortIdentity → List Receipt) (made : Made p past) where
  abbrev heard_now : Receipt
  heard_now = record { at = t; notice = a }

  abbrev past_by : Result (ℕ × Record) Refusal → PortIdentity → List Receipt
  past_by q x = pick (accepts q && is_by x a) (heard_now ∷ pick (has_live x p t) (past x) []) (past x)

  module _ (k : ℕ) (z : Record) (inside : k < 16) (its : is_of a.sender z ≡ true)
      (others : (j : ℕ) → j < 16 → (j ≡ k → ⊥) → is_of a.sender (slot_of p j) ≡ false)
      (is : z ≡ kept_of (heard_now ∷ pick (has_live a.sender p t) (past a.sender) [])) where
    abbrev now : ℕ → Record
    now i = slot_of (port_after p t (Ok (k, z))) i

    at_k : (i : ℕ) → i ≡ k → now i ≡ z
    at_k i e = ap now e ∙ get_or-set_same p.slots k z empty_slot (rw size inside)

    beside : (i : ℕ) → (i ≡ k → ⊥) → now i ≡ slot_of p i
    beside i e = get_or-set_other p.slots k i z empty_slot e

    -- the sender's own
    own_made : (x : PortIdentity) → a.sender ≡ x → z ≡ kept_of (past_by (Ok (k, z)) x)
    own_made x e =
        subst (λ (y : PortIdentity). z ≡ kept_of (past_by (Ok (k, z)) y)) e (rw (is_by_lem a.sender a refl) is)

    -- another's
    other_made : (x : PortIdentity) (i : ℕ) → i < 16 → (i ≡ k → ⊥) → is_of x (slot_of p i) ≡ true → (b : Bool) → is_by x a ≡ b → slot_of p i ≡ kept_of (past_by (Ok (k, z)) x)
    other_made x i h n o true e =
        clash (subst (λ (y : PortIdentity). is_of y (slot_of p i) ≡ true) (sym (by_name x a e)) o) (others i h n)
    other_made x i h n o false e = rw e (made x i h o)

    put_made : Made (port_after p t (Ok (k, z))) (past_by (Ok (k, z)))
    put_made x i h o =
        cases (eqb i k)
        (λ e. let f = eqb-true i k e in
        let same : is_of x z ≡ true = rw (at_k i f) at o in
        at_k i f ∙ own_made x (sym (of_name a.sender z its) ∙ of_name x z same))
        (λ e. let f = eqb-false i k e in
        beside i f ∙ other_made x i h f (rw (beside i f) at o) (is_by x a) refl)

  plan_made : Made (port_after p t (plan_of p t a)) (past_by (plan_of p t a))
  plan_made =
      plan_cases p t a size (λ q. Made (port_after p t q) (past_by q))
      (record {
        backward = λ l. made;
        renewed = λ k l h o v n.
            put_made k (next_of (slot_of p k) t a) h (is_of_lem a.sender (next_of (slot_of p k) t a) refl refl) (alone p a k single h o)
            (rw (has_live_lem a.sender p t size k h o v) (next_kept (slot_of p k) t a (past a.sender) (made a.sender k h o) (of_heard a.sender (slot_of p k) o)));
        stale = λ k l h o v n. made;
        restarted = λ k l h o v.
            put_made k (fresh_of t a) h (is_of_lem a.sender (fresh_of t a) refl refl) (alone p a k single h o)
            (rw (has_none a.sender p t size (λ j g f.
            subst (λ (m : ℕ). is_live (window_of p.e) t (slot_of p m) ≡ false) (single a.sender k j h g o f) v)));
        placed = λ j l n h v b.
            put_made j (fresh_of t a) h (is_of_lem a.sender (fresh_of t a) refl refl) (λ k g f. n k g)
            (rw (has_none a.sender p t size (λ k g f. clash f (n k g))));
        full = λ l n v. made;
      })

-- A RECORD IS WHAT ITS SENDER'S ACCEPTED ANNOUNCES SINCE IT LAST RESTARTED MAKE: newest and older the times of the last two, its
-- receipts how many there were, two at most, its data those of the last
pub record_is : (hs : List PortEvent) (x : PortIdentity) (i : ℕ) → i < 16 → is_of x (slot_of (made_by hs) i) ≡ true → slot_of (made_by hs) i ≡ kept_of (since x hs)
unfolding made_by since
record_is [] x i h o = clash refl (of_heard x empty_slot (sym (ap (is_of x) (empty 16 i)) ∙ o))
record_is (announced t a ∷ older) x i h o = plan_made (made_by older) t a (size_by_lem older) (single_by older) (λ y. since y older) (record_is older) x i h o
record_is (interval e ∷ older) x i h o = record_is older x i h o

-- ---- those since the last restart are the latest of all
pub data Latest : List Receipt → List Receipt → Type 0 where
  none : {l : List Receipt} → Latest [] l
  one : {r : Receipt} {k l : List Receipt} → Latest k l → Latest (r ∷ k) (r ∷ l)

latest_by : (r : Receipt) (k l : List Receipt) (b c : Bool) → Latest k l → Latest (pick b (r ∷ pick c k []) k) (pick b (r ∷ l) l)
latest_by r k l true true h = one h
latest_by r k l true false h = one none
latest_by r k l false c h = h

pub latest : (x : PortIdentity) (hs : List PortEvent) → Latest (since x hs) (accepted_from x hs)
unfolding since accepted_from
latest x [] = none
latest x (announced t a ∷ older) =
    latest_by (record { at = t; notice = a }) (since x older) (accepted_from x older) (accepts (plan_of (made_by older) t a) && is_by x a) (has_live x (made_by older) t) (latest x older)
latest x (interval e ∷ older) = latest x older

-- the last accepted time
last_by : (p : Port) (t n : ℕ) (q : Result (ℕ × Record) Refusal) → p.last ≡ n → (port_after p t q).last ≡ pick (accepts q) t n
last_by p t n (Err x) e = e
last_by p t n (Ok (i, r)) e = refl

pub last_is : (hs : List PortEvent) → (made_by hs).last ≡ last_accepted hs
unfolding made_by last_accepted
last_is [] = refl
last_is (announced t a ∷ older) = last_by (made_by older) t (last_accepted older) (plan_of (made_by older) t a) (last_is older)
last_is (interval e ∷ older) = last_is older

-- the newest of a record that was heard
pub newest_is : {k l : List Receipt} {n : Receipt} → Latest k (n ∷ l) → eqb (kept_of k).receipts 0 ≡ false → (kept_of k).newest ≡ n.at
newest_is none h = clash refl h
newest_is (one none) h = refl
newest_is (one (one g)) h = refl

pub notice_is : {k l : List Receipt} {n : Receipt} → Latest k (n ∷ l) → eqb (kept_of k).receipts 0 ≡ false → (kept_of k).notice ≡ n.notice
notice_is none h = clash refl h
notice_is (one none) h = refl
notice_is (one (one g)) h = refl

pub never_heard : {k : List Receipt} → Latest k [] → eqb (kept_of k).receipts 0 ≡ true
never_heard none = refl

-- ---- a candidate was heard twice within the window
module _ (port w t : ℕ) where
  twice : {k l : List Receipt} → Latest k l → is_qualified w t (kept_of k) ≡ true → candidate_by port w t l ≡ Ok (Some (candidate_of port (kept_of k)))
  twice none q = clash q refl
  twice (one none) q = clash q refl
  twice (one (one h)) q = rw q

module _ (hs : List PortEvent) (port i t : ℕ) (h : i < 16) where
  abbrev w : ℕ
  w = window_of (made_by hs).e

  heard_twice_lem : (r : Record) → r ≡ kept_of (since r.notice.sender hs) → is_qualified w t r ≡ true
      → candidate_by port w t (accepted_from r.notice.sender hs) ≡ Ok (Some (candidate_of port r))
  heard_twice_lem r e q =
      let x = r.notice.sender in
      twice port w t (latest x hs) (subst (λ (z : Record). is_qualified w t z ≡ true) e q)
      ∙ ap (λ (z : Record). Ok (Some (candidate_of port z))) (sym e)

  qualified_twice : (r : Record) → slot_of (made_by hs) i ≡ r → is_qualified w t r ≡ true → candidate_by port w t (accepted_from r.notice.sender hs) ≡ Ok (Some (candidate_of port r))
  qualified_twice r e q =
      let two : 2 ≤ r.receipts = leb-true _ _ (both _ _ (both _ _ q).0).0 in
      let own : is_of r.notice.sender r ≡ true = is_of_lem r.notice.sender r refl (ne_eqb r.receipts 0 (λ z. omega arith)) in
      heard_twice_lem r (sym e ∙ record_is hs r.notice.sender i h (ap (is_of r.notice.sender) e ∙ own)) q

  only_by : (c : Candidate) (r : Record) → slot_of (made_by hs) i ≡ r → (b : Bool) → is_qualified w t r ≡ b
      → pick {A = Result (Option Candidate) Refusal} b (Ok (Some (candidate_of port r))) (Ok None) ≡ Ok (Some c) → candidate_by port w t (accepted_from c.sender hs) ≡ Ok (Some c)
  only_by c r e false q f = absurd (let z : ◌≡◌ {A = ℕ} 0 1 = cc in omega arith)
  only_by c r e true q f =
      let same : candidate_of port r ≡ c = cc in
      subst (λ (d : Candidate). candidate_by port w t (accepted_from d.sender hs) ≡ Ok (Some d)) same (qualified_twice r e q)

  -- WHOEVER IS A CANDIDATE at t: its two latest accepted Announces lie with the older within W of t, and the last is not distant
  pub candidate_only : (c : Candidate) → candidate_in port (made_by hs) i t ≡ Ok (Some c) → candidate_by port w t (accepted_from c.sender hs) ≡ Ok (Some c)
  unfolding candidate_in
  candidate_only c f = only_by c (slot_of (made_by hs) i) refl (is_qualified w t (slot_of (made_by hs) i)) refl f
