-- Where a port's interval is not changed: a sender restarts exactly after a gap that is longer than the window, whoever was heard
-- twice within the window is a candidate, and 12 is given by the sender's latest accepted Announce.
use Rattle.std.specs.Prelude.{Option, Some, None, Result, Ok, Err}
use Rattle.std.proofs.Common.{◌≡◌, ℕ, ◌-◌, ◌<◌, ◌≤◌, Bool, true, false, not, ◌&&◌, eqb, leb, List, [], ◌∷◌, length, refl, ap, ◌∙◌, subst, arith, get_or-set_same, le-leb, leb-true}
use borrow.Author.Tests.{not-true}
use Rattle.refusal.specs.Choice.{pick}
use Rattle.refusal.specs.declared.Refusal.{Refusal}
use Rattle.refusal.specs.declared.Refusal.TheVariants.{Backward, Stale, Full}
use Rattle.rank.specs.declared.Candidate.{Candidate}
use Rattle.identity.specs.declared.PortIdentity.{PortIdentity}
use Rattle.rank.proofs.Best.{cases}
use Rattle.rank.proofs.Merging.{both}
use Rattle.senders.specs.declared.Notice.{Notice}
use Rattle.senders.specs.declared.Record.{Record}
use Rattle.senders.specs.Record.{window_of, is_of, is_distant, is_newer, fresh_of, next_of, candidate_of}
use Rattle.senders.specs.Port.{Port, empty_slot, slot_of, plan_of, port_after, candidate_in, Live}
use Rattle.senders.specs.History.{PortEvent, announced, interval, made_by, Receipt, accepts, is_by, accepted_from, has_live, since, kept_of, candidate_by, stale_by, unbroken, Steady}
use Rattle.laws.proofs.Bools.{clash}
use Rattle.senders.proofs.Names.{of_heard, is_of_lem, by_name}
use Rattle.senders.proofs.Intake.{plan_cases}
use Rattle.senders.proofs.Intake as intake
use Rattle.senders.proofs.Keeping.{place_kept}
use Rattle.senders.proofs.History.{size_by_lem, single_by, has_live_lem, has_none, record_is, Latest, latest, newest_is, notice_is, never_heard}

-- a record of the sender
pub record HasRecord (x : PortIdentity) (p : Port) : Type 0 where
  pub at : ℕ
  pub inside : at < 16
  pub its : is_of x (slot_of p at) ≡ true

-- what a plan puts is the Announce's own record, not before the last accepted time
pub record Puts (p : Port) (t : ℕ) (a : Notice) (k : ℕ) (z : Record) : Type 0 where
  pub inside : k < 16
  pub its : is_of a.sender z ≡ true
  pub later : p.last ≤ t

module _ (p : Port) (t : ℕ) (a : Notice) (size : length p.slots ≡ 16) (k : ℕ) (z : Record) where
  no_put : {G : Type 0} (y : Refusal) → ◌≡◌ {A = Result (ℕ × Record) Refusal} (Err y) (Ok (k, z)) → G
  no_put {G} y e = absurd (let d : ◌≡◌ {A = ℕ} 0 1 = cc in omega arith)

  the_put : (i : ℕ) (y : Record) → p.last ≤ t → i < 16 → is_of a.sender y ≡ true → ◌≡◌ {A = Result (ℕ × Record) Refusal} (Ok (i, y)) (Ok (k, z)) → Puts p t a k z
  the_put i y l h o e =
      let pair : ◌≡◌ {A = ℕ × Record} (i, y) (k, z) = cc in
      let f : i ≡ k = ap (λ (q : ℕ × Record). q.0) pair in
      let g : y ≡ z = ap (λ (q : ℕ × Record). q.1) pair in
      record { inside = subst (λ (j : ℕ). j < 16) f h; its = subst (λ (r : Record). is_of a.sender r ≡ true) g o; later = l }

  puts : plan_of p t a ≡ Ok (k, z) → Puts p t a k z
  puts =
      plan_cases p t a size (λ q. q ≡ Ok (k, z) → Puts p t a k z)
      (record {
        backward = λ l. no_put Backward;
        renewed = λ i l h o v n. the_put i (next_of (slot_of p i) t a) l h (is_of_lem a.sender (next_of (slot_of p i) t a) refl refl);
        stale = λ i l h o v n. no_put Stale;
        restarted = λ i l h o v. the_put i (fresh_of t a) l h (is_of_lem a.sender (fresh_of t a) refl refl);
        placed = λ j l n h v b. the_put j (fresh_of t a) l h (is_of_lem a.sender (fresh_of t a) refl refl);
        full = λ l n v. no_put Full;
      })

empty_list : {G : Type 0} {n : Receipt} {l : List Receipt} → [] ≡ n ∷ l → G
empty_list {G} {n} {l} e = absurd (let z : ◌≡◌ {A = ℕ} 0 1 = cc in omega arith)

head_is : {m n : Receipt} {k l : List Receipt} → m ∷ k ≡ n ∷ l → m ≡ n
head_is {m} {n} {k} {l} e = cc

rest_is : {m n : Receipt} {k l : List Receipt} → m ∷ k ≡ n ∷ l → k ≡ l
rest_is {m} {n} {k} {l} e = cc

-- no accepted Announce lies past the last accepted time, and the newer not before the older
module _ (x : PortIdentity) where
  past_by : (p : Port) (t : ℕ) (a : Notice) (size : length p.slots ≡ 16) (k : List Receipt)
      → ((n : Receipt) (l : List Receipt) → k ≡ n ∷ l → n.at ≤ p.last)
      → (q : Result (ℕ × Record) Refusal) → plan_of p t a ≡ q → (b : Bool) → (n : Receipt) (l : List Receipt)
      → pick (accepts q && b) (record { at = t; notice = a } ∷ k) k ≡ n ∷ l → n.at ≤ (port_after p t q).last
  past_by p t a size k past (Err y) e b n l f = past n l f
  past_by p t a size k past (Ok (i, z)) e true n l f =
      let same : t ≡ n.at = ap (λ (r : Receipt). r.at) (head_is f) in
      omega arith
  past_by p t a size k past (Ok (i, z)) e false n l f = omega (arith, past n l f, (puts p t a size i z e).later)

  past : (hs : List PortEvent) (n : Receipt) (l : List Receipt) → accepted_from x hs ≡ n ∷ l → n.at ≤ (made_by hs).last
  unfolding made_by accepted_from
  past [] n l f = empty_list f
  past (announced t a ∷ older) n l f =
      past_by (made_by older) t a (size_by_lem older) (accepted_from x older) (past older) (plan_of (made_by older) t a) refl (is_by x a) n l f
  past (interval e ∷ older) n l f = past older n l f

  order_by : (older : List PortEvent) (t : ℕ) (a : Notice)
      → ((n o : Receipt) (l : List Receipt) → accepted_from x older ≡ n ∷ o ∷ l → o.at ≤ n.at)
      → (q : Result (ℕ × Record) Refusal) → plan_of (made_by older) t a ≡ q → (b : Bool) → (n o : Receipt) (l : List Receipt)
      → pick (accepts q && b) (record { at = t; notice = a } ∷ accepted_from x older) (accepted_from x older) ≡ n ∷ o ∷ l → o.at ≤ n.at
  order_by older t a ordered (Err y) e b n o l f = ordered n o l f
  order_by older t a ordered (Ok (i, z)) e true n o l f =
      let same : t ≡ n.at = ap (λ (r : Receipt). r.at) (head_is f) in
      omega (arith, past older o l (rest_is f), (puts (made_by older) t a (size_by_lem older) i z e).later)
  order_by older t a ordered (Ok (i, z)) e false n o l f = ordered n o l f

  ordered : (hs : List PortEvent) (n o : Receipt) (l : List Receipt) → accepted_from x hs ≡ n ∷ o ∷ l → o.at ≤ n.at
  unfolding accepted_from
  ordered [] n o l f = empty_list f
  ordered (announced t a ∷ older) n o l f = order_by older t a (ordered older) (plan_of (made_by older) t a) refl (is_by x a) n o l f
  ordered (interval e ∷ older) n o l f = ordered older n o l f

  -- the newest time and the data of the sender's record are those of its latest accepted Announce
  module _ (hs : List PortEvent) (i : ℕ) (h : i < 16) (o : is_of x (slot_of (made_by hs) i) ≡ true) where
    counted : eqb (kept_of (since x hs)).receipts 0 ≡ false
    counted = subst (λ (r : Record). eqb r.receipts 0 ≡ false) (record_is hs x i h o) (of_heard x (slot_of (made_by hs) i) o)

    newest_heard : (n : Receipt) (l : List Receipt) → accepted_from x hs ≡ n ∷ l → (slot_of (made_by hs) i).newest ≡ n.at
    newest_heard n l f = ap (λ (r : Record). r.newest) (record_is hs x i h o) ∙ newest_is (subst (Latest (since x hs)) f (latest x hs)) counted

    notice_heard : (n : Receipt) (l : List Receipt) → accepted_from x hs ≡ n ∷ l → (slot_of (made_by hs) i).notice ≡ n.notice
    notice_heard n l f = ap (λ (r : Record). r.notice) (record_is hs x i h o) ∙ notice_is (subst (Latest (since x hs)) f (latest x hs)) counted

    some_heard : accepted_from x hs ≡ [] → ⊥
    some_heard f = clash (never_heard (subst (Latest (since x hs)) f (latest x hs))) counted

  module _ (w : ℕ) where
    -- so it is live while that lies within the window
    live_heard : (hs : List PortEvent) (t : ℕ) (n : Receipt) (l : List Receipt) (i : ℕ) → window_of (made_by hs).e ≡ w → i < 16 → is_of x (slot_of (made_by hs) i) ≡ true
        → accepted_from x hs ≡ n ∷ l → t - n.at ≤ w → Live (made_by hs) t i
    live_heard hs t n l i we h o f near =
        let r = slot_of (made_by hs) i in
        let new : r.newest ≡ n.at = newest_heard hs i h o n l f in
        rw (of_heard x r o) (le-leb (t - r.newest) (window_of (made_by hs).e) (rw (new, we) near))

    holds_by : (older : List PortEvent) (t : ℕ) (a : Notice) → window_of (made_by older).e ≡ w
        → ((n : Receipt) (l : List Receipt) → accepted_from x older ≡ n ∷ l → (made_by older).last - n.at ≤ w → HasRecord x (made_by older))
        → (q : Result (ℕ × Record) Refusal) → plan_of (made_by older) t a ≡ q → (b : Bool) → is_by x a ≡ b → (n : Receipt) (l : List Receipt)
        → pick (accepts q && b) (record { at = t; notice = a } ∷ accepted_from x older) (accepted_from x older) ≡ n ∷ l
        → (port_after (made_by older) t q).last - n.at ≤ w → HasRecord x (port_after (made_by older) t q)
    holds_by older t a we holds (Err y) e b s n l f near = holds n l f near
    holds_by older t a we holds (Ok (k, z)) e true s n l f near =
        let g = puts (made_by older) t a (size_by_lem older) k z e in
        record {
          at = k;
          inside = g.inside;
          its =
              ap (is_of x) (get_or-set_same (made_by older).slots k z empty_slot (rw (size_by_lem older) g.inside))
              ∙ subst (λ (y : PortIdentity). is_of y z ≡ true) (by_name x a s) g.its;
        }
    holds_by older t a we holds (Ok (k, z)) e false s n l f near =
        let p = made_by older in
        let g = puts p t a (size_by_lem older) k z e in
        let later = g.later in
        let there = holds n l f (omega arith) in
        let i = there.at in
        record {
          at = i;
          inside = there.inside;
          its =
              subst (λ (q : Result (ℕ × Record) Refusal). is_of x (slot_of (port_after p t q) i) ≡ true) e
              (place_kept p t a (size_by_lem older) i x there.its (λ other. live_heard older t n l i we there.inside there.its f near));
        }

    -- A SENDER HAS ITS PLACE while its latest accepted Announce lies within the window of the last accepted time
    pub holds : (hs : List PortEvent) → Steady w hs → (n : Receipt) (l : List Receipt) → accepted_from x hs ≡ n ∷ l → (made_by hs).last - n.at ≤ w → HasRecord x (made_by hs)
    unfolding made_by accepted_from Steady
    holds [] steady n l f near = empty_list f
    holds (announced t a ∷ older) steady n l f near =
        holds_by older t a steady.0 (holds older steady.1) (plan_of (made_by older) t a) refl (is_by x a) refl n l f near
    holds (interval e ∷ older) steady n l f near =
        let h = holds older steady n l f near in
        record { at = h.at; inside = h.inside; its = h.its }

    -- whether an Announce of the sender finds a live record of it shows in the gap before it
    goes_on_by : (older : List PortEvent) (t : ℕ) (o : Receipt) (l : List Receipt) → window_of (made_by older).e ≡ w → Steady w older → (made_by older).last ≤ t
        → accepted_from x older ≡ o ∷ l → (b : Bool) → leb (t - o.at) w ≡ b → has_live x (made_by older) t ≡ b
    goes_on_by older t o l we steady later f true e =
        let near : t - o.at ≤ w = leb-true (t - o.at) w e in
        let there = holds older steady o l f (omega arith) in
        has_live_lem x (made_by older) t (size_by_lem older) there.at there.inside there.its
        (live_heard older t o l there.at we there.inside there.its f near)
    goes_on_by older t o l we steady later f false e =
        has_none x (made_by older) t (size_by_lem older) (λ k h own.
        rw (of_heard x (slot_of (made_by older) k) own, newest_heard older k h own o l f, we) e)

    -- one more accepted Announce
    more : (older : List PortEvent) (t : ℕ) (a : Notice) → window_of (made_by older).e ≡ w → Steady w older → (made_by older).last ≤ t
        → (l : List Receipt) → accepted_from x older ≡ l → since x older ≡ unbroken w l
        → (record { at = t; notice = a } ∷ pick (has_live x (made_by older) t) (since x older) []) ≡ unbroken w (record { at = t; notice = a } ∷ l)
    unfolding unbroken
    more older t a we steady later [] f e = rw e (ap (λ (k : List Receipt). record { at = t; notice = a } ∷ k) (either (has_live x (made_by older) t)))
      where
        either : (b : Bool) → pick {A = List Receipt} b [] [] ≡ []
        either true = refl
        either false = refl
    more older t a we steady later (o ∷ l) f e =
        rw (e, goes_on_by older t o l we steady later f (leb (t - o.at) w) refl)

    since_by : (older : List PortEvent) (t : ℕ) (a : Notice) → window_of (made_by older).e ≡ w → Steady w older → since x older ≡ unbroken w (accepted_from x older)
        → (q : Result (ℕ × Record) Refusal) → plan_of (made_by older) t a ≡ q → (b : Bool)
        → pick (accepts q && b) (record { at = t; notice = a } ∷ pick (has_live x (made_by older) t) (since x older) []) (since x older)
        ≡ unbroken w (pick (accepts q && b) (record { at = t; notice = a } ∷ accepted_from x older) (accepted_from x older))
    since_by older t a we steady e (Err y) f b = e
    since_by older t a we steady e (Ok (k, z)) f false = e
    since_by older t a we steady e (Ok (k, z)) f true =
        more older t a we steady (puts (made_by older) t a (size_by_lem older) k z f).later (accepted_from x older) refl e

    -- A SENDER RESTARTS EXACTLY AFTER A GAP THAT IS LONGER THAN W
    pub since_is : (hs : List PortEvent) → Steady w hs → since x hs ≡ unbroken w (accepted_from x hs)
    unfolding accepted_from since Steady unbroken
    since_is [] steady = refl
    since_is (announced t a ∷ older) steady =
        since_by older t a steady.0 steady.1 (since_is older steady.1) (plan_of (made_by older) t a) refl (is_by x a)
    since_is (interval e ∷ older) steady = since_is older steady

    -- two that lie within a window make the record
    two_kept : (n o : Receipt) (l : List Receipt) → leb (n.at - o.at) w ≡ true → kept_of (unbroken w (n ∷ o ∷ l)) ≡ kept_of (n ∷ o ∷ [])
    unfolding unbroken
    two_kept n o [] e = rw e
    two_kept n o (m ∷ l) e = rw e

-- the candidate is found in a slot
pub record FoundIn (port : ℕ) (p : Port) (t : ℕ) (c : Candidate) : Type 0 where
  pub at : ℕ
  pub inside : at < 16
  pub is : candidate_in port p at t ≡ Ok (Some c)

module _ (hs : List PortEvent) (port w t : ℕ) (steady : Steady w hs) (we : window_of (made_by hs).e ≡ w) (later : (made_by hs).last ≤ t) (x : PortIdentity) where
  found_in : (c : Candidate) (n o : Receipt) (l : List Receipt) → accepted_from x hs ≡ n ∷ o ∷ l → t - o.at ≤ w → is_distant n.notice ≡ false → ◌≡◌ {A = Result (Option Candidate) Refusal} (Ok (Some (candidate_of port (kept_of (n ∷ o ∷ l))))) (Ok (Some c))
      → FoundIn port (made_by hs) t c
  unfolding candidate_in
  found_in c n o l f near close is =
      let a = past x hs n (o ∷ l) f in
      let b = ordered x hs n o l f in
      let there = holds x w hs steady n (o ∷ l) f (omega arith) in
      let kept : slot_of (made_by hs) there.at ≡ kept_of (n ∷ o ∷ []) =
      record_is hs x there.at there.inside there.its
      ∙ ap kept_of (since_is x w hs steady ∙ ap (unbroken w) f)
      ∙ two_kept x w n o l (le-leb (n.at - o.at) w (omega arith)) in
      let q : leb (t - o.at) (window_of (made_by hs).e) ≡ true = le-leb (t - o.at) (window_of (made_by hs).e) (rw we near) in
      record { at = there.at; inside = there.inside; is = rw (kept, q, close) is }

  when_by : (c : Candidate) (l : List Receipt) → accepted_from x hs ≡ l → candidate_by port w t l ≡ Ok (Some c) → FoundIn port (made_by hs) t c
  when_by c [] f e = absurd (let z : ◌≡◌ {A = ℕ} 0 1 = cc in omega arith)
  when_by c (n ∷ []) f e = absurd (let z : ◌≡◌ {A = ℕ} 0 1 = cc in omega arith)
  when_by c (n ∷ o ∷ l) f e =
      cases (leb (t - o.at) w && not (is_distant n.notice))
      (λ h.
      let b = both (leb (t - o.at) w) (not (is_distant n.notice)) h in
      found_in c n o l f (leb-true _ _ b.0) (not-true _ b.1) (rw h at e))
      (λ h. absurd (let g : ◌≡◌ {A = Result (Option Candidate) Refusal} (Ok None) (Ok (Some c)) = rw h at e in let z : ◌≡◌ {A = ℕ} 0 1 = cc in omega arith))

  -- and, where the interval is not changed, WHOSE TWO LATEST ACCEPTED ANNOUNCES LIE SO, AND WHO IS NOT DISTANT, IS A CANDIDATE, at every time that is not refused
  pub candidate_when : (c : Candidate) → candidate_by port w t (accepted_from x hs) ≡ Ok (Some c) → FoundIn port (made_by hs) t c
  candidate_when c e = when_by c (accepted_from x hs) refl e

-- ---- 12 by history
module _ (hs : List PortEvent) (w t : ℕ) (a : Notice) (steady : Steady w hs) (we : window_of (made_by hs).e ≡ w) (later : (made_by hs).last ≤ t) where
  abbrev x : PortIdentity
  x = a.sender

  stale_by_lem : (l : List Receipt) → accepted_from x hs ≡ l → stale_by w t a l ≡ true → plan_of (made_by hs) t a ≡ Err Stale
  stale_by_lem [] f e = clash e refl
  stale_by_lem (n ∷ l) f e =
      let b = both (leb (t - n.at) w) (not (is_newer a.sequence n.notice.sequence)) e in
      let near : t - n.at ≤ w = leb-true (t - n.at) w b.0 in
      let there = holds x w hs steady n l f (omega arith) in
      intake.stale_when (made_by hs) t a (size_by_lem hs) (single_by hs)
      (record {
        at = there.at;
        inside = there.inside;
        later = later;
        own = there.its;
        live = live_heard x w hs t n l there.at we there.inside there.its f near;
        older = rw (notice_heard x hs there.at there.inside there.its n l f) (not-true _ b.1);
      })

  only_by : (s : intake.IsStale (made_by hs) t a) (l : List Receipt) → accepted_from x hs ≡ l → stale_by w t a l ≡ true
  only_by s [] f = absurd (some_heard x hs s.at s.inside s.own f)
  only_by s (n ∷ l) f =
      let r = slot_of (made_by hs) s.at in
      let fresh : leb (t - r.newest) (window_of (made_by hs).e) ≡ true = (both (not (eqb r.receipts 0)) (leb (t - r.newest) (window_of (made_by hs).e)) s.live).1 in
      let near : leb (t - n.at) w ≡ true = rw (newest_heard x hs s.at s.inside s.own n l f, we) at fresh in
      let old : is_newer a.sequence n.notice.sequence ≡ false = rw (notice_heard x hs s.at s.inside s.own n l f) at s.older in
      rw (near, old)

  -- 12 EXACTLY WHEN THE SENDER'S LATEST ACCEPTED ANNOUNCE LIES WITHIN W AND THE SEQUENCEID IS NOT NEWER THAN ITS
  pub stale_when : stale_by w t a (accepted_from x hs) ≡ true → plan_of (made_by hs) t a ≡ Err Stale
  stale_when e = stale_by_lem (accepted_from x hs) refl e

  pub stale_only : plan_of (made_by hs) t a ≡ Err Stale → stale_by w t a (accepted_from x hs) ≡ true
  stale_only e = only_by (intake.stale_only (made_by hs) t a (size_by_lem hs) e) (accepted_from x hs) refl
