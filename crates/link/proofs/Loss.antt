-- What the loss of a message does. Where it is the message of its sender's present state, the sender's timeout makes it good. A CALIBRATE whose sender
-- has gone on to CALIBRATED, and a WR_MODE_ON, are not sent again: whatever is delivered, lost or done afterwards, nothing brings the two sides
-- on, and each side's fourth timeout takes it to IDLE with mode off; a master that has sent WR_MODE_ON stays in IDLE with mode on. 01 has no remedy; a
-- new start brings the link up.
use Prim.Native.Nat.{ℕ, zero, suc, ◌+◌, ◌≤◌, ◌<◌}
use mathlib.Core.Path.{◌≡◌, refl, ap, sym, subst, ◌∙◌}
use mathlib.Core.Bool.{Bool, true, false, ◌||◌, and-false, or-false}
use mathlib.Core.List.{List, [], ◌∷◌, ◌++◌}
use native.Mathlib.Omega.{arith}
use lib.Dec.{eqb, ltb}
use borrow.Author.Tests.{ltb-true, ltb-false, lt-ltb, le-ltb}
use Rattle.refusal.specs.Choice.{pick}
use Rattle.tlv.specs.declared.wr.LinkMessage.{LinkMessage}
use Rattle.tlv.specs.declared.wr.LinkMessage.TheVariants as message
use Rattle.tlv.specs.Numbers.{SLAVE-PRESENT, LOCKED, CALIBRATE, CALIBRATED, WR-MODE-ON, link_number}
use Rattle.link.specs.declared.Role.{Role}
use Rattle.link.specs.declared.Role.TheVariants.{Slave, Master}
use Rattle.link.specs.declared.State.{State}
use Rattle.link.specs.declared.State.TheVariants.{Idle, Locked, Calibrated}
use Rattle.link.specs.declared.Link.{Link}
use Rattle.link.specs.declared.Settings.{Settings}
use Rattle.link.specs.declared.Event.{Event}
use Rattle.link.specs.declared.Event.TheVariants.{Message, Done, Timeout}
use Rattle.link.specs.declared.Sends.{Sends}
use Rattle.link.specs.declared.Sends.TheVariants.{Nothing}
use Rattle.link.specs.declared.Stepped.{Stepped}
use Rattle.link.specs.declared.Move.{Move}
use Rattle.link.specs.declared.Move.TheVariants.{Ignore, Enter, LinkOn, Resend, Leave}
use Rattle.link.specs.declared.Waits.TheVariants as waits
use Rattle.link.specs.Machine.{is_idle, CanSlave, CanMaster, on_start, on_slave_present, on_done, waits_of, asked, calibrate_of, calibrated_of, message_of, ignored, in_state, fresh, taken, stepped}
use Rattle.link.specs.Conversation.{World, Act, ToMaster, ToSlave, SlaveDone, MasterDone, messages, Can, at_slave, at_master, sent_to_master, sent_to_slave, master_hears, slave_hears, act, Comes, begins, happenings}
use Rattle.link.specs.Loss.{Happening, does, SlaveTimesOut, MasterTimesOut, LostToMaster, LostToSlave, but_first, happen, happen_all, slave_once, master_once, slave_timeouts, master_timeouts, recounted, recount, gives_up, between, master_up_alone, Only, Ends}
use Rattle.link.proofs.StepLaws.{third_resends, fourth_leaves, idle_ignores}
use Rattle.link.proofs.Conversation.{link_comes_up}
use Rattle.link.proofs.Witnesses.{port}

-- Made good: the message of the sender's present state is lost, and its timeout sends it again.

module _ (ours theirs : Settings) (w : World) where
  pub slave_loss : (ms : List LinkMessage) → w.to_master ≡ ms ++ messages (message_of ours w.slave.state) → is_idle w.slave.state ≡ false → w.slave.retries < 3 →
      happen ours theirs SlaveTimesOut (sent_to_master ours theirs ms w) ≡ recount (w.slave.retries + 1) w.master.retries w
  slave_loss ms on i r =
      let t = third_resends ours w.slave Timeout i r in
      λ k.
      record {
        slave = (t k).link;
        master = w.master;
        to_master = (ap (λ (x : Stepped). ms ++ messages x.sends) t ∙ sym on) k;
        to_slave = w.to_slave;
        slave_up = (ap (λ (x : Stepped). w.slave_up || x.report) t ∙ or-false w.slave_up) k;
        master_up = w.master_up;
      }

  pub master_loss : (ms : List LinkMessage) → w.to_slave ≡ ms ++ messages (message_of theirs w.master.state) → is_idle w.master.state ≡ false → w.master.retries < 3 →
      happen ours theirs MasterTimesOut (sent_to_slave ours theirs ms w) ≡ recount w.slave.retries (w.master.retries + 1) w
  master_loss ms on i r =
      let t = third_resends theirs w.master Timeout i r in
      λ k.
      record {
        slave = w.slave;
        master = (t k).link;
        to_master = w.to_master;
        to_slave = (ap (λ (x : Stepped). ms ++ messages x.sends) t ∙ sym on) k;
        slave_up = w.slave_up;
        master_up = (ap (λ (x : Stepped). w.master_up || x.report) t ∙ or-false w.master_up) k;
      }

-- A link with another retry count takes the same step, the count aside; so the link comes up all the same.

abbrev counting : ℕ → Stepped → Stepped
counting n x = record { link = recounted n x.link; sends = x.sends; report = x.report }

taken_count : (s : Settings) (l : Link) (n : ℕ) (m : Move) → (k : ℕ) × (taken s (recounted n l) m ≡ counting k (taken s l m))
taken_count s l n Ignore = (n, refl)
taken_count s l n (Enter role state) = (0, refl)
taken_count s l n LinkOn = (0, refl)
taken_count s l n (Resend r) = (r, refl)
taken_count s l n Leave = (0, refl)

message_count : (s : Settings) (l : Link) (n number : ℕ) → (k : ℕ) × (stepped s (recounted n l) (Message number) ≡ counting k (stepped s l (Message number)))
unfolding stepped
message_count s l n number = taken_count s l n (asked s.config l (Message number))

done_count : (s : Settings) (l : Link) (n : ℕ) → (k : ℕ) × (stepped s (recounted n l) Done ≡ counting k (stepped s l Done))
unfolding stepped
done_count s l n = taken_count s l n (asked s.config l Done)

abbrev Recounts : World → World → Type 0
Recounts v w = (a : ℕ) × (b : ℕ) × (v ≡ recount a b w)

module _ (s t : Settings) (i j : ℕ) where
  at_slave_lem : (e : Event) (w : World) → ((k : ℕ) × (stepped s (recounted i w.slave) e ≡ counting k (stepped s w.slave e))) → Recounts (at_slave s t e (recount i j w)) (at_slave s t e w)
  at_slave_lem e w x =
      (x.0, j, λ h. record { slave = (x.1 h).link; master = recounted j w.master; to_master = w.to_master ++ messages (x.1 h).sends; to_slave = w.to_slave; slave_up = w.slave_up || (x.1 h).report; master_up = w.master_up })

  at_master_lem : (e : Event) (w : World) → ((k : ℕ) × (stepped t (recounted j w.master) e ≡ counting k (stepped t w.master e))) → Recounts (at_master s t e (recount i j w)) (at_master s t e w)
  at_master_lem e w x =
      (i, x.0, λ h. record { slave = recounted i w.slave; master = (x.1 h).link; to_master = w.to_master; to_slave = w.to_slave ++ messages (x.1 h).sends; slave_up = w.slave_up; master_up = w.master_up || (x.1 h).report })

  master_hears_lem : (ms : List LinkMessage) (w : World) → Recounts (master_hears s t ms (recount i j w)) (master_hears s t ms w)
  master_hears_lem [] w = (i, j, refl)
  master_hears_lem (m ∷ ms) w = at_master_lem (Message (link_number m)) (sent_to_master s t ms w) (message_count t w.master j (link_number m))

  slave_hears_lem : (ms : List LinkMessage) (w : World) → Recounts (slave_hears s t ms (recount i j w)) (slave_hears s t ms w)
  slave_hears_lem [] w = (i, j, refl)
  slave_hears_lem (m ∷ ms) w = at_slave_lem (Message (link_number m)) (sent_to_slave s t ms w) (message_count s w.slave i (link_number m))

  acts : (a : Act) (w : World) → Recounts (act s t a (recount i j w)) (act s t a w)
  acts ToMaster w = master_hears_lem w.to_master w
  acts ToSlave w = slave_hears_lem w.to_slave w
  acts SlaveDone w = at_slave_lem Done w (done_count s w.slave i)
  acts MasterDone w = at_master_lem Done w (done_count t w.master j)

-- the same can happen
can_recounted : (a : Act) (i j : ℕ) (w : World) → Can a (recount i j w) ≡ true → Can a w ≡ true
can_recounted ToMaster i j w c = c
can_recounted ToSlave i j w c = c
can_recounted SlaveDone i j w c = c
can_recounted MasterDone i j w c = c

pub comes_recounted : (s t : Settings) (n i j : ℕ) (w : World) → Comes s t n w → Comes s t n (recount i j w)
unfolding Comes
comes_recounted s t zero i j w c = c
comes_recounted s t (suc n) i j w c = (
  c.0,
  λ a h.
      let x = acts s t i j a w in
      subst (λ (v : World). Comes s t n v) (sym x.2) (comes_recounted s t n x.0 x.1 (act s t a w) (c.1 a (can_recounted a i j w h))),
)

-- so does a link whose sender's message was lost and sent again
pub comes_after_slave_loss : (s t : Settings) (n : ℕ) (w : World) (ms : List LinkMessage) → Comes s t n w →
    w.to_master ≡ ms ++ messages (message_of s w.slave.state) → is_idle w.slave.state ≡ false → w.slave.retries < 3 →
    Comes s t n (happen s t SlaveTimesOut (sent_to_master s t ms w))
comes_after_slave_loss s t n w ms c on i r =
    subst (λ (v : World). Comes s t n v) (sym (slave_loss s t w ms on i r)) (comes_recounted s t n (w.slave.retries + 1) w.master.retries w c)

pub comes_after_master_loss : (s t : Settings) (n : ℕ) (w : World) (ms : List LinkMessage) → Comes s t n w →
    w.to_slave ≡ ms ++ messages (message_of t w.master.state) → is_idle w.master.state ≡ false → w.master.retries < 3 →
    Comes s t n (happen s t MasterTimesOut (sent_to_slave s t ms w))
comes_after_master_loss s t n w ms c on i r =
    subst (λ (v : World). Comes s t n v) (sym (master_loss s t w ms on i r)) (comes_recounted s t n w.slave.retries (w.master.retries + 1) w c)

-- Not made good. A side that nothing brings on: `at n` is its link after n timeouts, it hears messages of one number alone and ignores them, and
-- its timeouts send messages of one number alone.

record Side (s : Settings) (at : ℕ → Link) (says hears : ℕ) : Type 0 where
  deaf : (n : ℕ) → stepped s (at n) (Message hears) ≡ ignored (at n)
  undone : (n : ℕ) → stepped s (at n) Done ≡ ignored (at n)
  counts : (n : ℕ) → (stepped s (at n) Timeout).link ≡ at (n + 1)
  only : (n : ℕ) → Only says (messages (stepped s (at n) Timeout).sends)
  quiet : (n : ℕ) → (stepped s (at n) Timeout).report ≡ false

only_both : (n : ℕ) (ms ns : List LinkMessage) → Only n ms → Only n ns → Only n (ms ++ ns)
unfolding Only
only_both n [] ns p q = q
only_both n (m ∷ ms) ns p q = (p.0, only_both n ms ns p.1 q)

only_fewer : (n : ℕ) (ms : List LinkMessage) → Only n ms → Only n (but_first ms)
unfolding Only
only_fewer n [] p = p
only_fewer n (m ∷ ms) p = p.1

none : (n : ℕ) → Only n []
unfolding Only
none n = tt

-- Two such sides, each hearing what the other says, stay so whatever happens.

module _ (s t : Settings) (slaveAt masterAt : ℕ → Link) (a b : ℕ) (slave : Side s slaveAt a b) (master : Side t masterAt b a) (slave_up master_up : Bool) where
  record Stays (i j : ℕ) (w : World) : Type 0 where
    slave_at : w.slave ≡ slaveAt i
    master_at : w.master ≡ masterAt j
    to_master_lem : Only a w.to_master
    to_slave_lem : Only b w.to_slave
    slave_was : w.slave_up ≡ slave_up
    master_was : w.master_up ≡ master_up

  -- an event that is ignored, and a timeout
  at_slave_event : (e : Event) (i k j : ℕ) (w : World) → Stays i j w → (stepped s (slaveAt i) e).link ≡ slaveAt k → Only a (messages (stepped s (slaveAt i) e).sends) → (stepped s (slaveAt i) e).report ≡ false →
      Stays k j (at_slave s t e w)
  at_slave_event e i k j w h l o r =
      let same : stepped s w.slave e ≡ stepped s (slaveAt i) e = ap (λ (x : Link). stepped s x e) h.slave_at in
      record {
        slave_at = ap (λ (x : Stepped). x.link) same ∙ l;
        master_at = h.master_at;
        to_master_lem = only_both a w.to_master (messages (stepped s w.slave e).sends) h.to_master_lem (rw same o);
        to_slave_lem = h.to_slave_lem;
        slave_was = ap (λ (x : Stepped). w.slave_up || x.report) same ∙ ap (λ (x : Bool). w.slave_up || x) r ∙ or-false w.slave_up ∙ h.slave_was;
        master_was = h.master_was;
      }

  at_master_event : (e : Event) (i j k : ℕ) (w : World) → Stays i j w → (stepped t (masterAt j) e).link ≡ masterAt k → Only b (messages (stepped t (masterAt j) e).sends) → (stepped t (masterAt j) e).report ≡ false →
      Stays i k (at_master s t e w)
  at_master_event e i j k w h l o r =
      let same : stepped t w.master e ≡ stepped t (masterAt j) e = ap (λ (x : Link). stepped t x e) h.master_at in
      record {
        slave_at = h.slave_at;
        master_at = ap (λ (x : Stepped). x.link) same ∙ l;
        to_master_lem = h.to_master_lem;
        to_slave_lem = only_both b w.to_slave (messages (stepped t w.master e).sends) h.to_slave_lem (rw same o);
        slave_was = h.slave_was;
        master_was = ap (λ (x : Stepped). w.master_up || x.report) same ∙ ap (λ (x : Bool). w.master_up || x) r ∙ or-false w.master_up ∙ h.master_was;
      }

  slave_ignores : (e : Event) (i j : ℕ) (w : World) → Stays i j w → stepped s (slaveAt i) e ≡ ignored (slaveAt i) → Stays i j (at_slave s t e w)
  slave_ignores e i j w h q =
      at_slave_event e i i j w h (ap (λ (x : Stepped). x.link) q) (rw q (none a)) (ap (λ (x : Stepped). x.report) q)

  master_ignores : (e : Event) (i j : ℕ) (w : World) → Stays i j w → stepped t (masterAt j) e ≡ ignored (masterAt j) → Stays i j (at_master s t e w)
  master_ignores e i j w h q =
      at_master_event e i j j w h (ap (λ (x : Stepped). x.link) q) (rw q (none b)) (ap (λ (x : Stepped). x.report) q)

  to_master_only : (ms : List LinkMessage) (i j : ℕ) (w : World) → Only a ms → Stays i j w → Stays i j (sent_to_master s t ms w)
  to_master_only ms i j w o h =
      record { slave_at = h.slave_at; master_at = h.master_at; to_master_lem = o; to_slave_lem = h.to_slave_lem; slave_was = h.slave_was; master_was = h.master_was }

  to_slave_only : (ms : List LinkMessage) (i j : ℕ) (w : World) → Only b ms → Stays i j w → Stays i j (sent_to_slave s t ms w)
  to_slave_only ms i j w o h =
      record { slave_at = h.slave_at; master_at = h.master_at; to_master_lem = h.to_master_lem; to_slave_lem = o; slave_was = h.slave_was; master_was = h.master_was }

  master_heard : (ms : List LinkMessage) (i j : ℕ) (w : World) → Only a ms → Stays i j w → Stays i j (master_hears s t ms w)
  unfolding Only
  master_heard [] i j w o h = h
  master_heard (m ∷ ms) i j w o h =
      master_ignores (Message (link_number m)) i j (sent_to_master s t ms w) (to_master_only ms i j w o.1 h) (rw o.0 (master.deaf j))

  slave_heard : (ms : List LinkMessage) (i j : ℕ) (w : World) → Only b ms → Stays i j w → Stays i j (slave_hears s t ms w)
  unfolding Only
  slave_heard [] i j w o h = h
  slave_heard (m ∷ ms) i j w o h =
      slave_ignores (Message (link_number m)) i j (sent_to_slave s t ms w) (to_slave_only ms i j w o.1 h) (rw o.0 (slave.deaf i))

  did : (x : Act) (i j : ℕ) (w : World) → Stays i j w → Stays i j (act s t x w)
  did ToMaster i j w h = master_heard w.to_master i j w h.to_master_lem h
  did ToSlave i j w h = slave_heard w.to_slave i j w h.to_slave_lem h
  did SlaveDone i j w h = slave_ignores Done i j w h (slave.undone i)
  did MasterDone i j w h = master_ignores Done i j w h (master.undone j)

  moved : (i k j l : ℕ) (w : World) → i ≡ k → j ≡ l → Stays i j w → Stays k l w
  moved i k j l w p q h = subst (λ (n : ℕ). Stays k n w) q (subst (λ (n : ℕ). Stays n j w) p h)

  happened : (x : Happening) (i j : ℕ) (w : World) → Stays i j w → Stays (i + slave_once x) (j + master_once x) (happen s t x w)
  happened (does x) i j w h = moved i (i + 0) j (j + 0) _ (omega arith) (omega arith) (did x i j w h)
  happened SlaveTimesOut i j w h =
      moved (i + 1) (i + 1) j (j + 0) _ refl (omega arith) (at_slave_event Timeout i (i + 1) j w h (slave.counts i) (slave.only i) (slave.quiet i))
  happened MasterTimesOut i j w h =
      moved i (i + 0) (j + 1) (j + 1) _ (omega arith) refl (at_master_event Timeout i j (j + 1) w h (master.counts j) (master.only j) (master.quiet j))
  happened LostToMaster i j w h =
      moved i (i + 0) j (j + 0) _ (omega arith) (omega arith) (to_master_only (but_first w.to_master) i j w (only_fewer a w.to_master h.to_master_lem) h)
  happened LostToSlave i j w h =
      moved i (i + 0) j (j + 0) _ (omega arith) (omega arith) (to_slave_only (but_first w.to_slave) i j w (only_fewer b w.to_slave h.to_slave_lem) h)

  all_happened : (hs : List Happening) (i j : ℕ) (w : World) → Stays i j w → Stays (i + slave_timeouts hs) (j + master_timeouts hs) (happen_all s t hs w)
  unfolding happen_all slave_timeouts master_timeouts
  all_happened [] i j w h = moved i (i + 0) j (j + 0) w (omega arith) (omega arith) h
  all_happened (x ∷ hs) i j w h =
      moved (i + slave_once x + slave_timeouts hs) (i + (slave_once x + slave_timeouts hs)) (j + master_once x + master_timeouts hs) (j + (master_once x + master_timeouts hs)) _ (omega arith) (omega arith)
      (all_happened hs (i + slave_once x) (j + master_once x) (happen s t x w) (happened x i j w h))

  ended : (hs : List Happening) (w : World) → Stays 0 0 w → Ends (happen_all s t hs w) (slaveAt (slave_timeouts hs)) (masterAt (master_timeouts hs)) slave_up master_up
  ended hs w h =
      let e = all_happened hs 0 0 w h in
      record {
        slave_is = e.slave_at ∙ ap slaveAt (omega arith);
        master_is = e.master_at ∙ ap masterAt (omega arith);
        slave_up_lem = e.slave_was;
        master_up_lem = e.master_was;
      }

-- A link that waits for a message that does not come, and one in IDLE.

idle_waits : (role : Role) → on_done (waits_of role Idle) ≡ Ignore
idle_waits Slave = refl
idle_waits Master = refl

module _ (s : Settings) (role : Role) (mode : Bool) where
  idle_deaf : (hears : ℕ) → eqb hears SLAVE-PRESENT ≡ false → stepped s (in_state role Idle mode) (Message hears) ≡ ignored (in_state role Idle mode)
  unfolding stepped on_slave_present
  idle_deaf hears h = rw (h, and-false (CanMaster s.config))

  idle_undone : stepped s (in_state role Idle mode) Done ≡ ignored (in_state role Idle mode)
  unfolding stepped
  idle_undone = rw (idle_waits role)

  idle_side : (says hears : ℕ) → eqb hears SLAVE-PRESENT ≡ false → Side s (λ n. in_state role Idle mode) says hears
  idle_side says hears h =
      let t = idle_ignores s (in_state role Idle mode) Timeout refl in
      record {
        deaf = λ n. idle_deaf hears h;
        undone = λ n. idle_undone;
        counts = λ n. ap (λ (x : Stepped). x.link) t;
        only = λ n. rw t (none says);
        quiet = λ n. ap (λ (x : Stepped). x.report) t;
      }

module _ (s : Settings) (role : Role) (state : State) (mode : Bool) (busy : is_idle state ≡ false) where
  abbrev counted : ℕ → Link
  counted n = record { role = role; state = state; retries = n; mode = mode }

  abbrev sent_by : ℕ → Sends
  sent_by n = pick (ltb n 3) (message_of s state) Nothing

  -- a timeout, the first three, the fourth and the later ones
  times_out : (n : ℕ) (few more : Bool) → ltb n 3 ≡ few → ltb n 4 ≡ more →
      stepped s (pick more (counted n) (in_state role Idle false)) Timeout ≡ record { link = gives_up role state mode (n + 1); sends = pick few (message_of s state) Nothing; report = false }
  times_out n true true f m =
      let h = ltb-true n 3 f in
      rw (lt-ltb (n + 1) 4 (omega arith)) (third_resends s (counted n) Timeout busy h)
  times_out n true false f m = let h = ltb-true n 3 f in let k = ltb-false n 4 m in absurd (omega arith)
  times_out n false true f m =
      let h = ltb-false n 3 f in
      let k = ltb-true n 4 m in
      rw (le-ltb (n + 1) 4 (omega arith)) (fourth_leaves s (counted n) Timeout busy (omega arith))
  times_out n false false f m =
      let k = ltb-false n 4 m in
      rw (le-ltb (n + 1) 4 (omega arith)) (idle_ignores s (in_state role Idle false) Timeout refl)

  timed_out : (n : ℕ) → stepped s (gives_up role state mode n) Timeout ≡ record { link = gives_up role state mode (n + 1); sends = sent_by n; report = false }
  timed_out n = times_out n (ltb n 3) (ltb n 4) refl refl

  only_own : (says : ℕ) (few : Bool) → Only says (messages (message_of s state)) → Only says (messages (pick few (message_of s state) Nothing))
  only_own says true o = o
  only_own says false o = none says

  module _ (awaited : ℕ) (then : Move) (waiting : waits_of role state ≡ waits.Message awaited then) where
    waits_deaf : (hears n : ℕ) (more : Bool) → eqb hears awaited ≡ false → eqb hears SLAVE-PRESENT ≡ false →
        stepped s (pick more (counted n) (in_state role Idle false)) (Message hears) ≡ ignored (pick more (counted n) (in_state role Idle false))
    unfolding stepped
    waits_deaf hears n true o p = rw (busy, waiting, o)
    waits_deaf hears n false o p = idle_deaf s role false hears p

    waits_undone : (n : ℕ) (more : Bool) → stepped s (pick more (counted n) (in_state role Idle false)) Done ≡ ignored (pick more (counted n) (in_state role Idle false))
    unfolding stepped
    waits_undone n true = rw waiting
    waits_undone n false = idle_undone s role false

    waiting_side : (says hears : ℕ) → eqb hears awaited ≡ false → eqb hears SLAVE-PRESENT ≡ false → Only says (messages (message_of s state)) → Side s (gives_up role state mode) says hears
    waiting_side says hears o p q =
        record {
          deaf = λ n. waits_deaf hears n (ltb n 4) o p;
          undone = λ n. waits_undone n (ltb n 4);
          counts = λ n. ap (λ (x : Stepped). x.link) (timed_out n);
          only = λ n. rw (timed_out n) (only_own says (ltb n 3) q);
          quiet = λ n. ap (λ (x : Stepped). x.report) (timed_out n);
        }

-- The three.

module _ (s t : Settings) (was theirs : Bool) (hs : List Happening) where
  one_of : (n : ℕ) (m : LinkMessage) → link_number m ≡ n → Only n (m ∷ [])
  unfolding Only
  one_of n m e = (e, tt)

  -- The slave's CALIBRATE is lost, and the slave has gone on to CALIBRATED: the master waits for it in CALIBRATED, the slave for WR_MODE_ON.
  pub slave_calibrate_lost :
      Ends (happen_all s t (LostToMaster ∷ hs) (between was theirs Calibrated Calibrated (calibrate_of s ∷ calibrated_of s ∷ []) []))
      (gives_up Slave Calibrated was (slave_timeouts hs)) (gives_up Master Calibrated theirs (master_timeouts hs)) false false
  unfolding happen_all
  slave_calibrate_lost =
      ended s t (gives_up Slave Calibrated was) (gives_up Master Calibrated theirs) CALIBRATED CALIBRATED
      (waiting_side s Slave Calibrated was refl WR-MODE-ON LinkOn refl CALIBRATED CALIBRATED refl refl (one_of CALIBRATED (calibrated_of s) refl))
      (waiting_side t Master Calibrated theirs refl CALIBRATE _ refl CALIBRATED CALIBRATED refl refl (one_of CALIBRATED (calibrated_of t) refl))
      false false hs (between was theirs Calibrated Calibrated (calibrated_of s ∷ []) [])
      (record { slave_at = refl; master_at = refl; to_master_lem = one_of CALIBRATED (calibrated_of s) refl; to_slave_lem = none CALIBRATED; slave_was = refl; master_was = refl })

  -- The master's CALIBRATE is lost, and the master has gone on to CALIBRATED: the slave waits for it in LOCKED, the master for the slave's.
  pub master_calibrate_lost :
      Ends (happen_all s t (LostToSlave ∷ hs) (between was theirs Locked Calibrated [] (calibrate_of t ∷ calibrated_of t ∷ [])))
      (gives_up Slave Locked was (slave_timeouts hs)) (gives_up Master Calibrated theirs (master_timeouts hs)) false false
  unfolding happen_all
  master_calibrate_lost =
      ended s t (gives_up Slave Locked was) (gives_up Master Calibrated theirs) LOCKED CALIBRATED
      (waiting_side s Slave Locked was refl CALIBRATE _ refl LOCKED CALIBRATED refl refl (one_of LOCKED message.Locked refl))
      (waiting_side t Master Calibrated theirs refl CALIBRATE _ refl CALIBRATED LOCKED refl refl (one_of CALIBRATED (calibrated_of t) refl))
      false false hs (between was theirs Locked Calibrated [] (calibrated_of t ∷ []))
      (record { slave_at = refl; master_at = refl; to_master_lem = none LOCKED; to_slave_lem = one_of CALIBRATED (calibrated_of t) refl; slave_was = refl; master_was = refl })

  -- WR_MODE_ON is lost: the master's link is on, the slave waits for it in CALIBRATED.
  pub mode_on_lost :
      Ends (happen_all s t (LostToSlave ∷ hs) (master_up_alone was (message.ModeOn ∷ [])))
      (gives_up Slave Calibrated was (slave_timeouts hs)) (in_state Master Idle true) false true
  unfolding happen_all
  mode_on_lost =
      ended s t (gives_up Slave Calibrated was) (λ n. in_state Master Idle true) CALIBRATED CALIBRATED
      (waiting_side s Slave Calibrated was refl WR-MODE-ON LinkOn refl CALIBRATED CALIBRATED refl refl (one_of CALIBRATED (calibrated_of s) refl))
      (idle_side t Master true CALIBRATED CALIBRATED refl)
      false true hs (master_up_alone was [])
      (record { slave_at = refl; master_at = refl; to_master_lem = none CALIBRATED; to_slave_lem = none CALIBRATED; slave_was = refl; master_was = refl })

-- from the fourth timeout on a link that gives up is in IDLE with mode off
pub gave_up : (role : Role) (state : State) (mode : Bool) (n : ℕ) → 4 ≤ n → gives_up role state mode n ≡ in_state role Idle false
gave_up role state mode n h = rw (le-ltb n 4 h)

-- and there a new start brings the link up, also where the master's mode is on
pub comes_up_again : (s t : Settings) (theirs : Bool) → CanSlave s.config ≡ true → CanMaster t.config ≡ true →
    Comes s t (happenings s t) (begins s t (in_state Slave Idle false) (in_state Master Idle theirs))
comes_up_again s t theirs cs cm = link_comes_up s t (in_state Slave Idle false) (in_state Master Idle theirs) refl refl cs cm refl

-- The conversation comes to the three points: a slave, or a master, that needs no calibration has sent CALIBRATE and CALIBRATED; a master is up.
pub record Reached : Type 0 where
  pub slave_sent_both : happen_all (port 2 false) (port 1 true) (does ToMaster ∷ does ToSlave ∷ does SlaveDone ∷ does ToMaster ∷ does ToSlave ∷ does MasterDone ∷ does ToSlave ∷ []) (begins (port 2 false) (port 1 true) fresh fresh)
      ≡ between false false Calibrated Calibrated (message.Calibrate 0 11 12 ∷ message.Calibrated 13 14 ∷ []) []
  pub master_sent_both : happen_all (port 2 true) (port 1 false) (does ToMaster ∷ does ToSlave ∷ does SlaveDone ∷ does ToMaster ∷ []) (begins (port 2 true) (port 1 false) fresh fresh)
      ≡ between false false Locked Calibrated [] (message.Calibrate 0 11 12 ∷ message.Calibrated 13 14 ∷ [])
  pub master_went_on : happen_all (port 2 false) (port 1 false) (does ToMaster ∷ does ToSlave ∷ does SlaveDone ∷ does ToMaster ∷ does ToSlave ∷ does ToSlave ∷ does ToMaster ∷ does ToMaster ∷ []) (begins (port 2 false) (port 1 false) fresh fresh)
      ≡ master_up_alone false (message.ModeOn ∷ [])

pub reached : Reached
unfolding happen_all stepped on_start on_slave_present
reached = record { slave_sent_both = refl; master_sent_both = refl; master_went_on = refl }
