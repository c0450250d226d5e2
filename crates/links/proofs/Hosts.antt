-- Two hosts bring the link up on both sides, as the two links do (link/proofs/Conversation.antt): their words show those links at every moment.
use Rattle.std.specs.Prelude.{Ok}
use Prim.Native.Nat.{ℕ, zero, suc}
use mathlib.Core.Path.{◌≡◌, refl, ap, sym, ◌∙◌}
use mathlib.Core.Bool.{Bool, true, false, not, ◌&&◌, ◌||◌}
use mathlib.Core.List.{List, [], ◌∷◌, ◌++◌, map}
use lib.ListN.{length}
use Rattle.refusal.specs.Choice.{pick, refuse}
use Rattle.tlv.specs.declared.wr.LinkMessage.{LinkMessage}
use Rattle.tlv.specs.declared.wr.LinkMessage.TheVariants as message
use Rattle.tlv.specs.Numbers.{link_number}
use Rattle.link.specs.declared.Role.{Role}
use Rattle.link.specs.declared.Role.TheVariants.{Slave, Master}
use Rattle.link.specs.declared.State.{State}
use Rattle.link.specs.declared.State.TheVariants.{Idle, Present, MLock, SLock, Locked, Calibration, Calibrated, RespCalibReq}
use Rattle.link.specs.declared.Link.{Link}
use Rattle.link.specs.declared.Settings.{Settings}
use Rattle.link.specs.declared.Event.{Event}
use Rattle.link.specs.declared.Event.TheVariants.{Start, Message, Done}
use Rattle.link.specs.declared.Sends.TheVariants.{Two}
use Rattle.link.specs.declared.Move.{Move}
use Rattle.link.specs.declared.Move.TheVariants.{Ignore, Enter, LinkOn, Resend, Leave}
use Rattle.link.specs.Machine.{is_idle, CanSlave, CanMaster, waits_of, asked, calibrate_of, calibrated_of, message_of, mode_on_of, Skips, taken, stepped}
use Rattle.link.specs.Conversation.{World, Act, ToMaster, ToSlave, SlaveDone, MasterDone, messages, some_left, waits_for_hardware, Can, CanSome, BothUp, at_slave, at_master, sent_to_master, sent_to_slave, master_hears, slave_hears, act, Comes, begins, happenings}
use Rattle.link.proofs.Conversation.{link_comes_up}
use Rattle.links.specs.Words.{IsPort, link_at, settings_at, take_answer}
use Rattle.links.specs.Hosts.{Heard, number, Hosts, report_of, any_left, slave_takes, master_takes, master_gets, slave_gets, hosts_act, HostsCan, HostsCanSome, HostsUp, Carries, HostsCome, hosts_begin}
use Rattle.links.proofs.WordLaws.{take_kept, take_leaves_settings}
use Rattle.links.proofs.RunLaws.{take_length}

-- the messages that a link with these settings sends
pub record Says (Good : LinkMessage → Type 0) (s : Settings) : Type 0 where
  pub present : Good message.SlavePresent
  pub lock : Good message.Lock
  pub locked : Good message.Locked
  pub calibrate : Good (calibrate_of s)
  pub calibrated : Good (calibrated_of s)
  pub mode_on : Good message.ModeOn

module _ (Good : LinkMessage → Type 0) where
  abbrev All : List LinkMessage → Type 0
  All [] = Unit {0}
  All (m ∷ ms) = Good m × All ms

module _ (Good : LinkMessage → Type 0) (s : Settings) (x : Says Good s) where
  of_state : (state : State) → All Good (messages (message_of s state))
  of_state Idle = tt
  of_state Present = (x.present, tt)
  of_state MLock = (x.lock, tt)
  of_state SLock = tt
  of_state Locked = (x.locked, tt)
  of_state Calibration = (x.calibrate, tt)
  of_state Calibrated = (x.calibrated, tt)
  of_state RespCalibReq = tt

  of_entry : (skips : Bool) (state : State) → All Good (messages (pick skips (Two (calibrate_of s) (calibrated_of s)) (message_of s state)))
  of_entry true state = (x.calibrate, (x.calibrated, tt))
  of_entry false state = of_state state

  of_role : (role : Role) → All Good (messages (mode_on_of role))
  of_role Slave = tt
  of_role Master = (x.mode_on, tt)

  of_move : (l : Link) (m : Move) → All Good (messages (taken s l m).sends)
  of_move l Ignore = tt
  of_move l (Enter role state) = of_entry (Skips s state) state
  of_move l LinkOn = of_role l.role
  of_move l (Resend n) = of_state l.state
  of_move l Leave = tt

  sends_good : (l : Link) (e : Event) → All Good (messages (stepped s l e).sends)
  unfolding stepped
  sends_good l e = of_move l (asked s.config l e)

-- what is on its way is heard as the messages that the links have sent
data Carried {C : Type 0} (heard : C → Heard) : List C → List LinkMessage → Type 0 where
  none : Carried heard [] []
  more : {c : C} {m : LinkMessage} {cs : List C} {ms : List LinkMessage} → heard c ≡ number (link_number m) → Carried heard cs ms → Carried heard (c ∷ cs) (m ∷ ms)

module _ {C : Type 0} (heard : C → Heard) where
  both : {cs ds : List C} {ms ns : List LinkMessage} → Carried heard cs ms → Carried heard ds ns → Carried heard (cs ++ ds) (ms ++ ns)
  both none y = y
  both (more e x) y = more e (both x y)

  left_same : {cs : List C} {ms : List LinkMessage} → Carried heard cs ms → any_left cs ≡ some_left ms
  left_same none = refl
  left_same (more e x) = refl

  put_on : (p q : ℕ) (Good : LinkMessage → Type 0) (put : LinkMessage → C) → Carries heard p q Good put → (ms : List LinkMessage) → All Good ms → Carried heard (map put ms) ms
  put_on p q Good put f [] g = none
  put_on p q Good put f (m ∷ ms) g = more (f m g.0) (put_on p q Good put f ms g.1)

module _ {C : Type 0} (heard : C → Heard) (p q : ℕ) (p-known : IsPort p ≡ true) (q-known : IsPort q ≡ true) (Good : LinkMessage → Type 0) (s t : Settings) (ours : Says Good s) (theirs : Says Good t) where
  -- the words of two hosts show two links
  record Shows (w : Hosts C) (v : World) : Type 0 where
    slave_link : link_at w.slave p ≡ v.slave
    slave_set : settings_at w.slave p ≡ s
    slave_size : length w.slave ≡ 72
    master_link : link_at w.master q ≡ v.master
    master_set : settings_at w.master q ≡ t
    master_size : length w.master ≡ 72
    to_master_lem : Carried heard w.to_master v.to_master
    to_slave_lem : Carried heard w.to_slave v.to_slave
    slave_up_lem : w.slave_up ≡ v.slave_up
    master_up_lem : w.master_up ≡ v.master_up

  module _ (w : Hosts C) (v : World) (h : Shows w v) (put : LinkMessage → C) (f : Carries heard p q Good put) where
    slave_answers : (e : Event) → take_answer w.slave p e ≡ Ok (stepped s v.slave e)
    unfolding take_answer refuse
    slave_answers e = rw p-known (λ i. Ok (stepped (h.slave_set i) (h.slave_link i) e))

    master_answers : (e : Event) → take_answer w.master q e ≡ Ok (stepped t v.master e)
    unfolding take_answer refuse
    master_answers e = rw q-known (λ i. Ok (stepped (h.master_set i) (h.master_link i) e))

    slave_took : (e : Event) → Shows (slave_takes heard p q put e w) (at_slave s t e v)
    slave_took e =
        record {
          slave_link = take_kept w.slave p h.slave_size p-known e ∙ (λ i. (stepped (h.slave_set i) (h.slave_link i) e).link);
          slave_set = take_leaves_settings w.slave p e ∙ h.slave_set;
          slave_size = take_length w.slave p e ∙ h.slave_size;
          master_link = h.master_link;
          master_set = h.master_set;
          master_size = h.master_size;
          to_master_lem = rw (slave_answers e) (both heard h.to_master_lem (put_on heard p q Good put f (messages (stepped s v.slave e).sends) (sends_good Good s ours v.slave e)));
          to_slave_lem = h.to_slave_lem;
          slave_up_lem = λ i. h.slave_up_lem i || report_of (slave_answers e i);
          master_up_lem = h.master_up_lem;
        }

    master_took : (e : Event) → Shows (master_takes heard p q put e w) (at_master s t e v)
    master_took e =
        record {
          slave_link = h.slave_link;
          slave_set = h.slave_set;
          slave_size = h.slave_size;
          master_link = take_kept w.master q h.master_size q-known e ∙ (λ i. (stepped (h.master_set i) (h.master_link i) e).link);
          master_set = take_leaves_settings w.master q e ∙ h.master_set;
          master_size = take_length w.master q e ∙ h.master_size;
          to_master_lem = h.to_master_lem;
          to_slave_lem = rw (master_answers e) (both heard h.to_slave_lem (put_on heard p q Good put f (messages (stepped t v.master e).sends) (sends_good Good t theirs v.master e)));
          slave_up_lem = h.slave_up_lem;
          master_up_lem = λ i. h.master_up_lem i || report_of (master_answers e i);
        }

  -- with other things on their way
  now_to_master : (w : Hosts C) (v : World) (cs : List C) (ms : List LinkMessage) → Carried heard cs ms → Shows w v →
      Shows (record { slave = w.slave; master = w.master; to_master = cs; to_slave = w.to_slave; slave_up = w.slave_up; master_up = w.master_up }) (sent_to_master s t ms v)
  now_to_master w v cs ms x h =
      record { slave_link = h.slave_link; slave_set = h.slave_set; slave_size = h.slave_size; master_link = h.master_link; master_set = h.master_set; master_size = h.master_size; to_master_lem = x; to_slave_lem = h.to_slave_lem; slave_up_lem = h.slave_up_lem; master_up_lem = h.master_up_lem }

  now_to_slave : (w : Hosts C) (v : World) (cs : List C) (ms : List LinkMessage) → Carried heard cs ms → Shows w v →
      Shows (record { slave = w.slave; master = w.master; to_master = w.to_master; to_slave = cs; slave_up = w.slave_up; master_up = w.master_up }) (sent_to_slave s t ms v)
  now_to_slave w v cs ms x h =
      record { slave_link = h.slave_link; slave_set = h.slave_set; slave_size = h.slave_size; master_link = h.master_link; master_set = h.master_set; master_size = h.master_size; to_master_lem = h.to_master_lem; to_slave_lem = x; slave_up_lem = h.slave_up_lem; master_up_lem = h.master_up_lem }

  master_got : {cs : List C} {ms : List LinkMessage} (w : Hosts C) (v : World) (put : LinkMessage → C) → Carries heard p q Good put → Carried heard cs ms → Shows w v →
      Shows (master_gets heard p q put cs w) (master_hears s t ms v)
  master_got w v put f none h = h
  master_got w v put f (more {m = m} {cs = cs} {ms = ms} e x) h =
      rw e (master_took _ (sent_to_master s t ms v) (now_to_master w v cs ms x h) put f (Message (link_number m)))

  slave_got : {cs : List C} {ms : List LinkMessage} (w : Hosts C) (v : World) (put : LinkMessage → C) → Carries heard p q Good put → Carried heard cs ms → Shows w v →
      Shows (slave_gets heard p q put cs w) (slave_hears s t ms v)
  slave_got w v put f none h = h
  slave_got w v put f (more {m = m} {cs = cs} {ms = ms} e x) h =
      rw e (slave_took _ (sent_to_slave s t ms v) (now_to_slave w v cs ms x h) put f (Message (link_number m)))

  acted : (w : Hosts C) (v : World) (put : LinkMessage → C) → Carries heard p q Good put → Shows w v → (a : Act) → Shows (hosts_act heard p q put a w) (act s t a v)
  acted w v put f h ToMaster = master_got w v put f h.to_master_lem h
  acted w v put f h ToSlave = slave_got w v put f h.to_slave_lem h
  acted w v put f h SlaveDone = slave_took w v h put f Done
  acted w v put f h MasterDone = master_took w v h put f Done

  -- the same can happen, and they are up together
  can_same : (w : Hosts C) (v : World) → Shows w v → (a : Act) → HostsCan heard p q a w ≡ Can a v
  can_same w v h ToMaster = left_same heard h.to_master_lem
  can_same w v h ToSlave = left_same heard h.to_slave_lem
  can_same w v h SlaveDone = ap (λ (l : Link). waits_for_hardware (waits_of l.role l.state)) h.slave_link
  can_same w v h MasterDone = ap (λ (l : Link). waits_for_hardware (waits_of l.role l.state)) h.master_link

  can_some : (w : Hosts C) (v : World) → Shows w v → HostsCanSome heard p q w ≡ CanSome v
  can_some w v h = λ i. can_same w v h ToMaster i || can_same w v h ToSlave i || can_same w v h SlaveDone i || can_same w v h MasterDone i

  up_same : (w : Hosts C) (v : World) → Shows w v → HostsUp heard p q w ≡ BothUp v
  up_same w v h =
      λ i.
      h.slave_up_lem i && is_idle (h.slave_link i).state && (h.slave_link i).mode
      && h.master_up_lem i && is_idle (h.master_link i).state && (h.master_link i).mode
      && not (left_same heard h.to_master_lem i) && not (left_same heard h.to_slave_lem i)

  shows_come : (n : ℕ) (w : Hosts C) (v : World) → Shows w v → Comes s t n v → HostsCome heard p q Good n w
  unfolding Comes HostsCome
  shows_come zero w v h c = up_same w v h ∙ c
  shows_come (suc n) w v h c =
      (can_some w v h ∙ c.0, λ a put f can. shows_come n (hosts_act heard p q put a w) (act s t a v) (acted w v put f h a) (c.1 a (sym (can_same w v h a) ∙ can)))

-- Two hosts, from any words with both links in IDLE, fitting configs and not both modes on: in whatever order things happen, and in whatever form the messages
-- are carried, both come up.
module _ {C : Type 0} (heard : C → Heard) (p q : ℕ) (p-known : IsPort p ≡ true) (q-known : IsPort q ≡ true) (Good : LinkMessage → Type 0) (slave master : List ℕ) where
  pub hosts_come_up : length slave ≡ 72 → length master ≡ 72 → Says Good (settings_at slave p) → Says Good (settings_at master q) →
      is_idle (link_at slave p).state ≡ true → is_idle (link_at master q).state ≡ true →
      CanSlave (settings_at slave p).config ≡ true → CanMaster (settings_at master q).config ≡ true → ((link_at slave p).mode && (link_at master q).mode) ≡ false →
      (put : LinkMessage → C) → Carries heard p q Good put →
      HostsCome heard p q Good (happenings (settings_at slave p) (settings_at master q)) (hosts_begin heard p q put (settings_at master q).config (link_at master q).mode slave master)
  hosts_come_up ls lm gs gm i j cs cm m put f =
      let s = settings_at slave p in
      let t = settings_at master q in
      let w : Hosts C = record { slave = slave; master = master; to_master = []; to_slave = []; slave_up = false; master_up = false } in
      let v : World = record { slave = link_at slave p; master = link_at master q; to_master = []; to_slave = []; slave_up = false; master_up = false } in
      shows_come heard p q p-known q-known Good s t gs gm (happenings s t) _ (begins s t (link_at slave p) (link_at master q))
      (slave_took heard p q p-known q-known Good s t gs gm w v
      (record { slave_link = refl; slave_set = refl; slave_size = ls; master_link = refl; master_set = refl; master_size = lm; to_master_lem = none; to_slave_lem = none; slave_up_lem = refl; master_up_lem = refl })
      put f (Start t.config (link_at master q).mode))
      (link_comes_up s t (link_at slave p) (link_at master q) i j cs cm m)

-- So do they where the messages themselves are on their way.
module _ (p q : ℕ) (p-known : IsPort p ≡ true) (q-known : IsPort q ≡ true) (slave master : List ℕ) where
  any : (s : Settings) → Says (λ m. Unit {0}) s
  any s = record { present = tt; lock = tt; locked = tt; calibrate = tt; calibrated = tt; mode_on = tt }

  pub words_come_up : length slave ≡ 72 → length master ≡ 72 → is_idle (link_at slave p).state ≡ true → is_idle (link_at master q).state ≡ true →
      CanSlave (settings_at slave p).config ≡ true → CanMaster (settings_at master q).config ≡ true → ((link_at slave p).mode && (link_at master q).mode) ≡ false →
      HostsCome (λ m. number (link_number m)) p q (λ m. Unit {0}) (happenings (settings_at slave p) (settings_at master q))
      (hosts_begin (λ m. number (link_number m)) p q (λ m. m) (settings_at master q).config (link_at master q).mode slave master)
  words_come_up ls lm i j cs cm m =
      hosts_come_up (λ x. number (link_number x)) p q p-known q-known (λ x. Unit {0}) slave master ls lm (any (settings_at slave p)) (any (settings_at master q)) i j cs cm m (λ x. x) (λ x g. refl)
