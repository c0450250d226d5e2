-- Two hosts, each with the words of its links, joined on a port of each (01, "The WR link"): the conversation of link/specs/Conversation.antt over words.
-- What is on its way may be carried in any form C, as messages or as the octets of a Signaling; a host puts what its link sends into that form, and hands
-- on to its link the number of the link message that it hears, if there is one.
use Rattle.std.specs.Prelude.{ℕ, zero, suc, ◌≡◌, Bool, true, false, not, ◌&&◌, ◌||◌, List, [], ◌∷◌, ◌++◌, map, Result, Ok, Err}
use Rattle.tlv.specs.declared.wr.LinkMessage.{LinkMessage}
use Rattle.tlv.specs.Numbers.{link_number}
use Rattle.link.specs.declared.Event.{Event}
use Rattle.link.specs.declared.Event.TheVariants.{Start, Message, Done}
use Rattle.link.specs.Machine.{is_idle, waits_of}
use Rattle.link.specs.Conversation.{Act, ToMaster, ToSlave, SlaveDone, MasterDone, messages, waits_for_hardware}
use Rattle.links.specs.Words.{link_at, take_answer, take_words}
use Rattle.refusal.specs.declared.Refusal.{Refusal}
use Rattle.link.specs.declared.Stepped.{Stepped}

-- what a host hears: the number of a link message, or none
pub data Heard : Type 0 where
  noise : Heard
  number : ℕ → Heard

-- the words of both hosts, what is on its way to each, and who has been told link on
pub record Hosts (C : Type 0) : Type 0 where
  pub slave : List ℕ
  pub master : List ℕ
  pub to_master : List C
  pub to_slave : List C
  pub slave_up : Bool
  pub master_up : Bool

-- what an event's answer has the host send, and whether it tells link on
abbrev pub sent_of : Result Stepped Refusal → List LinkMessage
sent_of (Ok r) = messages r.sends
sent_of (Err x) = []

abbrev pub report_of : Result Stepped Refusal → Bool
report_of (Ok r) = r.report
report_of (Err x) = false

abbrev pub any_left : {C : Type 0} → List C → Bool
any_left [] = false
any_left (c ∷ cs) = true

module _ {C : Type 0} (heard : C → Heard) (p q : ℕ) where
  -- an event on the slave's port p, on the master's port q, and what is then put on its way
  abbrev pub slave_takes : (LinkMessage → C) → Event → Hosts C → Hosts C
  slave_takes put e w =
      let r = take_answer w.slave p e in
      record {
        slave = take_words w.slave p e;
        master = w.master;
        to_master = w.to_master ++ map put (sent_of r);
        to_slave = w.to_slave;
        slave_up = w.slave_up || report_of r;
        master_up = w.master_up;
      }

  abbrev pub master_takes : (LinkMessage → C) → Event → Hosts C → Hosts C
  master_takes put e w =
      let r = take_answer w.master q e in
      record {
        slave = w.slave;
        master = take_words w.master q e;
        to_master = w.to_master;
        to_slave = w.to_slave ++ map put (sent_of r);
        slave_up = w.slave_up;
        master_up = w.master_up || report_of r;
      }

  -- the first on its way is delivered
  abbrev pub master_told : (LinkMessage → C) → Heard → Hosts C → Hosts C
  master_told put noise w = w
  master_told put (number n) w = master_takes put (Message n) w

  abbrev pub slave_told : (LinkMessage → C) → Heard → Hosts C → Hosts C
  slave_told put noise w = w
  slave_told put (number n) w = slave_takes put (Message n) w

  abbrev pub master_gets : (LinkMessage → C) → List C → Hosts C → Hosts C
  master_gets put [] w = w
  master_gets put (c ∷ cs) w =
      master_told put (heard c)
      (record { slave = w.slave; master = w.master; to_master = cs; to_slave = w.to_slave; slave_up = w.slave_up; master_up = w.master_up })

  abbrev pub slave_gets : (LinkMessage → C) → List C → Hosts C → Hosts C
  slave_gets put [] w = w
  slave_gets put (c ∷ cs) w =
      slave_told put (heard c)
      (record { slave = w.slave; master = w.master; to_master = w.to_master; to_slave = cs; slave_up = w.slave_up; master_up = w.master_up })

  abbrev pub hosts_act : (LinkMessage → C) → Act → Hosts C → Hosts C
  hosts_act put ToMaster w = master_gets put w.to_master w
  hosts_act put ToSlave w = slave_gets put w.to_slave w
  hosts_act put SlaveDone w = slave_takes put Done w
  hosts_act put MasterDone w = master_takes put Done w

  abbrev pub HostsCan : Act → Hosts C → Bool
  HostsCan ToMaster w = any_left w.to_master
  HostsCan ToSlave w = any_left w.to_slave
  HostsCan SlaveDone w = waits_for_hardware (waits_of (link_at w.slave p).role (link_at w.slave p).state)
  HostsCan MasterDone w = waits_for_hardware (waits_of (link_at w.master q).role (link_at w.master q).state)

  abbrev pub HostsCanSome : Hosts C → Bool
  HostsCanSome w = HostsCan ToMaster w || HostsCan ToSlave w || HostsCan SlaveDone w || HostsCan MasterDone w

  -- both have been told link on, both words hold IDLE with the mode on, and nothing is on its way
  abbrev pub HostsUp : Hosts C → Bool
  HostsUp w =
      w.slave_up && is_idle (link_at w.slave p).state && (link_at w.slave p).mode
      && w.master_up && is_idle (link_at w.master q).state && (link_at w.master q).mode
      && not (any_left w.to_master) && not (any_left w.to_slave)

  -- a form in which the messages that are Good are heard by their numbers
  abbrev pub Carries : (LinkMessage → Type 0) → (LinkMessage → C) → Type 0
  Carries Good put = (m : LinkMessage) → Good m → heard (put m) ≡ number (link_number m)

  -- in whatever order things happen, and in whatever such form each message is put, after n of them both are up; until then something can happen
  unfoldable pub HostsCome : (LinkMessage → Type 0) → ℕ → Hosts C → Type 0
  HostsCome Good zero w = HostsUp w ≡ true
  HostsCome Good (suc n) w =
      (HostsCanSome w ≡ true) × ((a : Act) (put : LinkMessage → C) → Carries Good put → HostsCan a w ≡ true → HostsCome Good n (hosts_act put a w))

  -- the slave's host starts its link, with the parent's config and mode
  abbrev pub hosts_begin : (LinkMessage → C) → ℕ → Bool → List ℕ → List ℕ → Hosts C
  hosts_begin put config mode slave master =
      slave_takes put (Start config mode)
      (record { slave = slave; master = master; to_master = []; to_slave = []; slave_up = false; master_up = false })
