-- A slave's link and a master's, joined by a channel that loses nothing (01, "The WR link"): every message is delivered once, in the
-- order in which it was sent, and the hardware is done some time after it was asked. Nothing says what happens first.
use Rattle.std.specs.Prelude.{ℕ, zero, suc, ◌+◌, ◌≡◌, Bool, true, false, not, ◌&&◌, ◌||◌, List, [], ◌∷◌, ◌++◌}
use Rattle.refusal.specs.Choice.{pick}
use Rattle.tlv.specs.declared.wr.LinkMessage.{LinkMessage}
use Rattle.tlv.specs.Numbers.{link_number}
use Rattle.link.specs.declared.Link.{Link}
use Rattle.link.specs.declared.Settings.{Settings}
use Rattle.link.specs.declared.Event.{Event}
use Rattle.link.specs.declared.Event.TheVariants.{Start, Message, Done}
use Rattle.link.specs.declared.Sends.{Sends}
use Rattle.link.specs.declared.Sends.TheVariants.{Nothing, One, Two}
use Rattle.link.specs.declared.Waits.{Waits}
use Rattle.link.specs.declared.Waits.TheVariants as waits
use Rattle.link.specs.Machine.{LOCK, LOCKED, CALIBRATE, CALIBRATED, WR-MODE-ON, is_idle, waits_of, stepped}

-- the two links, the messages on their way to each, and who has reported link on
pub record World : Type 0 where
  pub slave : Link
  pub master : Link
  pub to_master : List LinkMessage
  pub to_slave : List LinkMessage
  pub slave_up : Bool
  pub master_up : Bool

-- what can happen next
pub data Act : Type 0 where
  ToMaster ToSlave SlaveDone MasterDone : Act

abbrev pub messages : Sends → List LinkMessage
messages Nothing = []
messages (One m) = m ∷ []
messages (Two m n) = m ∷ n ∷ []

abbrev pub some_left : List LinkMessage → Bool
some_left [] = false
some_left (m ∷ ms) = true

abbrev pub waits_for_hardware : Waits → Bool
waits_for_hardware waits.Nothing = false
waits_for_hardware (waits.Message awaited then) = false
waits_for_hardware (waits.Hardware then) = true

-- a delivery where a message is on its way, hardware done where a link waits for it
abbrev pub Can : Act → World → Bool
Can ToMaster w = some_left w.to_master
Can ToSlave w = some_left w.to_slave
Can SlaveDone w = waits_for_hardware (waits_of w.slave.role w.slave.state)
Can MasterDone w = waits_for_hardware (waits_of w.master.role w.master.state)

abbrev pub CanSome : World → Bool
CanSome w = Can ToMaster w || Can ToSlave w || Can SlaveDone w || Can MasterDone w

-- both links have reported link on and are IDLE with the mode on, and nothing is on its way
abbrev pub BothUp : World → Bool
BothUp w =
    w.slave_up && is_idle w.slave.state && w.slave.mode
    && w.master_up && is_idle w.master.state && w.master.mode
    && not (some_left w.to_master) && not (some_left w.to_slave)

module _ (ours theirs : Settings) where
  -- an event at the slave, an event at the master
  abbrev pub at_slave : Event → World → World
  at_slave e w =
      let r = stepped ours w.slave e in
      record {
        slave = r.link;
        master = w.master;
        to_master = w.to_master ++ messages r.sends;
        to_slave = w.to_slave;
        slave_up = w.slave_up || r.report;
        master_up = w.master_up;
      }

  abbrev pub at_master : Event → World → World
  at_master e w =
      let r = stepped theirs w.master e in
      record {
        slave = w.slave;
        master = r.link;
        to_master = w.to_master;
        to_slave = w.to_slave ++ messages r.sends;
        slave_up = w.slave_up;
        master_up = w.master_up || r.report;
      }

  abbrev pub sent_to_master : List LinkMessage → World → World
  sent_to_master ms w =
      record { slave = w.slave; master = w.master; to_master = ms; to_slave = w.to_slave; slave_up = w.slave_up; master_up = w.master_up }

  abbrev pub sent_to_slave : List LinkMessage → World → World
  sent_to_slave ms w =
      record { slave = w.slave; master = w.master; to_master = w.to_master; to_slave = ms; slave_up = w.slave_up; master_up = w.master_up }

  -- the first message on its way is delivered, by its number
  abbrev pub master_hears : List LinkMessage → World → World
  master_hears [] w = w
  master_hears (m ∷ ms) w = at_master (Message (link_number m)) (sent_to_master ms w)

  abbrev pub slave_hears : List LinkMessage → World → World
  slave_hears [] w = w
  slave_hears (m ∷ ms) w = at_slave (Message (link_number m)) (sent_to_slave ms w)

  abbrev pub act : Act → World → World
  act ToMaster w = master_hears w.to_master w
  act ToSlave w = slave_hears w.to_slave w
  act SlaveDone w = at_slave Done w
  act MasterDone w = at_master Done w

  -- in whatever order things happen, after n of them both links are up; until then something can always happen
  unfoldable pub Comes : ℕ → World → Type 0
  Comes zero w = BothUp w ≡ true
  Comes (suc n) w = (CanSome w ≡ true) × ((a : Act) → Can a w ≡ true → Comes n (act a w))

  -- the start: "when its config is 2 or 3, the parent's is 1 or 3, and not both modes are on"
  abbrev pub begins : Link → Link → World
  begins slave master =
      at_slave (Start theirs.config master.mode)
      (record { slave = slave; master = master; to_master = []; to_slave = []; slave_up = false; master_up = false })

-- eight messages and the slave's lock, and the hardware's calibration on each side that needs it
abbrev pub happenings : Settings → Settings → ℕ
happenings ours theirs = 9 + pick ours.calibrate 1 0 + pick theirs.calibrate 1 0

-- what a link sends over a sequence of events, oldest first
unfoldable pub says : Settings → Link → List Event → List LinkMessage
says s l [] = []
says s l (e ∷ es) = messages (stepped s l e).sends ++ says s (stepped s l e).link es

-- hardware done, where calibration is needed
abbrev pub then_done : Bool → List Event → List Event
then_done needed es = pick needed (Done ∷ es) es

-- "Slave: PRESENT .., on LOCK S_LOCK, on hardware done LOCKED .., on CALIBRATE RESP_CALIB_REQ, on CALIBRATED CALIBRATION ..,
-- on hardware done CALIBRATED .., on WR_MODE_ON link on."
abbrev pub slaves_way : Settings → List Event
slaves_way s =
    Message LOCK ∷ Done ∷ Message CALIBRATE ∷ Message CALIBRATED ∷ then_done s.calibrate (Message WR-MODE-ON ∷ [])

-- "Master: M_LOCK .., on LOCKED CALIBRATION, then CALIBRATED as above, on CALIBRATE RESP_CALIB_REQ, on CALIBRATED link on .."
abbrev pub masters_way : Settings → List Event
masters_way s = Message LOCKED ∷ then_done s.calibrate (Message CALIBRATE ∷ Message CALIBRATED ∷ [])
