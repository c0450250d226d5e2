-- The two links of Conversation.antt, joined by a channel that loses messages: a link may time out, and a message on its way may be lost.
use Rattle.std.specs.Prelude.{ℕ, ◌+◌, ◌≡◌, Bool, true, false, List, [], ◌∷◌, ltb}
use Rattle.refusal.specs.Choice.{pick}
use Rattle.tlv.specs.declared.wr.LinkMessage.{LinkMessage}
use Rattle.tlv.specs.Numbers.{link_number}
use Rattle.link.specs.declared.Role.{Role}
use Rattle.link.specs.declared.Role.TheVariants.{Slave, Master}
use Rattle.link.specs.declared.State.{State}
use Rattle.link.specs.declared.State.TheVariants.{Idle, Calibrated}
use Rattle.link.specs.declared.Link.{Link}
use Rattle.link.specs.declared.Settings.{Settings}
use Rattle.link.specs.declared.Event.TheVariants.{Timeout}
use Rattle.link.specs.Machine.{in_state}
use Rattle.link.specs.Conversation.{World, Act, at_slave, at_master, sent_to_master, sent_to_slave, act}

-- what can happen: a delivery or hardware done, a timeout on either side, the loss of the first message on its way to either side
pub data Happening : Type 0 where
  does : Act → Happening
  SlaveTimesOut MasterTimesOut LostToMaster LostToSlave : Happening

abbrev pub but_first : List LinkMessage → List LinkMessage
but_first [] = []
but_first (m ∷ ms) = ms

module _ (ours theirs : Settings) where
  abbrev pub happen : Happening → World → World
  happen (does a) w = act ours theirs a w
  happen SlaveTimesOut w = at_slave ours theirs Timeout w
  happen MasterTimesOut w = at_master ours theirs Timeout w
  happen LostToMaster w = sent_to_master ours theirs (but_first w.to_master) w
  happen LostToSlave w = sent_to_slave ours theirs (but_first w.to_slave) w

  -- one after the other, the first one first
  unfoldable pub happen_all : List Happening → World → World
  happen_all [] w = w
  happen_all (h ∷ hs) w = happen_all hs (happen h w)

-- how often each side times out
abbrev pub slave_once : Happening → ℕ
slave_once (does a) = 0
slave_once SlaveTimesOut = 1
slave_once MasterTimesOut = 0
slave_once LostToMaster = 0
slave_once LostToSlave = 0

abbrev pub master_once : Happening → ℕ
master_once (does a) = 0
master_once SlaveTimesOut = 0
master_once MasterTimesOut = 1
master_once LostToMaster = 0
master_once LostToSlave = 0

unfoldable pub slave_timeouts : List Happening → ℕ
slave_timeouts [] = 0
slave_timeouts (h ∷ hs) = slave_once h + slave_timeouts hs

unfoldable pub master_timeouts : List Happening → ℕ
master_timeouts [] = 0
master_timeouts (h ∷ hs) = master_once h + master_timeouts hs

-- a link with another retry count, and a world in which both have others
abbrev pub recounted : ℕ → Link → Link
recounted n l = record { role = l.role; state = l.state; retries = n; mode = l.mode }

abbrev pub recount : ℕ → ℕ → World → World
recount i j w =
    record {
      slave = recounted i w.slave;
      master = recounted j w.master;
      to_master = w.to_master;
      to_slave = w.to_slave;
      slave_up = w.slave_up;
      master_up = w.master_up;
    }

-- a link that nothing brings on: its state while it counts three timeouts, IDLE with mode off from the fourth on
abbrev pub gives_up : Role → State → Bool → ℕ → Link
gives_up role state mode n =
    pick (ltb n 4) (record { role = role; state = state; retries = n; mode = mode }) (in_state role Idle false)

-- a point of the conversation at which neither side is up
abbrev pub between : Bool → Bool → State → State → List LinkMessage → List LinkMessage → World
between was theirs slave master to_master to_slave =
    record {
      slave = in_state Slave slave was;
      master = in_state Master master theirs;
      to_master = to_master;
      to_slave = to_slave;
      slave_up = false;
      master_up = false;
    }

-- the master is up, the slave waits for its WR_MODE_ON
abbrev pub master_up_alone : Bool → List LinkMessage → World
master_up_alone was to_slave =
    record {
      slave = in_state Slave Calibrated was;
      master = in_state Master Idle true;
      to_master = [];
      to_slave = to_slave;
      slave_up = false;
      master_up = true;
    }

-- every message of some is of this number
unfoldable pub Only : ℕ → List LinkMessage → Type 0
Only n [] = Unit {0}
Only n (m ∷ ms) = (link_number m ≡ n) × Only n ms

-- where a world has come to: both links, and who has reported link on
pub record Ends (w : World) (slave master : Link) (slave_up master_up : Bool) : Type 0 where
  pub slave_is : w.slave ≡ slave
  pub master_is : w.master ≡ master
  pub slave_up_lem : w.slave_up ≡ slave_up
  pub master_up_lem : w.master_up ≡ master_up
