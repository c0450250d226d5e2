-- The link's rules with 01's own numbers, written out: which configs start, both patterns, and a slave's and a master's way from IDLE to link on,
-- message by message. A rule that is mistyped in definition and code alike breaks one of these.
use Prim.Native.Nat.{ℕ}
use mathlib.Core.Path.{◌≡◌, refl}
use mathlib.Core.Bool.{Bool, true, false}
use mathlib.Core.List.{List, [], ◌∷◌, map}
use Rattle.tlv.specs.declared.wr.LinkMessage.TheVariants as message
use Rattle.link.specs.declared.Link.{Link}
use Rattle.link.specs.declared.Settings.{Settings}
use Rattle.link.specs.declared.Event.{Event}
use Rattle.link.specs.declared.Event.TheVariants.{Start, Message, Done, Timeout, Stop}
use Rattle.link.specs.declared.Sends.{Sends}
use Rattle.link.specs.declared.Sends.TheVariants.{Nothing, One, Two}
use Rattle.link.specs.declared.Stepped.{Stepped}
use Rattle.link.specs.States.{state_number}
use Rattle.link.specs.Machine.{on_start, on_slave_present, on_timeout, fresh, stepped}

-- a port by its config and whether it needs calibration; the data of its messages all differ
abbrev pub port : ℕ → Bool → Settings
port config calibrate = record { config = config; calibrate = calibrate; retry = 11; period = 12; tx = 13; rx = 14 }

-- the steps of some events, one after the other
abbrev pub steps : Settings → Link → List Event → List Stepped
steps s l [] = []
steps s l (e ∷ es) = stepped s l e ∷ steps s (stepped s l e).link es

abbrev pub states : Settings → List Event → List ℕ
states s es = map (λ x. state_number x.link.state) (steps s fresh es)

abbrev pub sent : Settings → List Event → List Sends
sent s es = map (λ x. x.sends) (steps s fresh es)

abbrev pub reports : Settings → List Event → List Bool
reports s es = map (λ x. x.report) (steps s fresh es)

abbrev pub modes : Settings → List Event → List Bool
modes s es = map (λ x. x.link.mode) (steps s fresh es)

-- the state after a start of each config against a parent of each config
abbrev pub started : ℕ → List ℕ
started config = map (λ parent. state_number (stepped (port config true) fresh (Start parent false)).link.state) (0 ∷ 1 ∷ 2 ∷ 3 ∷ [])

-- "A slave starts .. when its config is 2 or 3, the parent's is 1 or 3, and not both modes are on"; PRESENT is 1, IDLE 0
pub record Starts : Type 0 where
  pub none : started 0 ≡ 0 ∷ 0 ∷ 0 ∷ 0 ∷ []
  pub master_only : started 1 ≡ 0 ∷ 0 ∷ 0 ∷ 0 ∷ []
  pub slave_only : started 2 ≡ 0 ∷ 1 ∷ 0 ∷ 1 ∷ []
  pub both : started 3 ≡ 0 ∷ 1 ∷ 0 ∷ 1 ∷ []
  pub both_on : state_number (stepped (port 2 true) (record { role = fresh.role; state = fresh.state; retries = 0; mode = true }) (Start 1 true)).link.state ≡ 0
  pub ours_on : state_number (stepped (port 2 true) (record { role = fresh.role; state = fresh.state; retries = 0; mode = true }) (Start 1 false)).link.state ≡ 1
  -- "A master (config 1 or 3) starts on SLAVE_PRESENT in IDLE."; M_LOCK is 2
  pub masters : map (λ config. state_number (stepped (port config true) fresh (Message 0x1000)).link.state) (0 ∷ 1 ∷ 2 ∷ 3 ∷ []) ≡ 0 ∷ 2 ∷ 0 ∷ 2 ∷ []

pub starts : Starts
unfolding stepped on_start on_slave_present
starts = record { none = refl; master_only = refl; slave_only = refl; both = refl; both_on = refl; ours_on = refl; masters = refl }

-- what brings a slave from a start to link on, and what a master hears
abbrev pub slave_hears_lem : List Event
slave_hears_lem = Start 1 false ∷ Message 0x1001 ∷ Done ∷ Message 0x1003 ∷ Message 0x1004 ∷ Done ∷ Message 0x1005 ∷ []

abbrev pub master_hears_lem : List Event
master_hears_lem = Message 0x1000 ∷ Message 0x1002 ∷ Done ∷ Message 0x1003 ∷ Message 0x1004 ∷ []

-- PRESENT, S_LOCK, LOCKED, RESP_CALIB_REQ, CALIBRATION, CALIBRATED, and IDLE with the link on; M_LOCK, CALIBRATION, CALIBRATED, RESP_CALIB_REQ, and IDLE
pub record Ways : Type 0 where
  pub slave_states : states (port 2 true) slave_hears_lem ≡ 1 ∷ 3 ∷ 4 ∷ 7 ∷ 5 ∷ 6 ∷ 0 ∷ []
  pub slave_sends : sent (port 2 true) slave_hears_lem
      ≡ One message.SlavePresent ∷ Nothing ∷ One message.Locked ∷ Nothing ∷ One (message.Calibrate 1 11 12) ∷ One (message.Calibrated 13 14) ∷ Nothing ∷ []
  pub slave_reports : reports (port 2 true) slave_hears_lem ≡ false ∷ false ∷ false ∷ false ∷ false ∷ false ∷ true ∷ []
  pub slave_modes : modes (port 2 true) slave_hears_lem ≡ false ∷ false ∷ false ∷ false ∷ false ∷ false ∷ true ∷ []
  pub master_states : states (port 1 true) master_hears_lem ≡ 2 ∷ 5 ∷ 6 ∷ 7 ∷ 0 ∷ []
  pub master_sends : sent (port 1 true) master_hears_lem
      ≡ One message.Lock ∷ One (message.Calibrate 1 11 12) ∷ One (message.Calibrated 13 14) ∷ Nothing ∷ One message.ModeOn ∷ []
  pub master_reports : reports (port 1 true) master_hears_lem ≡ false ∷ false ∷ false ∷ false ∷ true ∷ []
  -- "A port that needs no calibration sends CALIBRATE with pattern 0 .. and CALIBRATED in one step"
  pub no_calibration : sent (port 1 false) (Message 0x1000 ∷ Message 0x1002 ∷ []) ≡ One message.Lock ∷ Two (message.Calibrate 0 11 12) (message.Calibrated 13 14) ∷ []
  pub no_calibration_states : states (port 1 false) (Message 0x1000 ∷ Message 0x1002 ∷ []) ≡ 2 ∷ 6 ∷ []

pub ways : Ways
unfolding stepped on_start on_slave_present
ways =
    record {
      slave_states = refl;
      slave_sends = refl;
      slave_reports = refl;
      slave_modes = refl;
      master_states = refl;
      master_sends = refl;
      master_reports = refl;
      no_calibration = refl;
      no_calibration_states = refl;
    }

-- three timeouts resend, the fourth goes to IDLE and sends nothing, the fifth is ignored; a stop clears the mode
pub record Silence : Type 0 where
  pub resent : sent (port 2 true) (Start 1 false ∷ Timeout ∷ Timeout ∷ Timeout ∷ Timeout ∷ Timeout ∷ [])
      ≡ One message.SlavePresent ∷ One message.SlavePresent ∷ One message.SlavePresent ∷ One message.SlavePresent ∷ Nothing ∷ Nothing ∷ []
  pub left : states (port 2 true) (Start 1 false ∷ Timeout ∷ Timeout ∷ Timeout ∷ Timeout ∷ Timeout ∷ []) ≡ 1 ∷ 1 ∷ 1 ∷ 1 ∷ 0 ∷ 0 ∷ []
  pub counted : map (λ x. x.link.retries) (steps (port 2 true) fresh (Start 1 false ∷ Timeout ∷ Timeout ∷ Timeout ∷ Timeout ∷ Timeout ∷ [])) ≡ 0 ∷ 1 ∷ 2 ∷ 3 ∷ 0 ∷ 0 ∷ []
  pub nothing_to_resend : sent (port 2 true) (Start 1 false ∷ Message 0x1001 ∷ Timeout ∷ []) ≡ One message.SlavePresent ∷ Nothing ∷ Nothing ∷ []
  pub stopped : (stepped (port 2 true) (record { role = fresh.role; state = fresh.state; retries = 0; mode = true }) Stop).link.mode ≡ false

pub silence : Silence
unfolding stepped on_start on_slave_present on_timeout
silence = record { resent = refl; left = refl; counted = refl; nothing_to_resend = refl; stopped = refl }
