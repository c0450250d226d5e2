-- What an event does to a link, rule by rule (01, "The WR link").
use Rattle.std.specs.Prelude.{ℕ, ◌+◌, Bool, true, false, not, ◌&&◌, ◌||◌, eqb, ltb}
use Rattle.refusal.specs.Choice.{pick}
use Rattle.tlv.specs.declared.wr.LinkMessage.{LinkMessage}
use Rattle.tlv.specs.declared.wr.LinkMessage.TheVariants as message
pub use Rattle.tlv.specs.Numbers.{SLAVE-PRESENT, LOCK, LOCKED, CALIBRATE, CALIBRATED, WR-MODE-ON}
use Rattle.link.specs.declared.Role.{Role}
use Rattle.link.specs.declared.Role.TheVariants.{Slave, Master}
use Rattle.link.specs.declared.State.{State}
use Rattle.link.specs.declared.State.TheVariants.{Idle, Present, MLock, SLock, Locked, Calibration, Calibrated, RespCalibReq}
use Rattle.link.specs.declared.Link.{Link}
use Rattle.link.specs.declared.Settings.{Settings}
use Rattle.link.specs.declared.Event.{Event}
use Rattle.link.specs.declared.Event.TheVariants.{Start, Message, Done, Timeout, Stop}
use Rattle.link.specs.declared.Sends.{Sends}
use Rattle.link.specs.declared.Sends.TheVariants.{Nothing, One, Two}
use Rattle.link.specs.declared.Stepped.{Stepped}
use Rattle.link.specs.declared.Move.{Move}
use Rattle.link.specs.declared.Move.TheVariants.{Ignore, Enter, LinkOn, Resend, Leave}
use Rattle.link.specs.declared.Waits.{Waits}
use Rattle.link.specs.declared.Waits.TheVariants as waits

abbrev pub is_idle : State → Bool
is_idle Idle = true
is_idle Present = false
is_idle MLock = false
is_idle SLock = false
is_idle Locked = false
is_idle Calibration = false
is_idle Calibrated = false
is_idle RespCalibReq = false

abbrev pub is_calibration : State → Bool
is_calibration Idle = false
is_calibration Present = false
is_calibration MLock = false
is_calibration SLock = false
is_calibration Locked = false
is_calibration Calibration = true
is_calibration Calibrated = false
is_calibration RespCalibReq = false

-- "config 0 none, 1 master only, 2 slave only, 3 both"
abbrev pub CanSlave : ℕ → Bool
CanSlave config = eqb config 2 || eqb config 3

abbrev pub CanMaster : ℕ → Bool
CanMaster config = eqb config 1 || eqb config 3

-- "A slave starts from IDLE when its config is 2 or 3, the parent's is 1 or 3, and not both modes are on (001, 6.7.1);
-- otherwise the start is ignored."
unfoldable pub on_start : ℕ → Link → ℕ → Bool → Move
on_start config l parent on =
    pick (is_idle l.state && CanSlave config && CanMaster parent && not (l.mode && on)) (Enter Slave Present) Ignore

-- "A master (config 1 or 3) starts on SLAVE_PRESENT in IDLE."
unfoldable pub on_slave_present : ℕ → ℕ → Move
on_slave_present config number = pick (CanMaster config && eqb number SLAVE-PRESENT) (Enter Master MLock) Ignore

-- "Slave: PRESENT .., on LOCK S_LOCK, on hardware done LOCKED .., on CALIBRATE RESP_CALIB_REQ, on CALIBRATED CALIBRATION ..,
-- on hardware done CALIBRATED .., on WR_MODE_ON link on."
abbrev pub slave_waits : State → Waits
slave_waits Present = waits.Message LOCK (Enter Slave SLock)
slave_waits SLock = waits.Hardware (Enter Slave Locked)
slave_waits Locked = waits.Message CALIBRATE (Enter Slave RespCalibReq)
slave_waits RespCalibReq = waits.Message CALIBRATED (Enter Slave Calibration)
slave_waits Calibration = waits.Hardware (Enter Slave Calibrated)
slave_waits Calibrated = waits.Message WR-MODE-ON LinkOn
slave_waits Idle = waits.Nothing
slave_waits MLock = waits.Nothing

-- "Master: M_LOCK .., on LOCKED CALIBRATION, then CALIBRATED as above, on CALIBRATE RESP_CALIB_REQ, on CALIBRATED link on .."
abbrev pub master_waits : State → Waits
master_waits MLock = waits.Message LOCKED (Enter Master Calibration)
master_waits Calibration = waits.Hardware (Enter Master Calibrated)
master_waits Calibrated = waits.Message CALIBRATE (Enter Master RespCalibReq)
master_waits RespCalibReq = waits.Message CALIBRATED LinkOn
master_waits Idle = waits.Nothing
master_waits Present = waits.Nothing
master_waits SLock = waits.Nothing
master_waits Locked = waits.Nothing

abbrev pub waits_of : Role → State → Waits
waits_of Slave state = slave_waits state
waits_of Master state = master_waits state

-- "All else is ignored and changes nothing."
abbrev pub on_message : Waits → ℕ → Move
on_message (waits.Message awaited then) number = pick (eqb number awaited) then Ignore
on_message (waits.Hardware then) number = Ignore
on_message waits.Nothing number = Ignore

abbrev pub on_done : Waits → Move
on_done (waits.Hardware then) = then
on_done (waits.Message awaited then) = Ignore
on_done waits.Nothing = Ignore

-- "A timeout resends the state's message, if any, three times; the fourth goes to IDLE with mode off; in IDLE it is ignored."
unfoldable pub on_timeout : State → ℕ → Move
on_timeout state retries = pick (is_idle state) Ignore (pick (ltb retries 3) (Resend (retries + 1)) Leave)

-- what the rules make of an event; "A stop goes to IDLE with mode off."
abbrev pub asked : ℕ → Link → Event → Move
asked config l (Start parent on) = on_start config l parent on
asked config l (Message number) =
    pick (is_idle l.state) (on_slave_present config number) (on_message (waits_of l.role l.state) number)
asked config l Done = on_done (waits_of l.role l.state)
asked config l Timeout = on_timeout l.state l.retries
asked config l Stop = Leave

-- "CALIBRATE with pattern 0 (else 1)"; "the rest of their data are settings"
abbrev pub calibrate_of : Settings → LinkMessage
calibrate_of s = message.Calibrate (pick s.calibrate 1 0) s.retry s.period

abbrev pub calibrated_of : Settings → LinkMessage
calibrated_of s = message.Calibrated s.tx s.rx

-- the state's message: "PRESENT (sends SLAVE_PRESENT)", "LOCKED (sends LOCKED)", "CALIBRATION (sends CALIBRATE)",
-- "CALIBRATED (sends CALIBRATED)", "M_LOCK (sends LOCK)"
abbrev pub message_of : Settings → State → Sends
message_of s Idle = Nothing
message_of s Present = One message.SlavePresent
message_of s MLock = One message.Lock
message_of s SLock = Nothing
message_of s Locked = One message.Locked
message_of s Calibration = One (calibrate_of s)
message_of s Calibrated = One (calibrated_of s)
message_of s RespCalibReq = Nothing

-- a master's "link on (sends WR_MODE_ON)"
abbrev pub mode_on_of : Role → Sends
mode_on_of Slave = Nothing
mode_on_of Master = One message.ModeOn

-- "ignored and changes nothing"
abbrev pub ignored : Link → Stepped
ignored l = record { link = l; sends = Nothing; report = false }

-- "A change of state zeroes the retry count."
abbrev pub in_state : Role → State → Bool → Link
in_state role state mode = record { role = role; state = state; retries = 0; mode = mode }

-- a link that has not started: IDLE with mode off
abbrev pub fresh : Link
fresh = in_state Slave Idle false

-- "A port that needs no calibration sends CALIBRATE with pattern 0 (else 1) and CALIBRATED in one step"
abbrev pub Skips : Settings → State → Bool
Skips s state = is_calibration state && not s.calibrate

-- a state entered, with its message
abbrev pub entered : Settings → Bool → Role → State → Stepped
entered s mode role state =
    record {
      link = in_state role (pick (Skips s state) Calibrated state) mode;
      sends = pick (Skips s state) (Two (calibrate_of s) (calibrated_of s)) (message_of s state);
      report = false;
    }

-- "Link on sets the mode and the state is IDLE."
abbrev pub link_on : Role → Stepped
link_on role = record { link = in_state role Idle true; sends = mode_on_of role; report = true }

-- "A timeout resends the state's message, if any"
abbrev pub resent : Settings → Link → ℕ → Stepped
resent s l retries =
    record {
      link = record { role = l.role; state = l.state; retries = retries; mode = l.mode };
      sends = message_of s l.state;
      report = false;
    }

-- "goes to IDLE with mode off"
abbrev pub left : Role → Stepped
left role = record { link = in_state role Idle false; sends = Nothing; report = false }

abbrev pub taken : Settings → Link → Move → Stepped
taken s l Ignore = ignored l
taken s l (Enter role state) = entered s l.mode role state
taken s l LinkOn = link_on l.role
taken s l (Resend retries) = resent s l retries
taken s l Leave = left l.role

-- a step
unfoldable pub stepped : Settings → Link → Event → Stepped
stepped s l e = taken s l (asked s.config l e)
