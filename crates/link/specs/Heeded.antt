-- What a link heeds, role by role and state by state, with 01's own numbers. "All else is ignored and changes nothing."
use Rattle.std.specs.Prelude.{ℕ, Bool, true, false, not, ◌&&◌, ◌||◌, eqb}
use Rattle.refusal.specs.Choice.{pick}
use Rattle.link.specs.declared.Role.{Role}
use Rattle.link.specs.declared.Role.TheVariants.{Slave, Master}
use Rattle.link.specs.declared.State.{State}
use Rattle.link.specs.declared.State.TheVariants.{Idle, Present, MLock, SLock, Locked, Calibration, Calibrated, RespCalibReq}
use Rattle.link.specs.declared.Link.{Link}
use Rattle.link.specs.declared.Event.{Event}
use Rattle.link.specs.declared.Event.TheVariants.{Start, Message, Done, Timeout, Stop}
use Rattle.link.specs.Machine.{is_idle}

-- what brings a link on from a state: the message of a number, or the hardware
pub data Awaited : Type 0 where
  nothing hardware : Awaited
  number : ℕ → Awaited

-- "Slave: PRESENT .., on LOCK S_LOCK, on hardware done LOCKED .., on CALIBRATE RESP_CALIB_REQ, on CALIBRATED CALIBRATION .., on hardware done
-- CALIBRATED .., on WR_MODE_ON link on. Master: M_LOCK .., on LOCKED CALIBRATION, then CALIBRATED as above, on CALIBRATE RESP_CALIB_REQ, on
-- CALIBRATED link on"
abbrev pub awaits : Role → State → Awaited
awaits Slave Idle = nothing
awaits Slave Present = number 0x1001
awaits Slave MLock = nothing
awaits Slave SLock = hardware
awaits Slave Locked = number 0x1003
awaits Slave Calibration = hardware
awaits Slave Calibrated = number 0x1005
awaits Slave RespCalibReq = number 0x1004
awaits Master Idle = nothing
awaits Master Present = nothing
awaits Master MLock = number 0x1002
awaits Master SLock = nothing
awaits Master Locked = nothing
awaits Master Calibration = hardware
awaits Master Calibrated = number 0x1003
awaits Master RespCalibReq = number 0x1004

abbrev pub is_number : Awaited → ℕ → Bool
is_number nothing n = false
is_number hardware n = false
is_number (number awaited) n = eqb n awaited

abbrev pub is_hardware : Awaited → Bool
is_hardware nothing = false
is_hardware hardware = true
is_hardware (number awaited) = false

-- The table. A start: in IDLE, with a config of 2 or 3 under a parent of 1 or 3, while not both modes are on. A message: in IDLE SLAVE_PRESENT, with a
-- config of 1 or 3; elsewhere the one waited for. Hardware done: where it is waited for. A timeout: outside IDLE. A stop: wherever it finds
-- something to change.
unfoldable pub is_heeded : ℕ → Link → Event → Bool
is_heeded config l (Start parent on) =
    is_idle l.state && (eqb config 2 || eqb config 3) && (eqb parent 1 || eqb parent 3) && not (l.mode && on)
is_heeded config l (Message n) =
    pick (is_idle l.state) ((eqb config 1 || eqb config 3) && eqb n 0x1000) (is_number (awaits l.role l.state) n)
is_heeded config l Done = is_hardware (awaits l.role l.state)
is_heeded config l Timeout = not (is_idle l.state)
is_heeded config l Stop = not (is_idle l.state && not l.mode && eqb l.retries 0)
