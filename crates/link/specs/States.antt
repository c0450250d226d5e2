-- The states' numbers (003, Table 5, in its order), by which two states are told apart.
use Rattle.std.specs.Prelude.{ℕ, Bool, eqb}
use Rattle.refusal.specs.Choice.{pick}
use Rattle.link.specs.declared.State.{State}
use Rattle.link.specs.declared.State.TheVariants.{Idle, Present, MLock, SLock, Locked, Calibration, Calibrated, RespCalibReq}

abbrev pub state_number : State → ℕ
state_number Idle = 0
state_number Present = 1
state_number MLock = 2
state_number SLock = 3
state_number Locked = 4
state_number Calibration = 5
state_number Calibrated = 6
state_number RespCalibReq = 7

-- any number is a state
unfoldable pub state_of : ℕ → State
state_of n =
    pick (eqb n 1) Present
    (pick (eqb n 2) MLock
    (pick (eqb n 3) SLock
    (pick (eqb n 4) Locked
    (pick (eqb n 5) Calibration
    (pick (eqb n 6) Calibrated
    (pick (eqb n 7) RespCalibReq
    Idle))))))

-- whether two states are one
abbrev pub same_state : State → State → Bool
same_state a b = eqb (state_number a) (state_number b)
