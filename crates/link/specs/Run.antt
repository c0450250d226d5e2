-- A link over any sequence of events (01, "The WR link"). A history is what has happened to a link since it was fresh, newest
-- first; each event comes under the settings of its moment.
use Rattle.std.specs.Prelude.{ℕ, ◌+◌, Bool, true, false, ◌&&◌, ◌||◌, List, [], ◌∷◌, eqb}
use Rattle.refusal.specs.Choice.{pick}
use Rattle.link.specs.declared.Role.{Role}
use Rattle.link.specs.declared.Role.TheVariants.{Slave, Master}
use Rattle.link.specs.declared.State.{State}
use Rattle.link.specs.declared.State.TheVariants.{Calibrated, RespCalibReq}
use Rattle.link.specs.declared.Link.{Link}
use Rattle.link.specs.declared.Settings.{Settings}
use Rattle.link.specs.declared.Event.{Event}
use Rattle.link.specs.declared.Event.TheVariants.{Start, Message, Done, Timeout, Stop}
use Rattle.link.specs.declared.Sends.{Sends}
use Rattle.link.specs.declared.Sends.TheVariants.{Nothing, One, Two}
use Rattle.link.specs.States.{same_state}
use Rattle.link.specs.Machine.{CALIBRATED, WR-MODE-ON, fresh, stepped}

pub record Happened : Type 0 where
  pub under : Settings
  pub event : Event

abbrev pub is_timeout : Event → Bool
is_timeout (Start config mode) = false
is_timeout (Message number) = false
is_timeout Done = false
is_timeout Timeout = true
is_timeout Stop = false

-- the run: a fold of the step over the history, from a fresh link
unfoldable pub after : List Happened → Link
after [] = fresh
after (h ∷ older) = (stepped h.under (after older) h.event).link

-- "the last change of state": whether the newest event of a history left the state as it was
abbrev pub stayed : Happened → List Happened → Bool
stayed h older = same_state (stepped h.under (after older) h.event).link.state (after older).state

-- the events since the last change of state
unfoldable pub since_change : List Happened → List Event
since_change [] = []
since_change (h ∷ older) = pick (stayed h older) (h.event ∷ since_change older) []

-- how many of them are timeouts
unfoldable pub timeouts : List Event → ℕ
timeouts [] = 0
timeouts (e ∷ es) = pick (is_timeout e) 1 0 + timeouts es

-- how many messages a step sends
abbrev pub sent : Sends → ℕ
sent Nothing = 0
sent (One m) = 1
sent (Two m n) = 2

-- how many messages were sent since the last change of state, with no change of state: what was resent
unfoldable pub resends : List Happened → ℕ
resends [] = 0
resends (h ∷ older) =
    pick (stayed h older) (sent (stepped h.under (after older) h.event).sends + resends older) 0

-- an event that is this message
abbrev pub is_message : ℕ → Event → Bool
is_message n (Start config mode) = false
is_message n (Message number) = eqb number n
is_message n Done = false
is_message n Timeout = false
is_message n Stop = false

-- what leads through link on: a slave's "CALIBRATED .., on WR_MODE_ON link on", a master's "RESP_CALIB_REQ, on CALIBRATED link on"
abbrev pub GoesOn : Role → State → Event → Bool
GoesOn Slave state e = same_state state Calibrated && is_message WR-MODE-ON e
GoesOn Master state e = same_state state RespCalibReq && is_message CALIBRATED e

-- some step of the history reported link on
unfoldable pub Reported : List Happened → Bool
Reported [] = false
Reported (h ∷ older) = (stepped h.under (after older) h.event).report || Reported older
