-- Histories: the calls of a clock one after another, on any ports, each with the settings of its moment
-- (01, "Sender records": "All answers for a port follow from the settings and that port's own calls.").
use Rattle.std.specs.Prelude.{ℕ, ◌<◌, ◌≡◌, List, [], ◌∷◌, false, eqb, ℤ, get_or, set, Ok}
use Rattle.refusal.specs.Choice.{pick}
use Rattle.senders.specs.declared.Notice as kept
use Rattle.senders.specs.Record.{is_of}
use Rattle.senders.specs.Port.{slot_of, tab, Live}
use Rattle.slots.specs.Words.{port_of, words_after}
use Rattle.ports.specs.declared.intake.Settings.{Settings}
use Rattle.ports.specs.Words.{port_at, all_words}
use Rattle.ports.specs.Intake.{admitted_of, plan_by, plan_at, state_after}
use Rattle.ports.specs.Interval.{is_interval, exponent_of, interval_after}

-- an Announce with the settings, port, time and octets; an interval for a port; a question to a port
pub data Call : Type 0 where
  taking : Settings → ℕ → ℕ → List ℕ → Call
  setting : ℕ → ℤ → Call
  asking : ℕ → Call

abbrev pub port_of_call : Call → ℕ
port_of_call (taking set port t s) = port
port_of_call (setting port k) = port
port_of_call (asking port) = port

-- the words after a call; "Asking for candidates at T changes nothing"
abbrev pub after : List ℕ → Call → List ℕ
after ws (taking set port t s) = state_after ws port t (plan_at set ws port t s)
after ws (setting port k) = interval_after ws port k
after ws (asking port) = ws

-- the words after a history
abbrev pub run : List ℕ → List Call → List ℕ
run ws [] = ws
run ws (c ∷ cs) = run (after ws c) cs

-- "that port's own calls"
abbrev pub own_calls : ℕ → List Call → List Call
own_calls q [] = []
own_calls q (c ∷ cs) = pick (eqb (port_of_call c) q) (c ∷ own_calls q cs) (own_calls q cs)

-- what a call of its own does to a port's 98 words, whatever the other ports hold
abbrev pub own_after : List ℕ → Call → List ℕ
own_after l (taking set port t s) = words_after l t (plan_by (port_of l) t (admitted_of set port s))
own_after l (setting port k) = pick (is_interval k) (set l 1 (exponent_of k)) l
own_after l (asking port) = l

abbrev pub run_own : List ℕ → List Call → List ℕ
run_own l [] = l
run_own l (c ∷ cs) = run_own (own_after l c) cs

-- words of zero: a fresh clock
abbrev pub fresh : List ℕ
fresh = tab all_words (λ i. 0)

-- a call on port q leaves the record in slot i alone: an Announce that is admitted there is another sender's, and
-- finds the record live
abbrev pub Spares : List ℕ → ℕ → ℕ → Call → Type 0
Spares ws q i (taking set port t s) =
    (a : kept.Notice) → admitted_of set port s ≡ Ok a → port ≡ q → (is_of a.sender (slot_of (port_at ws q) i) ≡ false) × Live (port_at ws q) t i
Spares ws q i (setting port k) = Unit {0}
Spares ws q i (asking port) = Unit {0}

-- each call of a history does, when its turn comes
abbrev pub LivesThrough : List ℕ → ℕ → ℕ → List Call → Type 0
LivesThrough ws q i [] = Unit {0}
LivesThrough ws q i (c ∷ cs) = Spares ws q i c × LivesThrough (after ws c) q i cs

-- the octets of a history are octets
abbrev pub OctetCall : Call → Type 0
OctetCall (taking set port t s) = (k : ℕ) → get_or s k 0 < 256
OctetCall (setting port k) = Unit {0}
OctetCall (asking port) = Unit {0}

abbrev pub OctetCalls : List Call → Type 0
OctetCalls [] = Unit {0}
OctetCalls (c ∷ cs) = OctetCall c × OctetCalls cs
