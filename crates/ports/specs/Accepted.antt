-- What one port accepted, out of the calls of a clock: its history as senders/specs/History has it.
use Rattle.std.specs.Prelude.{ℕ, ◌<◌, ◌≡◌, List, [], ◌∷◌, eqb, Some, Result, Ok, Err}
use Rattle.refusal.specs.Choice.{pick}
use Rattle.rank.specs.declared.Candidate.{Candidate}
use Rattle.identity.specs.declared.PortIdentity.{PortIdentity}
use Rattle.senders.specs.Record.{window_of}
use Rattle.senders.specs.History.{PortEvent, announced, interval, Receipt, accepted_from, made_by, Steady}
use Rattle.ports.specs.Intake.{admitted_of}
use Rattle.ports.specs.Interval.{is_interval, exponent_of}
use Rattle.ports.specs.Asking.{candidate_on}
use Rattle.ports.specs.History.{Call, taking, setting, asking, port_of_call}
use Rattle.senders.specs.declared.Notice.{Notice}
use Rattle.refusal.specs.declared.Refusal.{Refusal}

-- what a call adds to the history of its port: an Announce that 1 to 10 do not refuse, an interval that 18 does not
abbrev pub announced_by : ℕ → Result Notice Refusal → List PortEvent → List PortEvent
announced_by t (Err x) hs = hs
announced_by t (Ok a) hs = announced t a ∷ hs

abbrev pub added_by : Call → List PortEvent → List PortEvent
added_by (taking set port t s) hs = announced_by t (admitted_of set port s) hs
added_by (setting port k) hs = pick (is_interval k) (interval (exponent_of k) ∷ hs) hs
added_by (asking port) hs = hs

-- the history of port q after calls, newest first, on top of an earlier one
abbrev pub history_from : ℕ → List PortEvent → List Call → List PortEvent
history_from q hs [] = hs
history_from q hs (c ∷ cs) = history_from q (pick (eqb (port_of_call c) q) (added_by c hs) hs) cs

-- since the clock was fresh
abbrev pub history_on : ℕ → List Call → List PortEvent
history_on q cs = history_from q [] cs

-- the accepted Announces of sender x on port q, newest first
abbrev pub accepted_on : ℕ → List Call → PortIdentity → List Receipt
accepted_on q cs x = accepted_from x (history_on q cs)

-- no call sets the interval of port q
abbrev pub Unset : ℕ → List Call → Type 0
Unset q [] = Unit {0}
Unset q (taking set port t s ∷ cs) = Unset q cs
Unset q (setting port k ∷ cs) = (port ≡ q → ⊥) × Unset q cs
Unset q (asking port ∷ cs) = Unset q cs

-- the interval of port q is not changed between Announces: each came under the window w, which stands
pub record SteadyOn (q : ℕ) (cs : List Call) (w : ℕ) : Type 0 where
  pub came : Steady w (history_on q cs)
  pub stands : window_of (made_by (history_on q cs)).e ≡ w

-- asking port q at t finds the candidate in one of its slots
pub record IsCandidate (ws : List ℕ) (q t : ℕ) (c : Candidate) : Type 0 where
  pub slot : ℕ
  pub inside : slot < 16
  pub is : candidate_on ws q slot t ≡ Ok (Some c)
