-- A port by its history alone (01, "Sender records"): which Announces were accepted, of whom, and when. What a port keeps of a sender
-- and whether that is a candidate is said here without slots; the theorems tie it to them.
use Rattle.std.specs.Prelude.{◌≡◌, ℕ, ◌-◌, Bool, true, false, not, ◌&&◌, List, [], ◌∷◌, ◌==◌, nat_le, nat_lt, Option, Some, None, Result, Ok, Err}
use Rattle.refusal.specs.Choice.{pick}
use Rattle.identity.specs.declared.PortIdentity.{PortIdentity}
use Rattle.senders.specs.declared.Notice.{Notice}
use Rattle.senders.specs.declared.Record.{Record}
use Rattle.senders.specs.Record.{window_of, is_of, is_live, is_distant, is_newer, candidate_of}
use Rattle.senders.specs.Port.{Port, tab, empty_slot, first, plan_of, port_after}
use Rattle.rank.specs.declared.Candidate.{Candidate}
use Rattle.refusal.specs.declared.Refusal.{Refusal}

-- what happens to a port: an Announce at a time, or an interval that is set (k modulo 8)
pub data PortEvent : Type 0 where
  announced : ℕ → Notice → PortEvent
  interval : ℕ → PortEvent

-- a fresh port, and the port after a history, newest first
abbrev pub fresh_port : Port
fresh_port = record { last = 0; e = 0; slots = tab 16 (λ i. empty_slot) }

abbrev pub happens_to : Port → PortEvent → Port
happens_to p (announced t a) = port_after p t (plan_of p t a)
happens_to p (interval e) = record { last = p.last; e = e; slots = p.slots }

unfoldable pub made_by : List PortEvent → Port
made_by [] = fresh_port
made_by (h ∷ older) = happens_to (made_by older) h

-- an Announce that was accepted: when, and what it said
pub record Receipt : Type 0 where
  pub at : ℕ
  pub notice : Notice

abbrev pub accepts : Result (ℕ × Record) Refusal → Bool
accepts (Err x) = false
accepts (Ok (i, r)) = true

-- "last accepted time (nanoseconds, 64-bit, starts at 0)"
unfoldable pub last_accepted : List PortEvent → ℕ
last_accepted [] = 0
last_accepted (announced t a ∷ older) = pick (accepts (plan_of (made_by older) t a)) t (last_accepted older)
last_accepted (interval e ∷ older) = last_accepted older

-- whose an Announce is: "Identities are ten octets, clock then port."
abbrev pub is_by : PortIdentity → Notice → Bool
is_by x a = a.sender.clock == x.clock && a.sender.port == x.port

-- the sender's accepted Announces, newest first
unfoldable pub accepted_from : PortIdentity → List PortEvent → List Receipt
accepted_from x [] = []
accepted_from x (announced t a ∷ older) =
    pick (accepts (plan_of (made_by older) t a) && is_by x a) (record { at = t; notice = a } ∷ accepted_from x older) (accepted_from x older)
accepted_from x (interval e ∷ older) = accepted_from x older

-- whether a port has a live record of the sender
unfoldable pub has_live : PortIdentity → Port → ℕ → Bool
has_live x p t = nat_lt (first (λ r. is_of x r && is_live (window_of p.e) t r) p.slots) 16

-- those since it last restarted: one that finds no live record of its sender starts anew, "with one receipt"
unfoldable pub since : PortIdentity → List PortEvent → List Receipt
since x [] = []
since x (announced t a ∷ older) =
    pick (accepts (plan_of (made_by older) t a) && is_by x a)
    (record { at = t; notice = a } ∷ pick (has_live x (made_by older) t) (since x older) [])
    (since x older)
since x (interval e ∷ older) = since x older

-- the record that they make: the times of the last two, how many there were (two at most), and the data of the last
abbrev pub kept_of : List Receipt → Record
kept_of [] = empty_slot
kept_of (n ∷ []) = record { notice = n.notice; receipts = 1; newest = n.at; older = 0 }
kept_of (n ∷ o ∷ l) = record { notice = n.notice; receipts = 2; newest = n.at; older = o.at }

-- the candidate that a sender's accepted Announces make at t under a window w: none unless there are two, the older of the last
-- two lies within w of t, and the last is not distant; then by the data of the last
abbrev pub candidate_by : ℕ → ℕ → ℕ → List Receipt → Result (Option Candidate) Refusal
candidate_by port w t [] = Ok None
candidate_by port w t (n ∷ []) = Ok None
candidate_by port w t (n ∷ o ∷ l) = pick (nat_le (t - o.at) w && not (is_distant n.notice)) (Ok (Some (candidate_of port (kept_of (n ∷ o ∷ l))))) (Ok None)

-- 12 by a sender's accepted Announces: "live record, sequenceId not newer"
abbrev pub stale_by : ℕ → ℕ → Notice → List Receipt → Bool
stale_by w t a [] = false
stale_by w t a (n ∷ l) = nat_le (t - n.at) w && not (is_newer a.sequence n.notice.sequence)

-- those since the last gap that is longer than w: where the interval is not changed, that is the last restart
unfoldable pub unbroken : ℕ → List Receipt → List Receipt
unbroken w [] = []
unbroken w (n ∷ []) = n ∷ []
unbroken w (n ∷ o ∷ l) = n ∷ pick (nat_le (n.at - o.at) w) (unbroken w (o ∷ l)) []

-- the interval is not changed between Announces: each came under the window w
unfoldable pub Steady : ℕ → List PortEvent → Type 0
Steady w [] = Unit {0}
Steady w (announced t a ∷ older) = (window_of (made_by older).e ≡ w) × Steady w older
Steady w (interval e ∷ older) = Steady w older
