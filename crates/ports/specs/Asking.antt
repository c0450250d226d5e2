-- Asking (01, "Sender records": "Asking for candidates at T changes nothing and is refused with 8, then 11.").
use Rattle.std.specs.Prelude.{ℕ, ℤ, List, not, Option, Result, Ok, Err}
use Rattle.refusal.specs.Choice.{refuse}
use Rattle.refusal.specs.declared.Refusal.TheVariants.{Port}
use Rattle.rank.specs.Ranked.{is_port}
use Rattle.senders.specs.Port.{asked_of, candidate_in, best_of}
use Rattle.slots.specs.Words.{port_of, seen_in}
use Rattle.ports.specs.Words.{own, port_at}
use Rattle.ports.specs.Interval.{interval_of}
use Rattle.rank.specs.declared.Candidate.{Candidate}
use Rattle.senders.specs.declared.Record.{Record}
use Rattle.refusal.specs.declared.Refusal.{Refusal}

-- "port outside 1 to 18"
abbrev pub on_port : ℕ → Result (Option Candidate) Refusal → Result (Option Candidate) Refusal
on_port port answer = refuse (not (is_port port)) (Err Port) answer

-- the candidate in a slot, and the best
abbrev pub candidate_on : List ℕ → ℕ → ℕ → ℕ → Result (Option Candidate) Refusal
candidate_on ws port slot t = on_port port (asked_of (port_at ws port) t (candidate_in port (port_at ws port) slot t))

abbrev pub best_on : List ℕ → ℕ → ℕ → Result (Option Candidate) Refusal
best_on ws port t = on_port port (asked_of (port_at ws port) t (best_of port (port_at ws port) t))

-- last accepted time and interval
abbrev pub known_in : List ℕ → Result (ℕ × ℤ) Refusal
known_in ws = Ok ((port_of ws).last, interval_of (port_of ws).e)

abbrev pub status_of : List ℕ → ℕ → Result (ℕ × ℤ) Refusal
status_of ws port = refuse (not (is_port port)) (Err Port) (known_in (own ws port))

-- a slot that ever held a record
abbrev pub looked_at : List ℕ → ℕ → ℕ → Result (Option Record) Refusal
looked_at ws port slot = refuse (not (is_port port)) (Err Port) (Ok (seen_in (port_at ws port) slot))
