-- What only the code needs: candidates by where their records begin in the words of eighteen ports.
use Rattle.std.specs.Prelude.{ℕ, ◌+◌, ◌-◌, ◌*◌, ◌/◌, List, eqb, Option, Some, None, Result, Ok}
use Rattle.refusal.specs.Choice.{pick}
use Rattle.rank.specs.declared.Candidate.{Candidate}
use Rattle.senders.specs.Record.{candidate_of}
use Rattle.slots.specs.Words.{port_words, block, record_of}
use Rattle.slots.specs.Places.{place_in}
use Rattle.ports.specs.Words.{own}
use Rattle.refusal.specs.declared.Refusal.{Refusal}

-- a place in the port's own words as one in the words of all ports; 0 is none
abbrev pub place_from : ℕ → ℕ → ℕ
place_from port i = pick (eqb i 0) 0 (port_words * (port - 1) + i)

-- the place of a port's best candidate
unfoldable pub place_on : List ℕ → ℕ → ℕ → ℕ
place_on ws port t = place_from port (place_in (own ws port) t)

-- the port of a place
abbrev pub port_by : ℕ → ℕ
port_by at = at / port_words + 1

-- the candidate at a place
unfoldable pub candidate_at : List ℕ → ℕ → Candidate
candidate_at ws at = candidate_of (port_by at) (record_of (block ws at 6))

-- and whether there is one
abbrev pub found_at : List ℕ → ℕ → Result (Option Candidate) Refusal
found_at ws at = pick (eqb at 0) (Ok None) (Ok (Some (candidate_at ws at)))
