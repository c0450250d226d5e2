-- The records of a block one after the other, by where they stand. In proofs/Walked.antt: of a block whose layout is right, the records met so, from
-- octet 0 on, are exactly its records.
use Rattle.std.specs.Prelude.{ℕ, zero, suc, ◌+◌, List, [], ◌∷◌, Bool, ◌&&◌, leb, ltb, Option, Some, None}
use Rattle.refusal.specs.Choice.{pick}
use Rattle.refusal.specs.Limits.{is_port}
use Rattle.block.specs.Layout.{block_octets, records_at, head_octets, Entry, time_at, port_at, length_at, entry_at, end_at}
use Rattle.judging.specs.declared.walking.Place.{Place}

-- a whole record, of one of the ports
abbrev pub is_record_at : List ℕ → ℕ → Bool
is_record_at s at = leb (end_at s at) block_octets && is_port (port_at s at)

abbrev pub place_at : List ℕ → ℕ → Place
place_at s at = record { time = time_at s at; port = port_at s at; at = at + head_octets; length = length_at s at; end = end_at s at }

unfoldable pub record_at : List ℕ → ℕ → Option Place
record_at s at = pick (is_record_at s at) (Some (place_at s at)) None

-- an octet of the head stands for the first record
abbrev pub next_record : List ℕ → ℕ → Option Place
next_record s from = pick (ltb from records_at) (record_at s records_at) (record_at s from)

-- so many steps from an octet on, each from where the record before it ended: the records met
unfoldable pub walked : ℕ → List ℕ → ℕ → List Entry
walked zero s at = []
walked (suc n) s at = pick (is_record_at s at) (entry_at s at ∷ walked n s (end_at s at)) []
