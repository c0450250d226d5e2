-- Blocks as they are made: a number and a first time, one record behind the other, and the check last (02, (iv)).
use Rattle.std.specs.Prelude.{ℕ, suc, ◌+◌, ◌-◌, ◌<◌, ◌≡◌, true, List, [], ◌∷◌, ◌++◌, length, get_or, drop, replicate}
use Rattle.refusal.specs.Limits.{is_port}
use Rattle.octets.specs.Be.{octets_of}
use Rattle.stores.specs.Stores.{over}
use Rattle.block.specs.Layout.{block_octets, records_at, head_octets, Entry, count_of}
use Rattle.block.specs.Check.{check_for}

-- "time 8, port 1, length 2, message", before what follows
abbrev pub entry_octets : Entry → List ℕ → List ℕ
entry_octets e rest = octets_of 8 e.time (e.port ∷ octets_of 2 (length e.message) (e.message ++ rest))

-- how many octets that is
abbrev pub size_of : Entry → ℕ
size_of e = head_octets + length e.message

-- a block that is open for its first record, at t: "rest zero", the check too as long as it is open
abbrev pub opened_of : ℕ → ℕ → List ℕ
opened_of number t = 0 ∷ 0 ∷ octets_of 4 number (octets_of 8 t (octets_of 2 0 (replicate (block_octets - records_at) 0)))

-- with one record more, from an octet on
unfoldable pub added_to : List ℕ → ℕ → Entry → List ℕ
added_to s at e = over (over s 14 (octets_of 2 (suc (count_of s)) [])) at (entry_octets e [])

-- closed: with its check
unfoldable pub sealed : List ℕ → List ℕ
sealed s = octets_of 2 (check_for s) (drop 2 s)

-- ---- WHAT IS SAID OF THEM
-- records one behind the other, before what follows, and how many octets they are
unfoldable pub entries_octets : List Entry → List ℕ → List ℕ
entries_octets [] rest = rest
entries_octets (e ∷ es) rest = entry_octets e (entries_octets es rest)

unfoldable pub sizes_of : List Entry → ℕ
sizes_of [] = 0
sizes_of (e ∷ es) = size_of e + sizes_of es

-- the time of the first record
abbrev pub first_of : List Entry → ℕ
first_of [] = 0
first_of (e ∷ es) = e.time

-- the open block that holds some records, and the same closed
abbrev pub open_block : ℕ → List Entry → List ℕ
open_block number es =
    0
    ∷ 0
    ∷ octets_of 4 number
    (octets_of 8 (first_of es) (octets_of 2 (length es) (entries_octets es (replicate (block_octets - records_at - sizes_of es) 0))))

abbrev pub block_of : ℕ → List Entry → List ℕ
block_of number es = sealed (open_block number es)

-- what a record can be made of: a time of eight octets, a port of one, a message of octets
pub record EntryFits (e : Entry) : Type 0 where
  pub time : e.time < 18446744073709551616
  pub port : e.port < 256
  pub octets : (k : ℕ) → get_or e.message k 0 < 256

-- it came in on a port that there is
abbrev pub OnPort : Entry → Type 0
OnPort e = is_port e.port ≡ true

-- the same of each of several
abbrev pub All : (Entry → Type 0) → List Entry → Type 0
All P [] = Unit {0}
All P (e ∷ es) = P e × All P es
