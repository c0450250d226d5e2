-- Recording a message (02, (iv): "Ours number from 0 by one, each filled while the next record fits."; "Refusals: in recording 8, then 19 LONG,
-- message over 485 octets, then 11 for a time below the last recorded one on any port, then 17 past block number 4,294,967,295").
-- A recording is an open block and three words: the number of the next block, the last recorded time, and where in the open block the next
-- record goes. Words of zero are a fresh recording: its first block is 0, and no block is open.
use Rattle.std.specs.Prelude.{ℕ, suc, ◌+◌, List, [], ◌∷◌, Bool, not, ◌&&◌, leb, ltb, get_or, length, Result, Ok, Err}
use Rattle.refusal.specs.Choice.{pick, refuse}
use Rattle.refusal.specs.Limits.{is_port}
use Rattle.refusal.specs.declared.Refusal.TheVariants.{Port, Long, Backward, Many}
use Rattle.block.specs.Layout.{block_octets, records_at, head_octets, longest, Entry}
use Rattle.block.specs.Making.{opened_of, added_to, sealed}
use Rattle.refusal.specs.declared.Refusal.{Refusal}

-- a message with its time and port
abbrev pub entry_of : ℕ → ℕ → List ℕ → Entry
entry_of t port message = record { time = t; port = port; message = message }

-- the three words
abbrev pub next_of : List ℕ → ℕ
next_of ws = get_or ws 0 0

abbrev pub last_of : List ℕ → ℕ
last_of ws = get_or ws 1 0

abbrev pub end_of : List ℕ → ℕ
end_of ws = get_or ws 2 0

-- a block is open: records stand in it
abbrev pub is_open : List ℕ → Bool
is_open ws = leb records_at (end_of ws)

-- "while the next record fits": a message of n octets goes behind those that are there
abbrev pub has_place : ℕ → ℕ → Bool
has_place end n = leb records_at end && leb (end + (head_octets + n)) block_octets

abbrev pub fits : List ℕ → Entry → Bool
fits ws e = has_place (end_of ws) (length e.message)

-- "8, then 19 .., then 11 .., then 17": 17 only where the record needs a new block
unfoldable pub check_by : ℕ → ℕ → ℕ → ℕ → ℕ → ℕ → Result (Unit {0}) Refusal
check_by next last end port t n =
    refuse (not (is_port port)) (Err Port)
    (refuse (ltb longest n) (Err Long)
    (refuse (ltb t last) (Err Backward)
    (refuse (not (has_place end n) && ltb 4294967295 next) (Err Many)
    (Ok tt))))

abbrev pub record_check : List ℕ → Entry → Result (Unit {0}) Refusal
record_check ws e = check_by (next_of ws) (last_of ws) (end_of ws) e.port e.time (length e.message)

-- the open block, the words, and the block that comes out, after a record that is taken
abbrev pub open_with : List ℕ → List ℕ → Entry → List ℕ
open_with opened ws e = pick (fits ws e) (added_to opened (end_of ws) e) (added_to (opened_of (next_of ws) e.time) records_at e)

-- a message of n octets at t
abbrev pub words_by : List ℕ → ℕ → ℕ → List ℕ
words_by ws t n =
    pick (has_place (end_of ws) n) (next_of ws ∷ t ∷ (end_of ws + (head_octets + n)) ∷ []) (suc (next_of ws) ∷ t ∷ (records_at + (head_octets + n)) ∷ [])

abbrev pub words_with : List ℕ → Entry → List ℕ
words_with ws e = words_by ws e.time (length e.message)

-- "A record that no longer fits closes the block"
abbrev pub closes : List ℕ → Entry → Bool
closes ws e = not (fits ws e) && is_open ws

abbrev pub told_by : Bool → Result Bool Refusal
told_by closed = Ok closed

abbrev pub out_by : Bool → List ℕ → List ℕ → List ℕ
out_by closed opened out = pick closed (sealed opened) out

abbrev pub told_of : List ℕ → Entry → Result Bool Refusal
told_of ws e = told_by (closes ws e)

abbrev pub out_with : List ℕ → List ℕ → Entry → List ℕ → List ℕ
out_with opened ws e out = out_by (closes ws e) opened out

-- what recording answers, and all that is lent to it afterwards: a refusal changes nothing
abbrev pub answer_by : Result (Unit {0}) Refusal → Result Bool Refusal → Result Bool Refusal
answer_by (Err x) told = Err x
answer_by (Ok tt) told = told

abbrev pub lent_by : Result (Unit {0}) Refusal → List ℕ → List ℕ → List ℕ
lent_by (Err x) before after = before
lent_by (Ok tt) before after = after

abbrev pub recorded_of : List ℕ → Entry → Result Bool Refusal
recorded_of ws e = answer_by (record_check ws e) (told_of ws e)

abbrev pub open_after : List ℕ → List ℕ → Entry → List ℕ
open_after opened ws e = lent_by (record_check ws e) opened (open_with opened ws e)

abbrev pub words_after : List ℕ → Entry → List ℕ
words_after ws e = lent_by (record_check ws e) ws (words_with ws e)

abbrev pub out_after : List ℕ → List ℕ → Entry → List ℕ → List ℕ
out_after opened ws e out = lent_by (record_check ws e) out (out_with opened ws e out)

-- the open block as it would be closed now; nothing where none is open
abbrev pub finished : List ℕ → List ℕ → List ℕ → List ℕ
finished opened ws out = out_by (is_open ws) opened out
