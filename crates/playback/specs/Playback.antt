-- Replaying a trace (02, (iv): "Replayed from fresh state, a trace gives the records, candidates and decisions that the live calls gave, however
-- its blocks were split"; "in replay 20 BLOCK, check, layout (a short block too), number or time order wrong").
use Rattle.std.specs.Prelude.{ℕ, zero, suc, ◌+◌, ◌/◌, ◌%◌, List, [], ◌∷◌, ◌++◌, map, Bool, true, false, not, ◌&&◌, eqb, get_or, length, take, drop, Result, Ok, Err}
use Rattle.refusal.specs.Choice.{pick, refuse}
use Rattle.refusal.specs.declared.Refusal.TheVariants as refusal
use Rattle.senders.specs.Port.{tab}
use Rattle.slots.specs.Words.{port_words}
use Rattle.block.specs.Layout.{block_octets, Entry, entries_of}
use Rattle.judging.specs.Tests.{verdict_of, reader_after}
use Rattle.judging.specs.declared.Reader.{Reader}
use Rattle.judging.specs.declared.Flaw.{Flaw}
use Rattle.ports.specs.declared.intake.Settings.{Settings}
use Rattle.ports.specs.History.{Call, taking, run}
use Rattle.ports.specs.Words.{all_words}
use Rattle.refusal.specs.declared.Refusal.{Refusal}

-- a record as the call that takes its message
abbrev pub call_of : Settings → Entry → Call
call_of by e = taking by e.port e.time e.message

abbrev pub calls_of : Settings → List Entry → List Call
calls_of by es = map (call_of by) es

-- ---- A BLOCK
abbrev pub is_sound : Result Reader Flaw → Bool
is_sound (Err flaw) = false
is_sound (Ok r) = true

-- the reader's two words
abbrev pub reader_of : List ℕ → Reader
reader_of rs = record { next = get_or rs 0 0; last = get_or rs 1 0 }

abbrev pub reader_words : Reader → List ℕ
reader_words r = r.next ∷ r.last ∷ []

-- "20 BLOCK", or its messages are taken one after another
abbrev pub accepts : Reader → List ℕ → Bool
accepts r s = is_sound (verdict_of r s)

abbrev pub block_check : Reader → List ℕ → Result (Unit {0}) Refusal
block_check r s = refuse (not (accepts r s)) (Err refusal.Block) (Ok tt)

abbrev pub words_after_block : Settings → Reader → List ℕ → List ℕ → List ℕ
words_after_block by r ws s = pick (accepts r s) (run ws (calls_of by (entries_of s))) ws

abbrev pub reader_after_block : List ℕ → List ℕ → List ℕ
reader_after_block rs s = pick (accepts (reader_of rs) s) (reader_words (reader_after (reader_of rs) s)) rs

-- ---- A TRACE
-- blocks one behind the other; the last may be short
unfoldable pub chunks : ℕ → List ℕ → List (List ℕ)
chunks zero s = []
chunks (suc n) s = take block_octets s ∷ chunks n (drop block_octets s)

abbrev pub chunk_count : ℕ → ℕ
chunk_count n = (n + 511) / block_octets

abbrev pub blocks_in : List ℕ → List (List ℕ)
blocks_in s = chunks (chunk_count (length s)) s

-- each is accepted behind those before it
unfoldable pub accepts_all : Reader → List (List ℕ) → Bool
accepts_all r [] = true
accepts_all r (b ∷ bs) = accepts r b && accepts_all (reader_after r b) bs

-- the reader behind them, and all their records
unfoldable pub reader_after_all : Reader → List (List ℕ) → Reader
reader_after_all r [] = r
reader_after_all r (b ∷ bs) = reader_after_all (reader_after r b) bs

unfoldable pub entries_of_all : List (List ℕ) → List Entry
entries_of_all [] = []
entries_of_all (b ∷ bs) = entries_of b ++ entries_of_all bs

-- nothing read yet
abbrev pub fresh_reader : Reader
fresh_reader = record { next = 0; last = 0 }

abbrev pub is_trace : List ℕ → Bool
is_trace s = accepts_all fresh_reader (blocks_in s)

-- "from fresh state": no record, no time; the intervals are settings and stay
abbrev pub cleared_word : List ℕ → ℕ → ℕ
cleared_word ws i = pick (eqb (i % port_words) 1) (get_or ws i 0) 0

unfoldable pub cleared : List ℕ → List ℕ
cleared ws = tab all_words (cleared_word ws)

-- the last record's time, 0 for an empty trace; or 20
abbrev pub replay_of : List ℕ → Result ℕ Refusal
replay_of s =
    refuse (not (is_trace s)) (Err refusal.Block) (Ok (reader_after_all fresh_reader (blocks_in s)).last)

-- the words after it: those of the clock that took the records of all blocks; "nothing has changed" where it is refused
abbrev pub replayed_from : Settings → List ℕ → List ℕ → List ℕ
replayed_from by ws s = run (cleared ws) (calls_of by (entries_of_all (blocks_in s)))

abbrev pub words_after_replay : Settings → List ℕ → List ℕ → List ℕ
words_after_replay by ws s = pick (is_trace s) (replayed_from by ws s) ws
