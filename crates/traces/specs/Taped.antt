-- What a recording comes to, over the calls from a fresh one on: the trace that it gave, and which records are in it.
use Rattle.std.specs.Prelude.{ℕ, suc, ◌+◌, ◌≤◌, ◌<◌, ◌≡◌, List, [], ◌∷◌, ◌++◌, Bool, false, leb, length, Result, Ok, Err}
use Rattle.refusal.specs.Choice.{pick}
use Rattle.block.specs.Layout.{block_octets, records_at, longest, Entry}
use Rattle.judging.specs.Tests.{verdict_of, reader_after}
use Rattle.judging.specs.declared.Reader.{Reader}
use Rattle.block.specs.Making.{size_of, sizes_of, sealed, open_block, block_of}
use Rattle.recording.specs.Recording.{next_of, end_of, is_open, closes, record_check, open_after, words_after}
use Rattle.refusal.specs.declared.Refusal.{Refusal}

-- a recording: the open block and its words; the octets that it gave so far
pub record Tape : Type 0 where
  pub opened : List ℕ
  pub words : List ℕ
  pub given : List ℕ

-- the octets that a call gives: the block that it closes
abbrev pub given_by : Result (Unit {0}) Refusal → List ℕ → List ℕ → Entry → List ℕ
given_by (Err x) opened ws e = []
given_by (Ok tt) opened ws e = pick (closes ws e) (sealed opened) []

-- one call, and one after another
abbrev pub taped_with : Tape → Entry → Tape
taped_with t e =
    record {
      opened = open_after t.opened t.words e;
      words = words_after t.words e;
      given = t.given ++ given_by (record_check t.words e) t.opened t.words e;
    }

unfoldable pub taped_all : Tape → List Entry → Tape
taped_all t [] = t
taped_all t (e ∷ es) = taped_all (taped_with t e) es

-- the trace: all that came out, and the open block at last
abbrev pub trace_of : Tape → List ℕ
trace_of t = t.given ++ pick (is_open t.words) (sealed t.opened) []

-- a recording whose next block is n
abbrev pub fresh_tape : List ℕ → ℕ → Tape
fresh_tape opened n = record { opened = opened; words = n ∷ 0 ∷ 0 ∷ []; given = [] }

-- those of the entries that recording does not refuse, in their order
abbrev pub kept_by : Result (Unit {0}) Refusal → Entry → List Entry → List Entry
kept_by (Err x) e es = es
kept_by (Ok tt) e es = e ∷ es

unfoldable pub kept_of : Tape → List Entry → List Entry
kept_of t [] = []
kept_of t (e ∷ es) = kept_by (record_check t.words e) e (kept_of (taped_with t e) es)

-- "each filled while the next record fits": records cut into blocks, behind those that the open one holds
abbrev pub has_room : List Entry → Entry → Bool
has_room held e = leb (records_at + (sizes_of held + size_of e)) block_octets

unfoldable pub cut_from : List Entry → List Entry → List (List Entry)
cut_from held [] = held ∷ []
cut_from held (e ∷ es) = pick (has_room held e) (cut_from (held ++ (e ∷ [])) es) (held ∷ cut_from (e ∷ []) es)

abbrev pub cut : List Entry → List (List Entry)
cut [] = []
cut (e ∷ es) = cut_from (e ∷ []) es

-- "number from 0 by one": such blocks, closed, from a number on
unfoldable pub numbered : ℕ → List (List Entry) → List (List ℕ)
numbered n [] = []
numbered n (es ∷ bs) = block_of n es ∷ numbered (suc n) bs

-- ---- WHAT IS SAID OF THEM
-- "lengths up to 485"
abbrev pub IsShort : Entry → Type 0
IsShort e = length e.message ≤ longest

-- the records of a block: "at least one", and it has room for them
pub record IsHeld (es : List Entry) : Type 0 where
  pub some : 0 < length es
  pub room : records_at + sizes_of es ≤ block_octets

-- blocks, each filled: the first record of the next had no room in it
pub data Filled : List (List Entry) → Type 0 where
  none : Filled []
  last : {es : List Entry} → IsHeld es → Filled (es ∷ [])
  more : {es : List Entry} {e : Entry} {rest : List Entry} {bs : List (List Entry)}
      → IsHeld es → has_room es e ≡ false → Filled ((e ∷ rest) ∷ bs) → Filled (es ∷ (e ∷ rest) ∷ bs)

-- the open block is number n and holds these records, behind which the next goes
pub record Holding (t : Tape) (n : ℕ) (held : List Entry) : Type 0 where
  pub opened_is : t.opened ≡ open_block n held
  pub next_is : next_of t.words ≡ suc n
  pub end_is : end_of t.words ≡ records_at + sizes_of held
  pub is_held : IsHeld held

-- what the words of a recording say: no block is open, or one is, and it is the one before the next
pub data Means (t : Tape) : Type 0 where
  closed : end_of t.words ≡ 0 → Means t
  holding : {n : ℕ} {held : List Entry} → Holding t n held → Means t

-- blocks that a reader takes one behind the other: each is whole and passes the four tests behind those before it
pub data Sounds : Reader → List (List ℕ) → Type 0 where
  end : {r : Reader} → Sounds r []
  next : {r : Reader} {b : List ℕ} {bs : List (List ℕ)}
      → length b ≡ block_octets → verdict_of r b ≡ Ok (reader_after r b) → Sounds (reader_after r b) bs → Sounds r (b ∷ bs)
