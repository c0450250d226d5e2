-- The four tests of a block, in their order (02, (iv): "check, layout (a short block too), number or time order wrong, checked in that order").
-- Each is a definition of its own.
use Rattle.std.specs.Prelude.{ℕ, zero, suc, List, [], ◌∷◌, Bool, true, not, ◌&&◌, eqb, leb, length, drop, Option, Some, None, Result, Ok, Err}
use Rattle.refusal.specs.Choice.{pick, refuse}
use Rattle.refusal.specs.Limits.{is_port}
use Rattle.block.specs.Layout.{block_octets, records_at, Entry, number_of, first_time_of, count_of, time_at, port_at, end_at, entries_of}
use Rattle.block.specs.Check.{is_checked}
use Rattle.judging.specs.declared.Reader.{Reader}
use Rattle.judging.specs.declared.Flaw.{Flaw}
use Rattle.judging.specs.declared.Flaw.TheVariants.{Check, Layout, Number, Time}

-- "512 octets": what is shorter, or longer, has no 256 words to be summed up, and is refused for its layout
abbrev pub is_whole : List ℕ → Bool
is_whole s = eqb (length s) block_octets

-- ---- CHECK
abbrev pub fails_check : List ℕ → Bool
fails_check s = is_whole s && not (is_checked s)

-- ---- LAYOUT
-- "rest zero"
unfoldable pub all_zero : List ℕ → Bool
all_zero [] = true
all_zero (x ∷ xs) = eqb x 0 && all_zero xs

-- "whole records", so many from an octet on, with "ports of 1 to 18", and the rest is zero. "lengths up to 485" need no test of their own: a
-- longer record would not be whole.
unfoldable pub laid_from : ℕ → List ℕ → ℕ → Bool
laid_from zero s at = all_zero (drop at s)
laid_from (suc n) s at = leb (end_at s at) block_octets && (is_port (port_at s at) && laid_from n s (end_at s at))

-- "at least one"; "first record's time 6-13"
unfoldable pub is_laid : List ℕ → Bool
is_laid s = is_whole s && (leb 1 (count_of s) && (eqb (first_time_of s) (time_at s records_at) && laid_from (count_of s) s records_at))

-- ---- NUMBER
-- "Block numbers rise strictly": the number is at least the one behind that of the block before; the first block may have any
abbrev pub is_next : ℕ → List ℕ → Bool
is_next next s = leb next (number_of s)

-- ---- TIME
-- "times never fall along the trace": neither from the last time before the records nor from one to the next
unfoldable pub is_in_order : ℕ → List Entry → Bool
is_in_order last [] = true
is_in_order last (e ∷ es) = leb last e.time && is_in_order e.time es

-- the last time
unfoldable pub last_of : ℕ → List Entry → ℕ
last_of last [] = last
last_of last (e ∷ es) = last_of e.time es

abbrev pub times_of : ℕ → List Entry → Option ℕ
times_of last es = pick (is_in_order last es) (Some (last_of last es)) None

-- ---- ALL FOUR
-- what a reader keeps of the blocks that it has read
abbrev pub reader_after : Reader → List ℕ → Reader
reader_after r s = record { next = suc (number_of s); last = last_of r.last (entries_of s) }

-- "checked in that order"
unfoldable pub verdict_of : Reader → List ℕ → Result Reader Flaw
verdict_of r s =
    refuse (fails_check s) (Err Check)
    (refuse (not (is_laid s)) (Err Layout)
    (refuse (not (is_next r.next s)) (Err Number)
    (refuse (not (is_in_order r.last (entries_of s))) (Err Time)
    (Ok (reader_after r s)))))
