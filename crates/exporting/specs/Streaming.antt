-- A trace written block by block, for a writer that streams: the head, and then for each block the octets that `export_block` says it has put, with what
-- the blocks before it left. One place for a block's packets is lent again and again.
use Rattle.std.specs.Prelude.{ℕ, List, [], ◌∷◌, ◌++◌, Bool, true, false, ◌&&◌, take, Result, Ok, Err}
use Rattle.exporting.specs.Exporting.{export_block_of, reader_behind, packets_behind}
use Rattle.refusal.specs.declared.Refusal.{Refusal}

-- the words of a writer that has read nothing
abbrev pub zero_words : List ℕ
zero_words = 0 ∷ 0 ∷ 0 ∷ []

abbrev pub is_written : Result ℕ Refusal → Bool
is_written (Ok n) = true
is_written (Err x) = false

-- the octets that an answer says were put
abbrev pub put_by : Result ℕ Refusal → List ℕ → List ℕ
put_by (Ok n) out = take n out
put_by (Err x) out = []

-- no block is refused on the way
abbrev pub writes_each : List ℕ → List (List ℕ) → Bool
writes_each rs [] = true
writes_each rs (b ∷ bs) = is_written (export_block_of rs b) && writes_each (reader_behind rs b) bs

-- the octets that were put for the blocks, one behind the other
abbrev pub put_each : List ℕ → List ℕ → List (List ℕ) → List ℕ
put_each rs out [] = []
put_each rs out (b ∷ bs) = put_by (export_block_of rs b) (packets_behind rs out b) ++ put_each (reader_behind rs b) (packets_behind rs out b) bs
