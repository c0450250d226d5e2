-- A trace block by block, for a reader that streams: each block is replayed with what the blocks before it left.
use Rattle.std.specs.Prelude.{ℕ, List, [], ◌∷◌, Bool, true, ◌&&◌}
use Rattle.ports.specs.declared.intake.Settings.{Settings}
use Rattle.playback.specs.Playback.{reader_of, accepts, words_after_block, reader_after_block}

-- the reader's words of a reader that has read nothing
abbrev pub zero_reader : List ℕ
zero_reader = 0 ∷ 0 ∷ []

-- no block is refused on the way
abbrev pub accepts_each : List ℕ → List (List ℕ) → Bool
accepts_each rs [] = true
accepts_each rs (b ∷ bs) = accepts (reader_of rs) b && accepts_each (reader_after_block rs b) bs

-- the words of the clock behind the blocks, and those of the reader
abbrev pub words_after_each : Settings → List ℕ → List ℕ → List (List ℕ) → List ℕ
words_after_each by rs ws [] = ws
words_after_each by rs ws (b ∷ bs) = words_after_each by (reader_after_block rs b) (words_after_block by (reader_of rs) ws b) bs

abbrev pub reader_after_each : List ℕ → List (List ℕ) → List ℕ
reader_after_each rs [] = rs
reader_after_each rs (b ∷ bs) = reader_after_each (reader_after_block rs b) bs
