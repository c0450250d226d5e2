-- What recording, replaying and looking into a block answer: the number returned, and the words at exit, which a refusal leaves as they
-- were (01, "Numbers that refuse": "A refusal returns its number alone. State, output buffers and input stay as they were.").
use Rattle.std.specs.Prelude.{ℕ, List, [], ◌∷◌, Bool, Option, Some, None, Result, Ok, Err}
use Rattle.refusal.specs.Choice.{pick}
use Rattle.judging.specs.declared.walking.Place.{Place}
use Rattle.refusal.specs.declared.Refusal.{Refusal}
pub use Rattle.recording.specs.Refusing.{recorded_code}
pub use Rattle.playback.specs.When.{replayed_code}

-- whether a block came out
abbrev pub finished_words : Bool → List ℕ
finished_words closed = pick closed 1 0 ∷ []

abbrev pub recorded_words : Result Bool Refusal → List ℕ → List ℕ
recorded_words (Err x) out = out
recorded_words (Ok closed) out = finished_words closed

-- the last record's time
abbrev pub replayed_words : Result ℕ Refusal → List ℕ → List ℕ
replayed_words (Err x) out = out
replayed_words (Ok t) out = t ∷ []

-- a record of a block: 1, its time and port, where its message begins, how many octets that has, and where it ends; zeros where there is none
abbrev pub place_words : Place → List ℕ
place_words p = 1 ∷ p.time ∷ p.port ∷ p.at ∷ p.length ∷ p.end ∷ []

abbrev pub next_words : Option Place → List ℕ
next_words None = 0 ∷ 0 ∷ 0 ∷ 0 ∷ 0 ∷ 0 ∷ []
next_words (Some p) = place_words p
