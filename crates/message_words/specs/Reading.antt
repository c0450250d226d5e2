-- The words of a message, put together from the front.
use Rattle.std.specs.Prelude.{ℕ, List, [], ◌∷◌}
use Rattle.std.specs.Int.{w64}
use Rattle.std.proofs.Common.{of_z}
use Rattle.octets.specs.Be.{be}
use Rattle.message.specs.declared.fields.Header.{Header}

-- TYPE TRANSPORT DOMAIN FLAGS CORRECTION CLOCK PORT SEQUENCE INTERVAL, then the rest
abbrev pub head_words : ℕ → Header → List ℕ → List ℕ
head_words kind h rest =
    kind
    ∷ h.transport
    ∷ h.domain
    ∷ h.flags
    ∷ of_z w64 h.correction
    ∷ h.source.clock
    ∷ h.source.port
    ∷ h.sequence
    ∷ of_z w64 h.interval
    ∷ rest

-- the seconds and the nanoseconds in ten octets
abbrev pub stamp_words : List ℕ → List ℕ
stamp_words stamp = be 6 stamp 0 ∷ be 4 stamp 6 ∷ []
