-- What only the code needs, no rules of 01: parts of a message that are put by functions of their own.
use Rattle.std.specs.Prelude.{ℕ, ◌+◌, ◌*◌, List, [], ◌∷◌}
use Rattle.std.specs.Int.{w16}
use Rattle.std.proofs.Common.{of_z}
use Rattle.octets.specs.Be.{octets_of}
use Rattle.message.specs.declared.fields.Header.{Header}
use Rattle.message.specs.declared.fields.Announce.{Announce}

-- octets 0 to 7
unfoldable pub start_octets : Header → ℕ → ℕ → List ℕ
start_octets h kind size = (h.transport * 16 + kind) ∷ 2 ∷ octets_of 2 size (h.domain ∷ 0 ∷ octets_of 2 h.flags [])

-- octets 44 to 49 of an Announce
unfoldable pub offset_octets : Announce → List ℕ
offset_octets a = octets_of 2 (of_z w16 a.utc) (0 ∷ a.priority1 ∷ a.class ∷ a.accuracy ∷ [])

-- octets 50 to 63 of an Announce
unfoldable pub grandmaster_octets : Announce → List ℕ
grandmaster_octets a = octets_of 2 a.variance (a.priority2 ∷ octets_of 8 a.grandmaster (octets_of 2 a.steps (a.timesource ∷ [])))
