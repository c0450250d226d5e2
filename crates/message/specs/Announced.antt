-- An Announce as those take it who choose a parent: header, body, and the wrFlags of its suffix (01, "Octets of a message").
use Rattle.std.specs.Prelude.{ℕ, List, not, eqb, ltb, length, Option, Some, None, Result, Ok, Err}
use Rattle.refusal.specs.Choice.{refuse}
use Rattle.refusal.specs.declared.Refusal.{Refusal}
use Rattle.refusal.specs.declared.Refusal.TheVariants.{«Type»}
use Rattle.tlv.specs.Wr.{suffix_in, wr_flags_of}
use Rattle.message.specs.Fields.{type_of, version_of, length_of, header_of, announce_of, tail_of}
use Rattle.message.specs.Reading.{check_of, by}
use Rattle.message.specs.declared.announce.Heard.{Heard}

-- "the reading checks, 3 if it isn't an Announce"; wrFlags 0 without a suffix
unfoldable pub announced_of : ℕ → List ℕ → Result Heard Refusal
announced_of magic s =
    by (check_of magic s) Err
    (refuse (not (eqb (type_of s) 0xB)) (Err «Type»)
    (Ok (record { header = header_of s; announce = announce_of s; flags = wr_flags_of (suffix_in magic (tail_of s)) })))

-- what refuses octets that are no Announce
unfoldable pub refusal_of : ℕ → List ℕ → Refusal
refusal_of magic s = by (check_of magic s) (λ x. x) «Type»

-- ---- WHAT ONLY THE CODE NEEDS: steps on the way to the answers above, and no rule of 01

-- messageLength of octets that are an Announce as far as version, type and lengths go
unfoldable pub announce_length : List ℕ → Option ℕ
announce_length s =
    refuse (ltb (length s) 64) None
    (refuse (not (eqb (version_of s) 2)) None
    (refuse (not (eqb (type_of s) 0xB)) None
    (refuse (ltb (length_of s) 64) None
    (refuse (ltb (length s) (length_of s)) None
    (Some (length_of s))))))
