-- Parts of a message, and the calls beside that say why one is empty (01, "Octets of a message").
use Rattle.std.specs.Prelude.{ℕ, ◌+◌, ◌-◌, ◌≤◌, List, [], not, eqb, ltb, length, Option, Some, None, Result, Ok, Err}
use Rattle.octets.specs.Be.{be}
use Rattle.refusal.specs.Choice.{pick, refuse}
use Rattle.refusal.specs.declared.Refusal.TheVariants.{«Type»}
use Rattle.tlv.specs.Walk.{first, data_at}
use Rattle.tlv.specs.Faults.{sought_at}
use Rattle.tlv.specs.Wr.{suffix_in, link_in}
use Rattle.tlv.specs.declared.walk.Sought.TheVariants.{OfType}
use Rattle.message.specs.Fields.{type_of, fixed_size, tail_of}
use Rattle.message.specs.Reading.{check_of, by}
use Rattle.tlv.specs.declared.wr.LinkMessage.{LinkMessage}
use Rattle.refusal.specs.declared.Refusal.{Refusal}

-- "it is empty if refused"
unfoldable pub tail_in : ℕ → List ℕ → List ℕ
tail_in magic s = by (check_of magic s) (λ x. []) (tail_of s)

-- where the first TLV of a type stands in a tail, its end where there is none
abbrev pub first_of_type : ℕ → List ℕ → ℕ
first_of_type kind t = first (sought_at (OfType kind) t) t 0

-- "Looking up a type's first TLV hands the caller that part of the message which holds its data."
unfoldable pub data_in : ℕ → ℕ → List ℕ → List ℕ
data_in magic kind s = data_at (tail_in magic s) (first_of_type kind (tail_in magic s))

-- "a call beside says why": found, where its data begin in the message; absent; refused
unfoldable pub lookup_of : ℕ → ℕ → List ℕ → Result (Option ℕ) Refusal
lookup_of magic kind s =
    by (check_of magic s) Err
    (pick (ltb (first_of_type kind (tail_of s)) (length (tail_of s)))
    (Ok (Some (fixed_size (type_of s) + first_of_type kind (tail_of s) + 4)))
    (Ok None))

-- the data that were found begin inside the octets, behind a length
abbrev pub IsWithin : Result (Option ℕ) Refusal → List ℕ → Type 0
IsWithin (Ok (Some at)) s = (2 ≤ at) × (at ≤ length s)
IsWithin (Ok None) s = Unit {0}
IsWithin (Err x) s = Unit {0}

-- "length L 2, L octets": how many they are
abbrev pub data_length : Result (Option ℕ) Refusal → List ℕ → ℕ
data_length (Ok (Some at)) s = be 2 s (at - 2)
data_length (Ok None) s = 0
data_length (Err x) s = 0

-- the suffix of an Announce; another message is not the one the call takes
unfoldable pub suffix_of : ℕ → List ℕ → Result (Option ℕ) Refusal
suffix_of magic s =
    by (check_of magic s) Err
    (refuse (not (eqb (type_of s) 0xB)) (Err «Type»)
    (Ok (suffix_in magic (tail_of s))))

-- the first link message of a Signaling
unfoldable pub link_of : ℕ → List ℕ → Result (Option LinkMessage) Refusal
link_of magic s =
    by (check_of magic s) Err
    (refuse (not (eqb (type_of s) 0xC)) (Err «Type»)
    (Ok (link_in magic (tail_of s))))
