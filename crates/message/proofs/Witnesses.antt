-- Inputs at which the contracts demand different answers: a reader that refuses everything, accepts everything or
-- answers one constant does not meet them. Each is computed from the definitions.
use Rattle.std.specs.Prelude.{Result, Ok, Err}
use Prim.Native.Nat.{ℕ, zero, suc, ◌+◌, ◌-◌, ◌*◌, ◌/◌, ◌%◌}
use mathlib.Core.Path.{◌≡◌, refl}
use mathlib.Core.List.{List, [], ◌∷◌, ◌++◌, map}
use lib.IntN.{negsuc}
use Rattle.octets.specs.Be.{be}
use Rattle.refusal.specs.Choice.{refuse}
use Rattle.refusal.specs.Refusal.{number_of}
use Rattle.tlv.specs.Walk.{next_of, walk_by, walk}
use Rattle.tlv.specs.Form.{HasForm, data_octets, numbered, misfit_at}
use Rattle.tlv.specs.Faults.{fault_of}
use Rattle.message.specs.Fields.{fixed_size, identity_at, stamp_of, header_of, announce_of, body_of}
use Rattle.message.specs.Reading.{check_of, read_of}
use Rattle.message.specs.Answers.{read_code}
use Rattle.message.specs.declared.fields.Timestamp.{Timestamp}
use Rattle.message.specs.declared.fields.Header.{Header}
use Rattle.message.specs.declared.fields.Body.{Body}
use Rattle.message.specs.declared.fields.Body.TheVariants as body
use Rattle.message.specs.declared.fields.Message.{Message}
use Rattle.refusal.specs.declared.Refusal.{Refusal}

abbrev pub zeros : ℕ → List ℕ → List ℕ
zeros zero rest = rest
zeros (suc n) rest = 0 ∷ zeros n rest

-- a message of zeros with its type, version, messageLength and what follows the fixed part
abbrev pub plain : (kind version size fixed : ℕ) → List ℕ → List ℕ
plain kind version size fixed tail = kind ∷ version ∷ 0 ∷ size ∷ zeros fixed tail

abbrev pub suffix_tlv : List ℕ
suffix_tlv = 0x00 ∷ 0x03 ∷ 0x00 ∷ 0x0A ∷ 0x08 ∷ 0x00 ∷ 0x30 ∷ 0xAB ∷ 0xCD ∷ 0x01 ∷ 0x20 ∷ 0x00 ∷ 0xFF ∷ 0xF7 ∷ []

-- a SLAVE_PRESENT with two octets of data
abbrev pub wrong_tlv : List ℕ
wrong_tlv = 0x00 ∷ 0x03 ∷ 0x00 ∷ 0x0A ∷ 0x08 ∷ 0x00 ∷ 0x30 ∷ 0xAB ∷ 0xCD ∷ 0x01 ∷ 0x10 ∷ 0x00 ∷ 0x00 ∷ 0x00 ∷ []

abbrev calibrate_tlv : List ℕ
calibrate_tlv =
    0x00 ∷ 0x03 ∷ 0x00 ∷ 0x0E ∷ 0x08 ∷ 0x00 ∷ 0x30 ∷ 0xAB ∷ 0xCD ∷ 0x01 ∷ 0x10 ∷ 0x03 ∷ 1 ∷ 2 ∷ 0 ∷ 0 ∷ 0 ∷ 3 ∷ []

-- the type of a message that was read, or 100 and the number of the refusal
abbrev type_number : Body → ℕ
type_number (body.Sync t) = 0x0
type_number (body.DelayReq t) = 0x1
type_number (body.FollowUp t) = 0x8
type_number (body.DelayResp r) = 0x9
type_number (body.Announce a) = 0xB
type_number (body.Signaling i) = 0xC

abbrev answer : Result Message Refusal → ℕ
answer (Ok m) = type_number m.body
answer (Err x) = 100 + number_of x

-- accepted of each type, and each refusal
pub reads : map (λ (s : List ℕ). answer (read_of 0xABCD s)) (
    plain 0x0 2 44 40 []
    ∷ plain 0x1 2 44 40 []
    ∷ plain 0x8 2 44 40 []
    ∷ plain 0x9 2 54 50 []
    ∷ plain 0xB 2 78 60 suffix_tlv
    ∷ plain 0xC 2 62 40 calibrate_tlv
    ∷ []
    ∷ plain 0xB 2 65 60 []
    ∷ plain 0xB 1 64 60 []
    ∷ plain 0x2 2 44 40 []
    ∷ plain 0xB 2 63 60 []
    ∷ plain 0x0 2 44 36 (0x3B ∷ 0x9A ∷ 0xCA ∷ 0x00 ∷ [])
    ∷ plain 0x0 2 45 41 []
    ∷ plain 0x0 2 58 40 wrong_tlv
    ∷ [])
    ≡ 0x0 ∷ 0x1 ∷ 0x8 ∷ 0x9 ∷ 0xB ∷ 0xC ∷ 101 ∷ 101 ∷ 102 ∷ 103 ∷ 104 ∷ 105 ∷ 106 ∷ 107 ∷ []
unfolding read_of check_of refuse fixed_size be fault_of walk walk_by next_of misfit_at numbered HasForm data_octets body_of
reads = refl

-- ---- fields
-- a message in which every field has octets of its own: the header, then the rest
abbrev full : (kind size : ℕ) → List ℕ → List ℕ
full kind size rest =
    (0xA0 + kind) ∷ 0xB2 ∷ 0x00 ∷ size ∷ 0xC4 ∷ 0xC5 ∷ 0xC6 ∷ 0xC7 ∷ 0xF1 ∷ 0xF2 ∷ 0xF3 ∷ 0xF4 ∷ 0xF5 ∷ 0xF6 ∷ 0xF7 ∷ 0xF8
    ∷ 0xD0 ∷ 0xD1 ∷ 0xD2 ∷ 0xD3 ∷ 0x11 ∷ 0x12 ∷ 0x13 ∷ 0x14 ∷ 0x15 ∷ 0x16 ∷ 0x17 ∷ 0x18 ∷ 0x19 ∷ 0x1A ∷ 0x1B ∷ 0x1C ∷ 0xD4 ∷ 0xFD
    ∷ rest

-- the ten octets at 34
abbrev ten : List ℕ → List ℕ
ten rest = 0x21 ∷ 0x22 ∷ 0x23 ∷ 0x24 ∷ 0x25 ∷ 0x26 ∷ 0x27 ∷ 0x28 ∷ 0x29 ∷ 0x2A ∷ rest

abbrev requester : List ℕ
requester = 0x31 ∷ 0x32 ∷ 0x33 ∷ 0x34 ∷ 0x35 ∷ 0x36 ∷ 0x37 ∷ 0x38 ∷ 0x39 ∷ 0x3A ∷ []

-- twenty octets of an Announce, at 46 the reserved one
abbrev quality : List ℕ
quality =
    0xFF ∷ 0xDB ∷ 0xD5 ∷ 0x41 ∷ 0x42 ∷ 0x43 ∷ 0x44 ∷ 0x45 ∷ 0x46 ∷ 0x51 ∷ 0x52 ∷ 0x53 ∷ 0x54 ∷ 0x55 ∷ 0x56 ∷ 0x57 ∷ 0x58 ∷ 0x61 ∷ 0x62
    ∷ 0x63 ∷ []

-- what their fields are: the correction is -0x0E0D0C0B0A090808 and the interval -3, the offset of an Announce -37
abbrev full_header : Header
full_header =
    record {
      transport = 0xA;
      domain = 0xC4;
      flags = 0xC6C7;
      correction = negsuc 0x0E0D0C0B0A090807;
      source = record { clock = 0x1112131415161718; port = 0x191A };
      sequence = 0x1B1C;
      interval = negsuc 2;
    }

abbrev full_stamp : Timestamp
full_stamp = record { seconds = 0x212223242526; nanoseconds = 0x2728292A }

abbrev full_read : Body → Result Message Refusal
full_read b = Ok (record { header = full_header; body = b })

-- each field of each type comes from its own octets
pub fields : map (read_of 0xABCD) (
    full 0x0 44 (ten [])
    ∷ full 0x1 44 (ten [])
    ∷ full 0x8 44 (ten [])
    ∷ full 0x9 54 (ten requester)
    ∷ full 0xB 64 (ten quality)
    ∷ full 0xC 44 (ten [])
    ∷ [])
    ≡ full_read (body.Sync full_stamp)
    ∷ full_read (body.DelayReq full_stamp)
    ∷ full_read (body.FollowUp full_stamp)
    ∷ full_read (body.DelayResp (record { receive = full_stamp; requester = record { clock = 0x3132333435363738; port = 0x393A } }))
    ∷ full_read (body.Announce (record {
      origin = full_stamp;
      utc = negsuc 36;
      priority1 = 0x41;
      class = 0x42;
      accuracy = 0x43;
      variance = 0x4445;
      priority2 = 0x46;
      grandmaster = 0x5152535455565758;
      steps = 0x6162;
      timesource = 0x63;
    }))
    ∷ full_read (body.Signaling (record { clock = 0x2122232425262728; port = 0x292A }))
    ∷ []
unfolding read_of check_of refuse fixed_size be fault_of walk walk_by body_of header_of stamp_of identity_at announce_of
fields = refl

-- the fixed sizes of types 0x0 to 0xF, 0 where the type is not listed
pub sizes : map fixed_size (0x0 ∷ 0x1 ∷ 0x2 ∷ 0x3 ∷ 0x4 ∷ 0x5 ∷ 0x6 ∷ 0x7 ∷ 0x8 ∷ 0x9 ∷ 0xA ∷ 0xB ∷ 0xC ∷ 0xD ∷ 0xE ∷ 0xF ∷ [])
    ≡ 44 ∷ 44 ∷ 0 ∷ 0 ∷ 0 ∷ 0 ∷ 0 ∷ 0 ∷ 44 ∷ 54 ∷ 0 ∷ 64 ∷ 44 ∷ 0 ∷ 0 ∷ 0 ∷ []
unfolding fixed_size
sizes = refl

-- a messageLength one below the fixed size is 4, one past the octets lent is 1
abbrev sized : ℕ → ℕ → ℕ → ℕ
sized kind size lent = read_code (read_of 0xABCD (plain kind 2 size (lent - 4) []))

pub lengths : map (λ (kind : ℕ). sized kind (fixed_size kind - 1) 64 ∷ sized kind (fixed_size kind) (fixed_size kind) ∷ sized kind (fixed_size kind) (fixed_size kind - 1) ∷ []) (0x0 ∷ 0x1 ∷ 0x8 ∷ 0x9 ∷ 0xB ∷ 0xC ∷ [])
    ≡ (4 ∷ 0 ∷ 1 ∷ []) ∷ (4 ∷ 0 ∷ 1 ∷ []) ∷ (4 ∷ 0 ∷ 1 ∷ []) ∷ (4 ∷ 0 ∷ 1 ∷ []) ∷ (4 ∷ 0 ∷ 1 ∷ []) ∷ (4 ∷ 0 ∷ 1 ∷ []) ∷ []
unfolding read_of check_of refuse fixed_size be fault_of walk walk_by body_of
lengths = refl

-- ---- White Rabbit's messages
-- a WR TLV of a number with n octets of data, 0x71, 0x72, ..
abbrev pub counting : ℕ → ℕ → List ℕ
counting zero from = []
counting (suc n) from = from ∷ counting n (suc from)

abbrev pub wr_tlv : ℕ → ℕ → List ℕ
wr_tlv number n = 0x00 ∷ 0x03 ∷ 0x00 ∷ (8 + n) ∷ 0x08 ∷ 0x00 ∷ 0x30 ∷ 0xAB ∷ 0xCD ∷ 0x01 ∷ (number / 256) ∷ (number % 256) ∷ counting n 0x71

abbrev pub signaling : ℕ → ℕ → List ℕ
signaling number n = plain 0xC 2 (56 + n) 40 (wr_tlv number n)

-- 7, at the place of the TLV
abbrev bad : ℕ
bad = 7 + 256 * 44

-- two octets more are 7 for the seven, and nothing for a number that is not listed
pub misfits : map (λ (number : ℕ). map (λ (n : ℕ). read_code (read_of 0xABCD (signaling number n))) (0 ∷ 2 ∷ 6 ∷ 8 ∷ 16 ∷ 18 ∷ [])) (0x0FFF ∷ 0x1000 ∷ 0x1001 ∷ 0x1002 ∷ 0x1003 ∷ 0x1004 ∷ 0x1005 ∷ 0x1006 ∷ 0x2000 ∷ 0x2001 ∷ [])
    ≡ (0 ∷ 0 ∷ 0 ∷ 0 ∷ 0 ∷ 0 ∷ [])
    ∷ (0 ∷ bad ∷ bad ∷ bad ∷ bad ∷ bad ∷ [])
    ∷ (0 ∷ bad ∷ bad ∷ bad ∷ bad ∷ bad ∷ [])
    ∷ (0 ∷ bad ∷ bad ∷ bad ∷ bad ∷ bad ∷ [])
    ∷ (bad ∷ bad ∷ 0 ∷ bad ∷ bad ∷ bad ∷ [])
    ∷ (bad ∷ bad ∷ bad ∷ bad ∷ 0 ∷ bad ∷ [])
    ∷ (0 ∷ bad ∷ bad ∷ bad ∷ bad ∷ bad ∷ [])
    ∷ (0 ∷ 0 ∷ 0 ∷ 0 ∷ 0 ∷ 0 ∷ [])
    ∷ (bad ∷ 0 ∷ bad ∷ bad ∷ bad ∷ bad ∷ [])
    ∷ (0 ∷ 0 ∷ 0 ∷ 0 ∷ 0 ∷ 0 ∷ [])
    ∷ []
unfolding read_of check_of refuse fixed_size be fault_of walk walk_by next_of misfit_at numbered HasForm data_octets
misfits = refl

-- ---- places
-- a TLV of six octets, of a type that nobody knows
abbrev pub six : List ℕ
six = 0x12 ∷ 0x34 ∷ 0x00 ∷ 0x02 ∷ 0x56 ∷ 0x78 ∷ []

-- 6 and 7 with their places, from octet 0 on: a leftover of one, two, three octets, an odd length, one that runs past the end; a wrong size, the first of
-- two; a break behind a wrong size; and the same faults behind the fixed parts of other types
pub places : map (λ (s : List ℕ). read_code (read_of 0xABCD s)) (
    plain 0x0 2 51 40 (six ++ (0x00 ∷ []))
    ∷ plain 0x1 2 52 40 (six ++ (0x00 ∷ 0x08 ∷ []))
    ∷ plain 0x8 2 53 40 (six ++ (0x00 ∷ 0x08 ∷ 0x00 ∷ []))
    ∷ plain 0x0 2 56 40 (six ++ (0x00 ∷ 0x08 ∷ 0x00 ∷ 0x01 ∷ 0x00 ∷ 0x00 ∷ []))
    ∷ plain 0x0 2 56 40 (six ++ (0x00 ∷ 0x08 ∷ 0x00 ∷ 0x04 ∷ 0x00 ∷ 0x00 ∷ []))
    ∷ plain 0x0 2 64 40 (six ++ wrong_tlv)
    ∷ plain 0x0 2 78 40 (six ++ (wrong_tlv ++ wrong_tlv))
    ∷ plain 0x0 2 59 40 (wrong_tlv ++ (0x00 ∷ []))
    ∷ plain 0x9 2 61 50 (six ++ (0x00 ∷ []))
    ∷ plain 0xB 2 84 60 (six ++ wrong_tlv)
    ∷ plain 0xC 2 51 40 (six ++ (0x00 ∷ []))
    ∷ [])
    ≡ (6 + 256 * 50) ∷ (6 + 256 * 50) ∷ (6 + 256 * 50) ∷ (6 + 256 * 50) ∷ (6 + 256 * 50) ∷ (7 + 256 * 50) ∷ (7 + 256 * 50) ∷ (6 + 256 * 58) ∷ (6 + 256 * 60) ∷ (7 + 256 * 70) ∷ (6 + 256 * 50) ∷ []
unfolding read_of check_of refuse fixed_size be fault_of walk walk_by next_of misfit_at numbered HasForm data_octets
places = refl
