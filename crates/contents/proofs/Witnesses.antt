-- Inputs at which the contracts demand different answers, computed from the definitions.
use Rattle.std.specs.Prelude.{Option, Some, None, Result, Ok, Err}
use Prim.Native.Nat.{ℕ, ◌+◌, ◌*◌}
use mathlib.Core.Path.{◌≡◌, refl}
use mathlib.Core.List.{List, [], ◌∷◌, ◌++◌, map}
use lib.ListN.{drop}
use Rattle.octets.specs.Be.{be}
use Rattle.refusal.specs.Choice.{refuse}
use Rattle.refusal.specs.declared.Refusal.TheVariants as refusal
use Rattle.tlv.specs.Walk.{next_of, walk_by, walk}
use Rattle.tlv.specs.Form.{HasForm, data_octets, numbered, misfit_at, suffix_at, link_at}
use Rattle.tlv.specs.Faults.{fault_of}
use Rattle.tlv.specs.Wr.{suffix_in, link_message_at, link_in}
use Rattle.tlv.specs.declared.wr.LinkMessage.TheVariants.{SlavePresent, Lock, Locked, Calibrate, Calibrated, ModeOn}
use Rattle.message.specs.Fields.{fixed_size}
use Rattle.message.specs.Reading.{check_of}
use Rattle.contents.specs.Parts.{tail_in, data_in, lookup_of, suffix_of, link_of}
use Rattle.contents.specs.Answers.{walked_code}
use Rattle.contents.specs.declared.tlvs.Tlv.{Tlv}
use Rattle.contents.specs.Tlvs.{tlvs_of, standing, next_in, data_from}
use Rattle.message.proofs.Witnesses.{plain, suffix_tlv, wrong_tlv, signaling, six}
use Rattle.refusal.specs.declared.Refusal.{Refusal}

-- each number with its N, and what it carries
pub carries : map (link_of 0xABCD) (
    signaling 0x1000 0
    ∷ signaling 0x1001 0
    ∷ signaling 0x1002 0
    ∷ signaling 0x1003 6
    ∷ signaling 0x1004 16
    ∷ signaling 0x1005 0
    ∷ signaling 0x2000 2
    ∷ [])
    ≡ Ok (Some SlavePresent)
    ∷ Ok (Some Lock)
    ∷ Ok (Some Locked)
    ∷ Ok (Some (Calibrate 0x71 0x72 0x73747576))
    ∷ Ok (Some (Calibrated 0x7172737475767778 0x797A7B7C7D7E7F80))
    ∷ Ok (Some ModeOn)
    ∷ Ok None
    ∷ []
unfolding link_of link_in link_at link_message_at check_of refuse fixed_size be fault_of walk walk_by next_of misfit_at numbered HasForm data_octets
carries = refl

-- a TLV looked up: its data, where they begin, and that there is none
pub looks_up : data_in 0xABCD 3 (plain 0xB 2 78 60 suffix_tlv) ≡ drop 4 suffix_tlv
unfolding data_in tail_in check_of refuse fixed_size be fault_of walk walk_by next_of misfit_at numbered HasForm data_octets
looks_up = refl

pub says_where : lookup_of 0xABCD 3 (plain 0xB 2 78 60 suffix_tlv) ≡ Ok (Some 68)
unfolding lookup_of check_of refuse fixed_size be fault_of walk walk_by next_of misfit_at numbered HasForm data_octets
says_where = refl

pub says_absent : lookup_of 0xABCD 8 (plain 0xB 2 78 60 suffix_tlv) ≡ Ok None
unfolding lookup_of check_of refuse fixed_size be fault_of walk walk_by next_of misfit_at numbered HasForm data_octets
says_absent = refl

-- wrFlags without its reserved bits; none without the suffix, and none under another magic
pub has_suffix : suffix_of 0xABCD (plain 0xB 2 78 60 suffix_tlv) ≡ Ok (Some 7)
unfolding suffix_of suffix_in suffix_at check_of refuse fixed_size be fault_of walk walk_by next_of misfit_at numbered HasForm data_octets
has_suffix = refl

pub has_no_suffix : suffix_of 0xDEAD (plain 0xB 2 78 60 suffix_tlv) ≡ Ok None
unfolding suffix_of suffix_in suffix_at check_of refuse fixed_size be fault_of walk walk_by next_of misfit_at numbered HasForm data_octets
has_no_suffix = refl

-- an Announce with three TLVs, of 6, 14 and 4 octets
abbrev three : List ℕ
three = plain 0xB 2 88 60 (six ++ (suffix_tlv ++ (0x9A ∷ 0xBC ∷ 0x00 ∷ 0x00 ∷ [])))

-- their places, types and lengths
pub three_tlvs : tlvs_of three
    ≡ record { place = 64; kind = 0x1234; length = 2 } ∷ record { place = 70; kind = 3; length = 10 } ∷ record { place = 84; kind = 0x9ABC; length = 0 } ∷ []
unfolding fixed_size be walk walk_by next_of
three_tlvs = refl

abbrev given : Result (Option Tlv) Refusal → ℕ
given (Ok (Some x)) = x.place
given (Ok None) = 0
given (Err x) = 1

-- at 0 the first; on the places of the three, and from inside the fixed part; nothing at the end and past it
pub walks : map (λ (from : ℕ). given (next_in 0xABCD from three)) (0 ∷ 63 ∷ 64 ∷ 70 ∷ 84 ∷ 88 ∷ 1000 ∷ []) ≡ 64 ∷ 64 ∷ 64 ∷ 70 ∷ 84 ∷ 0 ∷ 0 ∷ []
unfolding next_in standing check_of refuse fixed_size be fault_of walk walk_by next_of misfit_at numbered HasForm data_octets
walks = refl

-- inside a TLV stands none: its data 0x5678 are no length
pub walk_astray : next_in 0xABCD 66 three ≡ Err (refusal.Tlv 66)
unfolding next_in standing refuse fixed_size be next_of
walk_astray = refl

pub walk_refused : next_in 0xABCD 0 (plain 0x0 2 64 40 (six ++ wrong_tlv)) ≡ Err (refusal.WrBad 50)
unfolding next_in standing check_of refuse fixed_size be fault_of walk walk_by next_of misfit_at numbered HasForm data_octets
walk_refused = refl

-- a call that goes on looks at what stands there alone: the first is whole, the second has a wrong size
pub walk_goes_on : map (λ (from : ℕ). walked_code (next_in 0xABCD from (plain 0x0 2 64 40 (six ++ wrong_tlv)))) (0 ∷ 44 ∷ 50 ∷ []) ≡ (7 + 256 * 50) ∷ 0 ∷ (7 + 256 * 50) ∷ []
unfolding next_in standing check_of refuse fixed_size be fault_of walk walk_by next_of misfit_at numbered HasForm data_octets
walk_goes_on = refl

-- the data of the second
pub walk_data : data_from 0xABCD 70 three ≡ drop 4 suffix_tlv
unfolding data_from next_in standing check_of refuse fixed_size be fault_of walk walk_by next_of misfit_at numbered HasForm data_octets
walk_data = refl
