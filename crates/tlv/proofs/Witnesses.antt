-- Tails written out octet by octet, with 01's numbers and all values different, and what the walk and White Rabbit's form make of them. A place, a size or
-- a number that is changed breaks a table, also where definition and code are changed alike.
use Rattle.std.specs.Prelude.{Some, None, Ok, Err}
use Prim.Native.Nat.{ℕ, ◌+◌, ◌/◌, ◌%◌}
use mathlib.Core.Path.{◌≡◌, refl}
use mathlib.Core.Bool.{true, false}
use mathlib.Core.List.{List, [], ◌∷◌, ◌++◌, map}
use lib.ListN.{take, set}
use lib.Dec.{eqb}
use Rattle.octets.specs.Be.{be}
use Rattle.tlv.specs.Walk.{type_at, next_of, walk_by, walk, first, data_at}
use Rattle.tlv.specs.Form.{HasForm, data_octets, numbered, misfit_at, suffix_at, link_at}
use Rattle.tlv.specs.Numbers.{link_number}
use Rattle.tlv.specs.Faults.{fault_of, is_sound}
use Rattle.tlv.specs.Wr.{suffix_in, wr_flags_of, link_message_at, link_in}
use Rattle.tlv.specs.declared.walk.Fault.TheVariants.{Broken, Misfit}
use Rattle.tlv.specs.declared.wr.LinkMessage.TheVariants.{SlavePresent, Lock, Locked, Calibrate, Calibrated, ModeOn}

-- three TLVs at 0, 6 and 14 of 18 octets: type 8 with two octets of data, type 0x2004 with four, type 8 again with none
abbrev three : List ℕ
three =
    0x00 ∷ 0x08 ∷ 0x00 ∷ 0x02 ∷ 0x51 ∷ 0x52
    ∷ 0x20 ∷ 0x04 ∷ 0x00 ∷ 0x04 ∷ 0x53 ∷ 0x54 ∷ 0x55 ∷ 0x56
    ∷ 0x00 ∷ 0x08 ∷ 0x00 ∷ 0x00
    ∷ []

-- "type 0x0003, L = 8 + N, OUI 08 00 30, magic 2 octets, version 0x01, wrMessageID 2, data N", with 0xABCD as magic
abbrev wr : (number n : ℕ) → List ℕ → List ℕ
wr number n rest =
    0x00 ∷ 0x03 ∷ 0x00 ∷ (8 + n) ∷ 0x08 ∷ 0x00 ∷ 0x30 ∷ 0xAB ∷ 0xCD ∷ 0x01 ∷ (number / 256) ∷ (number % 256) ∷ rest

abbrev sixteen : List ℕ
sixteen = 0x71 ∷ 0x72 ∷ 0x73 ∷ 0x74 ∷ 0x75 ∷ 0x76 ∷ 0x77 ∷ 0x78 ∷ 0x79 ∷ 0x7A ∷ 0x7B ∷ 0x7C ∷ 0x7D ∷ 0x7E ∷ 0x7F ∷ 0x80 ∷ []

-- a message of that number with n of these octets as its data
abbrev sized : (number n : ℕ) → List ℕ
sized number n = wr number n (take n sixteen)

-- an ANN_SUFIX whose twelve reserved bits are set, config 2 and calibrated; one with four octets of data
abbrev suffix_tlv : List ℕ
suffix_tlv = wr 0x2000 2 (0xFF ∷ 0xF6 ∷ [])

abbrev wrong_tlv : List ℕ
wrong_tlv = wr 0x2000 4 (0x61 ∷ 0x62 ∷ 0x63 ∷ 0x64 ∷ [])

-- "type 0x0003 with L under 8": OUI, magic and version, and behind it a TLV of type 0x2000, whose type would be its number
abbrev short_tlv : List ℕ
short_tlv = 0x00 ∷ 0x03 ∷ 0x00 ∷ 0x06 ∷ 0x08 ∷ 0x00 ∷ 0x30 ∷ 0xAB ∷ 0xCD ∷ 0x01 ∷ 0x20 ∷ 0x00 ∷ 0x00 ∷ 0x00 ∷ []

-- ---- the walk

pub record Walked : Type 0 where
  -- the first of a type, the end where there is none
  pub places : map (λ (kind : ℕ). first (λ (p : ℕ). eqb (type_at three p) kind) three 0) (0x0008 ∷ 0x2004 ∷ 0x0004 ∷ 0x0800 ∷ 0x5152 ∷ [])
      ≡ 0 ∷ 6 ∷ 18 ∷ 18 ∷ 18 ∷ []
  pub parts : map (data_at three) (0 ∷ 6 ∷ 14 ∷ 18 ∷ [])
      ≡ (0x51 ∷ 0x52 ∷ []) ∷ (0x53 ∷ 0x54 ∷ 0x55 ∷ 0x56 ∷ []) ∷ [] ∷ [] ∷ []
  pub ends : map (next_of three) (0 ∷ 6 ∷ 14 ∷ 15 ∷ 18 ∷ []) ≡ Some 6 ∷ Some 14 ∷ Some 18 ∷ None ∷ None ∷ []

pub walked : Walked
unfolding walk walk_by next_of be
walked = record { places = refl; parts = refl; ends = refl }

-- what is wrong with a tail, and where
pub record Faults : Type 0 where
  pub none : map (fault_of 0xABCD) ([] ∷ three ∷ suffix_tlv ∷ (three ++ suffix_tlv) ∷ short_tlv ∷ [])
      ≡ Ok tt ∷ Ok tt ∷ Ok tt ∷ Ok tt ∷ Ok tt ∷ []
  -- one, two and three octets are left over
  pub left_over : map (λ (rest : List ℕ). fault_of 0xABCD (three ++ rest)) ((0x00 ∷ []) ∷ (0x00 ∷ 0x08 ∷ []) ∷ (0x00 ∷ 0x08 ∷ 0x00 ∷ []) ∷ [])
      ≡ Err (Broken 18) ∷ Err (Broken 18) ∷ Err (Broken 18) ∷ []
  -- a length of 3, one of 2 where nothing follows, and the first one of 13, 14, 16 and 258; 14 takes the tail whole
  pub lengths : map (fault_of 0xABCD) (set three 9 3 ∷ set three 17 2 ∷ set three 3 13 ∷ set three 3 14 ∷ set three 3 16 ∷ set three 2 1 ∷ [])
      ≡ Err (Broken 6) ∷ Err (Broken 14) ∷ Err (Broken 0) ∷ Ok tt ∷ Err (Broken 0) ∷ Err (Broken 0) ∷ []
  -- the first misfit counts, and a break behind it before that
  pub misfits : map (fault_of 0xABCD) (wrong_tlv ∷ (three ++ wrong_tlv) ∷ (suffix_tlv ++ wrong_tlv ++ wrong_tlv) ∷ (wrong_tlv ++ 0x00 ∷ []) ∷ [])
      ≡ Err (Misfit 0) ∷ Err (Misfit 18) ∷ Err (Misfit 14) ∷ Err (Broken 16) ∷ []
  -- "Other TLVs .., versions and numbers are passed over": one octet of type, OUI, magic, version or number is another
  pub others : map (λ (i : ℕ). fault_of 0xABCD (set wrong_tlv i 0x77)) (0 ∷ 1 ∷ 4 ∷ 5 ∷ 6 ∷ 7 ∷ 8 ∷ 9 ∷ 10 ∷ 11 ∷ [])
      ≡ Ok tt ∷ Ok tt ∷ Ok tt ∷ Ok tt ∷ Ok tt ∷ Ok tt ∷ Ok tt ∷ Ok tt ∷ Ok tt ∷ Ok tt ∷ []

pub faults : Faults
unfolding fault_of misfit_at numbered HasForm data_octets walk walk_by next_of be
faults = record { none = refl; left_over = refl; lengths = refl; misfits = refl; others = refl }

-- ---- White Rabbit's form

-- "SLAVE_PRESENT 0x1000, LOCK 0x1001, LOCKED 0x1002, 0; CALIBRATE 0x1003, 6 ..; CALIBRATED 0x1004, 16 ..; WR_MODE_ON 0x1005, 0; ANN_SUFIX 0x2000, 2",
-- and numbers beside them, which are passed over
pub record Sizes : Type 0 where
  pub octets : map data_octets (0x1000 ∷ 0x1001 ∷ 0x1002 ∷ 0x1003 ∷ 0x1004 ∷ 0x1005 ∷ 0x2000 ∷ 0x0FFF ∷ 0x1006 ∷ 0x2001 ∷ [])
      ≡ Some 0 ∷ Some 0 ∷ Some 0 ∷ Some 6 ∷ Some 16 ∷ Some 0 ∷ Some 2 ∷ None ∷ None ∷ None ∷ []
  -- each number with data of 0, 2, 6 and 16 octets
  pub sound : map (λ (number : ℕ). map (λ (n : ℕ). is_sound 0xABCD (sized number n)) (0 ∷ 2 ∷ 6 ∷ 16 ∷ [])) (0x1000 ∷ 0x1001 ∷ 0x1002 ∷ 0x1003 ∷ 0x1004 ∷ 0x1005 ∷ 0x2000 ∷ 0x1006 ∷ [])
      ≡ (true ∷ false ∷ false ∷ false ∷ [])
      ∷ (true ∷ false ∷ false ∷ false ∷ [])
      ∷ (true ∷ false ∷ false ∷ false ∷ [])
      ∷ (false ∷ false ∷ true ∷ false ∷ [])
      ∷ (false ∷ false ∷ false ∷ true ∷ [])
      ∷ (true ∷ false ∷ false ∷ false ∷ [])
      ∷ (false ∷ true ∷ false ∷ false ∷ [])
      ∷ (true ∷ true ∷ true ∷ true ∷ [])
      ∷ []

pub sizes : Sizes
unfolding is_sound misfit_at numbered HasForm data_octets walk walk_by next_of be
sizes = record { octets = refl; sound = refl }

-- ---- what the TLVs say

pub record Said : Type 0 where
  -- "wrFlags: bits 0-1 config, 2 calibrated, 3 mode on, rest reserved"; "The first ANN_SUFIX counts."
  pub flags : map (suffix_in 0xABCD) (suffix_tlv ∷ (three ++ suffix_tlv ++ wr 0x2000 2 (0x00 ∷ 0x09 ∷ [])) ∷ wr 0x2000 2 (0x00 ∷ 0x1F ∷ []) ∷ [])
      ≡ Some 6 ∷ Some 6 ∷ Some 15 ∷ []
  -- none: no TLV, others, a link message, L under 8
  pub no_flags : map (suffix_in 0xABCD) ([] ∷ three ∷ sized 0x1003 6 ∷ short_tlv ∷ [])
      ≡ None ∷ None ∷ None ∷ None ∷ []
  -- one octet of type, OUI, magic, version or number is another, or the magic that is set
  pub passed_over : map (λ (i : ℕ). suffix_in 0xABCD (set suffix_tlv i 0x77)) (0 ∷ 1 ∷ 4 ∷ 5 ∷ 6 ∷ 7 ∷ 8 ∷ 9 ∷ 10 ∷ 11 ∷ [])
      ≡ None ∷ None ∷ None ∷ None ∷ None ∷ None ∷ None ∷ None ∷ None ∷ None ∷ []
  pub magics : map (λ (magic : ℕ). suffix_in magic (set suffix_tlv 8 0xCE)) (0xABCD ∷ 0xABCE ∷ [])
      ≡ None ∷ Some 6 ∷ []
  -- "An Announce without the suffix counts as a plain PTP master, wrFlags 0."
  pub plain : map wr_flags_of (Some 6 ∷ None ∷ []) ≡ 6 ∷ 0 ∷ []
  -- "CALIBRATE .. (pattern 1, retry 1, period 4); CALIBRATED .. (deltaTx 8, deltaRx 8)"
  pub messages : map (link_in 0xABCD) (sized 0x1000 0 ∷ sized 0x1001 0 ∷ sized 0x1002 0 ∷ sized 0x1003 6 ∷ sized 0x1004 16 ∷ sized 0x1005 0 ∷ (three ++ suffix_tlv ++ sized 0x1003 6 ++ sized 0x1001 0) ∷ [])
      ≡ Some SlavePresent
      ∷ Some Lock
      ∷ Some Locked
      ∷ Some (Calibrate 0x71 0x72 0x73747576)
      ∷ Some (Calibrated 0x7172737475767778 0x797A7B7C7D7E7F80)
      ∷ Some ModeOn
      ∷ Some (Calibrate 0x71 0x72 0x73747576)
      ∷ []
  pub no_message : map (link_in 0xABCD) ([] ∷ three ∷ suffix_tlv ∷ sized 0x0FFF 0 ∷ sized 0x1006 0 ∷ [])
      ≡ None ∷ None ∷ None ∷ None ∷ None ∷ []
  pub numbers : map link_number (SlavePresent ∷ Lock ∷ Locked ∷ Calibrate 1 2 3 ∷ Calibrated 4 5 ∷ ModeOn ∷ [])
      ≡ 0x1000 ∷ 0x1001 ∷ 0x1002 ∷ 0x1003 ∷ 0x1004 ∷ 0x1005 ∷ []

pub said : Said
unfolding suffix_in suffix_at link_in link_at link_message_at numbered HasForm walk walk_by next_of be
said =
    record {
      flags = refl;
      no_flags = refl;
      passed_over = refl;
      magics = refl;
      plain = refl;
      messages = refl;
      no_message = refl;
      numbers = refl;
    }
