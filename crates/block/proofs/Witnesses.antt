-- What a block is read by, worked out on octets that are all different, and its check, on as few octets as it needs. Whole blocks are in
-- `traces/proofs/Edges.antt`.
use Prim.Native.Nat.{ℕ}
use mathlib.Core.Path.{◌≡◌, refl}
use mathlib.Core.List.{List, [], ◌∷◌, ◌++◌, map}
use mathlib.Core.Bool.{true, false}
use lib.ListN.{replicate}
use Rattle.octets.specs.Be.{be}
use Rattle.block.specs.Layout.{Entry, check_of, number_of, first_time_of, count_of, entry_at, end_at}
use Rattle.block.specs.Check.{sum_from, is_checked}

abbrev pub entry : ℕ → ℕ → List ℕ → Entry
entry time port message = record { time = time; port = port; message = message }

-- ---- PLACES
-- "check 0-1, block number 2-5, first record's time 6-13, record count 14-15"
abbrev head : List ℕ
head =
    0x10 ∷ 0x11
    ∷ 0x12 ∷ 0x13 ∷ 0x14 ∷ 0x15
    ∷ 0x16 ∷ 0x17 ∷ 0x18 ∷ 0x19 ∷ 0x1A ∷ 0x1B ∷ 0x1C ∷ 0x1D
    ∷ 0x1E ∷ 0x1F
    ∷ []

-- "time 8, port 1, length 2, message", behind an octet and before another
abbrev between : List ℕ
between = 0x20 ∷ 0x21 ∷ 0x22 ∷ 0x23 ∷ 0x24 ∷ 0x25 ∷ 0x26 ∷ 0x27 ∷ 0x28 ∷ 0x29 ∷ 0x00 ∷ 0x02 ∷ 0x2C ∷ 0x2D ∷ 0x2E ∷ []

pub record Places : Type 0 where
  pub check : check_of head ≡ 0x1011
  pub number : number_of head ≡ 0x12131415
  pub first_time : first_time_of head ≡ 0x161718191A1B1C1D
  pub count : count_of head ≡ 0x1E1F
  pub entry_is : entry_at between 1 ≡ entry 0x2122232425262728 0x29 (0x2C ∷ 0x2D ∷ [])
  pub end : end_at between 1 ≡ 14

pub places : Places
unfolding be
places = record { check = refl; number = refl; first_time = refl; count = refl; entry_is = refl; end = refl }

-- ---- CHECK: "1 to 65,535", "a multiple of 65,535"
pub record Checks : Type 0 where
  -- a sum of 0, and of 65,535 with a check of 0; 65,535; 65,534 and 1; 65,534 and 2
  pub few : map is_checked ((0 ∷ 0 ∷ []) ∷ (0 ∷ 0 ∷ 0xFF ∷ 0xFF ∷ []) ∷ (0xFF ∷ 0xFF ∷ []) ∷ (0xFF ∷ 0xFE ∷ 0 ∷ 1 ∷ []) ∷ (0xFF ∷ 0xFE ∷ 0 ∷ 2 ∷ []) ∷ [])
      ≡ false ∷ false ∷ true ∷ true ∷ false ∷ []
  -- "256 16-bit words": the last of them counts, one behind it does not
  pub last_word : is_checked (0xFF ∷ 0xFE ∷ replicate 509 0 ++ 1 ∷ []) ≡ true
  pub behind : is_checked (0xFF ∷ 0xFF ∷ replicate 511 0 ++ 1 ∷ []) ≡ true

pub checks : Checks
unfolding is_checked sum_from be
checks = record { few = refl; last_word = refl; behind = refl }
