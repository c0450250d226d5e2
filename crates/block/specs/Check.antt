-- The check of a block (02, (iv): "The check is 1 to 65,535 and makes the sum of the block's 256 16-bit words a multiple of 65,535.").
use Rattle.std.specs.Prelude.{ℕ, zero, suc, ◌+◌, ◌-◌, ◌*◌, ◌%◌, ◌<◌, ◌≡◌, List, [], Bool, not, ◌&&◌, eqb}
use Rattle.octets.specs.Be.{be, octets_of}
use Rattle.stores.specs.Stores.{over}
use Rattle.block.specs.Layout.{check_of}

-- the sum of n 16-bit words from an octet on, and of the 256 words of a block
unfoldable pub sum_from : ℕ → List ℕ → ℕ → ℕ
sum_from zero s at = 0
sum_from (suc n) s at = be 2 s at + sum_from n s (at + 2)

abbrev pub sum_of : List ℕ → ℕ
sum_of s = sum_from 256 s 0

-- "1 to 65,535"; "a multiple of 65,535"
unfoldable pub is_checked : List ℕ → Bool
is_checked s = not (eqb (check_of s) 0) && eqb (sum_of s % 65535) 0

-- the check that a block is to have, by its other 255 words
abbrev pub check_for : List ℕ → ℕ
check_for s = 65535 - sum_from 255 s 2 % 65535

-- ---- WHAT IS SAID OF IT
-- word k of a block, the check being word 0; and the block with w in its place
abbrev pub word_at : List ℕ → ℕ → ℕ
word_at s k = be 2 s (2 * k)

abbrev pub with_word : List ℕ → ℕ → ℕ → List ℕ
with_word s k w = over s (2 * k) (octets_of 2 w [])

-- w for v in word k is not seen: they are the same; or one is 0 and the other 65,535, in any word but the check
pub data Unseen (k v w : ℕ) : Type 0 where
  same : w ≡ v → Unseen k v w
  raised : 0 < k → v ≡ 0 → w ≡ 65535 → Unseen k v w
  lowered : 0 < k → v ≡ 65535 → w ≡ 0 → Unseen k v w
