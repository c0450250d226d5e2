-- Limits of signed numbers.
use Rattle.std.specs.Prelude.{ℕ, ◌^◌, ◌≤◌, Bool, ◌&&◌, ℤ, pos, neg_ℤ, ◌+ℤ◌, ◌≤ℤ◌, ◌<ℤ◌}
use Rattle.std.specs.Int.Signed.{lt_z}

-- strictly between -2^k and 2^k
abbrev pub within : ℕ → ℤ → Bool
within k z = lt_z (neg_ℤ (pos (2 ^ k))) z && lt_z z (pos (2 ^ k))

-- the same, as a claim
pub record Within (k : ℕ) (z : ℤ) : Type 0 where
  pub above : neg_ℤ (pos (2 ^ k)) <ℤ z
  pub below : z <ℤ pos (2 ^ k)

-- raised by b, z is no more negative, and is far from the end of 64 bits
pub record Raisable (z : ℤ) (b : ℕ) : Type 0 where
  pub least : b ≤ 2 ^ 62
  pub above : pos 0 ≤ℤ (z +ℤ pos b)
  pub below : z <ℤ pos (2 ^ 62)
