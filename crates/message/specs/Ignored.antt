-- What reading does not look at (01, "Octets of a message": "Reserved fields are ignored when read", "controlField is ignored
-- when read", "Octets past messageLength are padding and ignored."), and messages that differ only there.
use Rattle.std.specs.Prelude.{ℕ, ◌≤◌, ◌≡◌, List, Bool, false, ◌&&◌, ◌||◌, ◌⊎◌, eqb, ltb, leb, length, get_or}
use Rattle.refusal.specs.Choice.{pick}
use Rattle.message.specs.Fields.{type_of, version_of, length_of}

-- in the header: octets 5 and 16 to 19, which are reserved, and controlField at 32
abbrev pub header_ignored : ℕ → Bool
header_ignored k = eqb k 5 || (leb 16 k && leb k 19) || eqb k 32

-- behind it: octet 46 of an Announce, which is reserved, and octets past messageLength
abbrev pub rest_ignored : List ℕ → ℕ → Bool
rest_ignored s k = (eqb k 46 && eqb (type_of s) 0xB) || leb (length_of s) k

abbrev pub is_ignored : List ℕ → ℕ → Bool
is_ignored s k = pick (ltb k 34) (header_ignored k) (rest_ignored s k)

-- a header and all octets up to messageLength are lent
pub record Reaches (s : List ℕ) (n : ℕ) : Type 0 where
  pub header : 34 ≤ length s
  pub message : n ≤ length s

-- two messages that differ only there
pub record Alike (a b : List ℕ) : Type 0 where
  -- all octets that are not ignored are the same, but for octet 1
  pub octets : (k : ℕ) → is_ignored a k ≡ false → (k ≡ 1 → ⊥) → get_or a k 0 ≡ get_or b k 0
  -- whose low half is
  pub version : version_of a ≡ version_of b
  -- and as many octets are lent, or they differ in how much padding there is
  pub lent : (length a ≡ length b) ⊎ (Reaches a (length_of a) × Reaches b (length_of a))
