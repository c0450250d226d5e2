-- Big-endian numbers in a list of octets (01, "Octets of a message": "clause 13, big-endian").
use Rattle.std.specs.Prelude.{ℕ, zero, suc, ◌+◌, ◌*◌, ◌/◌, ◌%◌, List, ◌∷◌, get_or}

-- the value of the n octets of s at `at`, the first the highest; an octet past the end counts as 0
unfoldable pub be : ℕ → List ℕ → ℕ → ℕ
be zero s at = 0
be (suc n) s at = be n s at * 256 + get_or s (at + n) 0

-- the n octets of v, before rest
abbrev pub octets_of : ℕ → ℕ → List ℕ → List ℕ
octets_of zero v rest = rest
octets_of (suc n) v rest = octets_of n (v / 256) (v % 256 ∷ rest)
