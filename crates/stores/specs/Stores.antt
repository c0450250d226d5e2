-- What only the code needs, no rules of 01: a buffer with octets put into it, and the octets of a number with the lowest first.
use Rattle.std.specs.Prelude.{ℕ, zero, suc, ◌+◌, ◌/◌, ◌%◌, List, ◌∷◌, ◌++◌, length, take, drop}

-- d with the octets s in it from `at` on
abbrev pub over : List ℕ → ℕ → List ℕ → List ℕ
over d at s = take at d ++ s ++ drop (at + length s) d

-- the low n octets of v, the lowest first, before rest
abbrev pub low_of : ℕ → ℕ → List ℕ → List ℕ
low_of zero v rest = rest
low_of (suc n) v rest = v % 256 ∷ low_of n (v / 256) rest
