-- Division rounded down, and what it leaves.
use Rattle.std.specs.Prelude.{ℕ, suc, ◌-◌, ◌/◌, ◌%◌, ℤ, pos, negsuc, neg_ℤ}

-- how many whole times n goes into z, for n above 0: the greatest k for which k times n is not above z
abbrev pub times : ℤ → ℕ → ℤ
times (pos a) n = pos (a / n)
times (negsuc a) n = negsuc (a / n)

-- floor(z / w)
abbrev pub floor : ℤ → ℤ → ℤ
floor z (pos n) = times z n
floor z (negsuc n) = times (neg_ℤ z) (suc n)

-- what is left of z, from 0 to below n
abbrev pub rest : ℤ → ℕ → ℕ
rest (pos a) n = a % n
rest (negsuc a) n = n - suc (a % n)
