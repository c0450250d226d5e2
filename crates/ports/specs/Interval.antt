-- The announce interval as a setting (01, "Sender records": "an announce interval of 2^k seconds, k from -3 to 4 (0 unless set)").
use Rattle.std.specs.Prelude.{ℕ, ◌-◌, ◌%◌, List, Bool, not, ◌&&◌, leb, ltb, ℤ, pos, negsuc, set, Result, Ok, Err}
use Rattle.std.specs.Int.{w8}
use Rattle.std.proofs.Common.{of_z}
use Rattle.refusal.specs.Choice.{pick, refuse}
use Rattle.refusal.specs.declared.Refusal.TheVariants.{Port, Field}
use Rattle.rank.specs.Ranked.{is_port}
use Rattle.ports.specs.Words.{own, with}
use Rattle.refusal.specs.declared.Refusal.{Refusal}

-- "k from -3 to 4"
abbrev pub is_interval : ℤ → Bool
is_interval (pos n) = leb n 4
is_interval (negsuc n) = leb n 2

-- k modulo 8, and back
abbrev pub exponent_of : ℤ → ℕ
exponent_of k = of_z w8 k % 8

abbrev pub interval_of : ℕ → ℤ
interval_of e = pick (ltb (e % 8) 5) (pos (e % 8)) (negsuc (7 - e % 8))

-- "Settings: 8, 18."; "a setting is out of range"
abbrev pub set_by : ℕ → Bool → Result (Unit {0}) Refusal
set_by port fits = refuse (not (is_port port)) (Err Port) (refuse (not fits) (Err Field) (Ok tt))

abbrev pub after_by : List ℕ → ℕ → Bool → ℕ → List ℕ
after_by ws port fits e = pick (is_port port && fits) (with ws port (set (own ws port) 1 e)) ws

abbrev pub interval_set : ℕ → ℤ → Result (Unit {0}) Refusal
interval_set port k = set_by port (is_interval k)

abbrev pub interval_after : List ℕ → ℕ → ℤ → List ℕ
interval_after ws port k = after_by ws port (is_interval k) (exponent_of k)
