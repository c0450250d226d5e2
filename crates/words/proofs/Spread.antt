-- The elements of a list one by one, as a literal array puts them together.
use Prim.Native.Nat.{ℕ, zero, suc}
use mathlib.Core.List.{List, [], ◌∷◌}
use lib.ListN.{get_or}

-- n elements from k on
abbrev pub spread : ℕ → ℕ → List ℕ → List ℕ
spread zero k w = []
spread (suc n) k w = get_or w k 0 ∷ spread n (suc k) w
