-- What a port is.
use Prim.Native.Nat.{ℕ, ◌≤◌}
use mathlib.Core.Path.{◌≡◌}
use mathlib.Core.Bool.{true}
use lib.Dec.{leb}
use borrow.Author.Tests.{leb-true}
use Rattle.laws.proofs.Bools.{both}
use Rattle.refusal.specs.Limits.{port_count, is_port}

-- "port outside 1 to 18"
pub port_bounds : (p : ℕ) → is_port p ≡ true → (1 ≤ p) × (p ≤ port_count)
port_bounds p h = let b = both (leb 1 p) (leb p port_count) h in (leb-true 1 p b.0, leb-true p port_count b.1)
