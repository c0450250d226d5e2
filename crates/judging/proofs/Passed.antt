-- One record of a block whose layout is right: it is whole, and stands before those that are left.
use Prim.Native.Nat.{ℕ, zero, suc, ◌+◌, ◌-◌, ◌<◌, ◌≤◌}
use mathlib.Core.Path.{◌≡◌, sym}
use mathlib.Core.List.{List, ◌∷◌}
use mathlib.Core.Bool.{true}
use native.Mathlib.Omega.{arith}
use lib.ListN.{take, drop}
use borrow.Author.Tests.{leb-true}
use Rattle.laws.proofs.Bools.{both}
use Rattle.refusal.specs.Limits.{is_port}
use Rattle.block.specs.Layout.{block_octets, entries_from, entry_at, time_at, port_at, length_at, end_at}
use Rattle.judging.specs.Tests.{laid_from}

pub record OneLaid (s : List ℕ) (at n : ℕ) : Type 0 where
  pub whole : end_at s at ≤ block_octets
  pub port : is_port (port_at s at) ≡ true
  pub others : laid_from (n - 1) s (end_at s at) ≡ true
  pub first : entries_from n s at ≡ entry_at s at ∷ entries_from (n - 1) s (end_at s at)

one_by : (s : List ℕ) (at m n : ℕ) → m ≡ n → laid_from (suc n) s at ≡ true → (end_at s at ≤ block_octets) × (is_port (port_at s at) ≡ true) × (laid_from m s (end_at s at) ≡ true)
    × (entries_from (suc n) s at ≡ entry_at s at ∷ entries_from m s (end_at s at))
unfolding laid_from entries_from
one_by s at m n k e =
    let p = both _ _ e in
    let q = both _ _ p.1 in
    (leb-true _ _ p.0, q.0, rw k q.1, rw k)

pub one_laid : (s : List ℕ) (at n : ℕ) → 0 < n → laid_from n s at ≡ true → OneLaid s at n
one_laid s at zero h e = absurd (omega arith)
one_laid s at (suc n) h e =
    let p = one_by s at (suc n - 1) n (omega arith) e in record { whole = p.0; port = p.1; others = p.2; first = p.3 }

-- what is lent of it are its octets
pub lent : (s : List ℕ) (at t p e : ℕ) → t ≡ time_at s at → p ≡ port_at s at → e ≡ end_at s at
    → entry_at s at ≡ record { time = t; port = p; message = take (e - (at + 11)) (drop (at + 11) s) }
lent s at t p e f g h =
    let m : length_at s at ≡ e - (at + 11) = omega arith in
    λ i. record { time = sym f i; port = sym g i; message = take (m i) (drop (at + 11) s) }
