-- A list of octets written out place by place, and that the octets of a number that was read are those it was read from.
use Prim.Native.Nat.{ℕ, zero, suc, ◌+◌, ◌*◌, ◌/◌, ◌%◌, ◌≤◌}
use mathlib.Core.Path.{◌≡◌, refl, ap, ◌∙◌}
use mathlib.Core.List.{List, ◌∷◌}
use native.Mathlib.Omega.{arith}
use native.Mathlib.Nat.{zero-add}
use lib.ListN.{length, drop, get_or}
use lib.Seq.{drop-cons}
use Rattle.octets.specs.Be.{be, octets_of}
use Rattle.octets.proofs.Laws.{Octets}

-- the n octets of s at `at`, before rest
abbrev pub spread : ℕ → List ℕ → ℕ → List ℕ → List ℕ
spread zero s at rest = rest
spread (suc n) s at rest = spread n s at (get_or s (at + n) 0 ∷ rest)

-- the octets of a number that was read
pub octets_back : (n : ℕ) (s : List ℕ) (at : ℕ) (rest : List ℕ) → Octets s → octets_of n (be n s at) rest ≡ spread n s at rest
unfolding be
octets_back zero s at rest o = refl
octets_back (suc n) s at rest o =
    let x = be n s at in
    let y = get_or s (at + n) 0 in
    let d : (x * 256 + y) / 256 ≡ x = omega (arith, o (at + n)) in
    let r : (x * 256 + y) % 256 ≡ y = omega (arith, o (at + n)) in
    rw (d, r) (octets_back n s at (y ∷ rest) o)

-- a list is its first n octets and what follows
pub spread_all : (n : ℕ) (s : List ℕ) → n ≤ length s → spread n s 0 (drop n s) ≡ s
spread_all zero s h = refl
spread_all (suc n) s h =
    let e : get_or s (0 + n) 0 ∷ drop (suc n) s ≡ drop n s = rw (zero-add, ← drop-cons s n 0 (omega arith)) in
    ap (spread n s 0) e ∙ spread_all n s (omega arith)
