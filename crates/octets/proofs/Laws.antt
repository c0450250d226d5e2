-- Laws of `be` over the width: a bound, two halves, and that reading gives what was written.
use Prim.Native.Nat.{ℕ, zero, suc, ◌+◌, ◌*◌, ◌/◌, ◌%◌, ◌^◌, ◌<◌, ◌≤◌}
use mathlib.Core.Path.{◌≡◌, refl, ap}
use mathlib.Core.List.{List, [], ◌∷◌}
use native.Mathlib.Nat.{pow-suc, add-suc, add-zero, zero-add, pow-zero, add_assoc, pow-le-pow_right, lt_of_lt_of_le, div-lt_iff_lt-mul, div-add-mod'}
use native.Mathlib.Omega.{arith}
use lib.ListN.{length, get_or, take, drop}
use lib.Seq.{get_or-drop, get_or-take}
use lib.Arith.{digits_lt}
use Rattle.octets.specs.Be.{be, octets_of}

-- every element is an octet
abbrev pub Octets : List ℕ → Type 0
Octets s = (k : ℕ) → get_or s k 0 < 256

-- so is every element of a part
pub octets_take : (n : ℕ) (s : List ℕ) → Octets s → Octets (take n s)
octets_take zero s o k = omega arith
octets_take (suc n) [] o k = o k
octets_take (suc n) (x ∷ s) o zero = o 0
octets_take (suc n) (x ∷ s) o (suc k) = octets_take n s (λ j. o (suc j)) k

pub octets_drop : (n : ℕ) (s : List ℕ) → Octets s → Octets (drop n s)
octets_drop n s o k = rw (get_or-drop n s k 0) (o (n + k))

pub be_bound : (n : ℕ) (s : List ℕ) (at : ℕ) → Octets s → be n s at < 256 ^ n
unfolding be
be_bound zero s at o = omega arith
be_bound (suc n) s at o = rw pow-suc (digits_lt (be_bound n s at o) (o (at + n)))

-- the same below any larger power
pub be_below : (m : ℕ) {n : ℕ} (s : List ℕ) (at : ℕ) → n ≤ m → Octets s → be n s at < 256 ^ m
be_below m {n} s at h o = lt_of_lt_of_le (be_bound n s at o) (pow-le-pow_right (omega arith) h)

pub be_suc : (n : ℕ) (s : List ℕ) (at : ℕ) → be (suc n) s at ≡ be n s at * 256 + get_or s (at + n) 0
unfolding be
be_suc n s at = refl

pub get_d_octets : (n v : ℕ) (t : List ℕ) (k : ℕ) → get_or (octets_of n v t) (n + k) 0 ≡ get_or t k 0
get_d_octets zero v t k = rw zero-add
get_d_octets (suc n) v t k =
    let e : suc n + k ≡ n + suc k = omega arith in
    rw e (get_d_octets n (v / 256) (v % 256 ∷ t) (suc k))

-- what was written is read
pub be_octets : (n v : ℕ) (t : List ℕ) → v < 256 ^ n → be n (octets_of n v t) 0 ≡ v
unfolding be
be_octets zero v t b = omega arith
be_octets (suc n) v t b =
    let l = octets_of n (v / 256) (v % 256 ∷ t) in
    let e : be n l 0 ≡ v / 256 = be_octets n (v / 256) (v % 256 ∷ t) ((div-lt_iff_lt-mul (omega arith)).1 (rw pow-suc at b)) in
    let z : 0 + n ≡ n + 0 = omega arith in
    let g : get_or l (0 + n) 0 ≡ v % 256 = rw z (get_d_octets n (v / 256) (v % 256 ∷ t) 0) in
    rw (e, g) (div-add-mod' v 256)

-- the octets from place k on
pub be_drop : (n k : ℕ) (s : List ℕ) (at : ℕ) → be n (drop k s) at ≡ be n s (k + at)
unfolding be
be_drop zero k s at = refl
be_drop (suc n) k s at = rw (be_drop n k s at, get_or-drop, add_assoc)

-- the octets before place k
pub be_take : (n k : ℕ) (s : List ℕ) (at : ℕ) → at + n ≤ k → be n (take k s) at ≡ be n s at
unfolding be
be_take zero k s at h = refl
be_take (suc n) k s at h = rw (be_take n k s at (omega arith), get_or-take k s (at + n) 0 (omega arith))

-- two halves, of m and of n octets
pub be_split : (m n : ℕ) (s : List ℕ) (at : ℕ) → be (m + n) s at ≡ be m s at * 256 ^ n + be n s (at + m)
unfolding be
be_split m zero s at = rw (add-zero, pow-zero) (omega arith)
be_split m (suc n) s at =
    let e : be (m + n) s at ≡ be m s at * 256 ^ n + be n s (at + m) = be_split m n s at in
    rw (add-suc, e, pow-suc, add_assoc) (omega arith)

-- A list of n elements or more, its first n written out
abbrev pub opened : ℕ → List ℕ → List ℕ → List ℕ
opened zero s t = t
opened (suc n) s t = get_or s 0 0 ∷ opened n (drop 1 s) t

pub open_list : (n : ℕ) (s : List ℕ) → n ≤ length s → s ≡ opened n s (drop n s)
open_list zero s h = refl
open_list (suc n) [] h = absurd (omega arith)
open_list (suc n) (x ∷ s) h = ap (λ (l : List ℕ). x ∷ l) (open_list n s (omega arith))
