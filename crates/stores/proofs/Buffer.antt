-- Laws of the buffer: what is put right behind what was put, or over its end, is one longer run with it.
use Prim.Native.Nat.{ℕ, ◌+◌, ◌-◌, ◌≤◌, ◌<◌}
use mathlib.Core.Path.{◌≡◌, sym, ap, ◌∙◌}
use mathlib.Core.List.{List, [], ◌∷◌, ◌++◌, append_assoc, append-nil}
use native.Mathlib.Omega.{arith}
use native.Mathlib.Nat.{add_assoc, add-zero, zero-add}
use native.Mathlib.Numerals.{add-one}
use lib.ListN.{length, take, drop, set, length-append, length-drop, take-append-drop}
use lib.Seq.{take_at, drop_at, drop-drop, drop-length, length-take-le, set_split, take-add}
use Rattle.stores.specs.Stores.{over}

module _ (d : List ℕ) (at : ℕ) (h : at ≤ length d) where
  module _ (x y : List ℕ) where
    front : length (take at d ++ x) ≡ at + length x
    front = length-append (take at d) x ∙ ap (λ (n : ℕ). n + length x) (length-take-le at d h)

    behind : drop (at + length x + length y) (over d at x) ≡ drop (at + length x + length y) d
    behind =
        sym (drop-drop (length y) (at + length x) (over d at x))
        ∙ ap (drop (length y)) (drop_at (take at d ++ x) (drop (at + length x) d) (at + length x) front)
        ∙ drop-drop (length y) (at + length x) d

    join : over (over d at x) (at + length x) y ≡ over d at (x ++ y)
    join =
        rw (take_at (take at d ++ x) (drop (at + length x) d) (at + length x) front, behind, length-append x y, ← add_assoc, append_assoc (take at d) x y)

  -- two parts, equal to X and Y, put one behind the other, the second at k
  pub put_two : {x y : List ℕ} (X Y : List ℕ) {k : ℕ} {o p : List ℕ} → k ≡ at + length X → x ≡ X → y ≡ Y
      → o ≡ over d at x → p ≡ over o k y → p ≡ over d at (X ++ Y)
  put_two X Y ek ex ey eo ep =
      ep ∙ (λ i. over (eo i) (ek i) (ey i)) ∙ (λ i. over (over d at (ex i)) (at + length X) Y) ∙ join X Y

  -- what is put at a place a second time, as long or longer
  put_again : (y z : List ℕ) → length y ≤ length z → over (over d at y) at z ≡ over d at z
  put_again y z k =
      let e : at + length z ≡ at + length y + length (drop (length y) z) = omega (arith, length-drop (length y) z) in
      let first : take at (over d at y) ≡ take at d =
      ap (take at) (append_assoc (take at d) y (drop (at + length y) d)) ∙ take_at (take at d) (y ++ drop (at + length y) d) at (length-take-le at d h) in
      let last : drop (at + length z) (over d at y) ≡ drop (at + length z) d = rw e (behind y (drop (length y) z)) in
      λ i. first i ++ z ++ last i

-- the first r elements of s, and then its last ones from j on, which overlap them
pub overlap : (d : List ℕ) (at : ℕ) (s : List ℕ) (j r : ℕ) (z : List ℕ) → at + length s ≤ length d → j ≤ r → r ≤ length s → r ≤ j + length z → take j s ++ z ≡ s
    → over (over d at (take r s)) (at + j) z ≡ over d at s
overlap d at s j r z hd hj hr hz e =
    let h : at ≤ length d = omega arith in
    let x = take j s in
    let y = take (r - j) (drop j s) in
    let lx : at + length x ≡ at + j = omega (arith, length-take-le j s (omega arith)) in
    let ly : length y ≤ length z = omega (arith, length-take-le (r - j) (drop j s) (omega (arith, length-drop j s))) in
    let k : at + j ≤ length (over d at x) = omega (arith, length-append (take at d ++ x) (drop (at + length x) d), length-append (take at d) x, length-take-le at d h, lx) in
    let rj : j + (r - j) ≡ r = omega arith in
    let cut : take r s ≡ x ++ y = ap (λ (n : ℕ). take n s) (sym rj) ∙ take-add j (r - j) s in
    ap (λ (l : List ℕ). over (over d at l) (at + j) z) cut
    ∙ ap (λ (l : List ℕ). over l (at + j) z) (sym (join d at h x y))
    ∙ (λ i. over (over (over d at x) (lx i) y) (at + j) z)
    ∙ put_again (over d at x) (at + j) k y z ly
    ∙ (λ i. over (over d at x) (sym lx i) z)
    ∙ join d at h x z
    ∙ ap (over d at) e

-- a store
pub put_one : (d : List ℕ) (at x : ℕ) → at < length d → set d at x ≡ over d at (x ∷ [])
put_one d at x h = rw (add-one, append_assoc) (set_split d at x h)

-- nothing put
pub put_none : (d : List ℕ) (at : ℕ) → d ≡ over d at []
put_none d at = sym (rw (append-nil, add-zero) (take-append-drop at d))

-- as much put as there is
pub put_all : (d s : List ℕ) → length s ≡ length d → over d 0 s ≡ s
put_all d s h = rw (zero-add, h, drop-length d) (append-nil s)
