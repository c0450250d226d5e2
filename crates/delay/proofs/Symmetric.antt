-- Symmetric links: no asymmetry, and the latencies of the two ways add up alike. The delay is then the textbook's mean of the two ways, M / 2 rounded
-- down; where D is odd, its half was rounded down once already, and one unit of 2^-16 ns goes with it.
use mathlib.Core.Path.{◌≡◌, sym, ap, ◌∙◌}
use Prim.Native.Nat.{ℕ, ◌+◌, ◌*◌, ◌/◌, ◌%◌, ◌^◌}
use native.Mathlib.Omega.{arith}
use lib.IntN.{ℤ, pos, neg_ℤ, ◌+ℤ◌, ◌-ℤ◌, ◌*ℤ◌}
use Rattle.signed.specs.Floor.{floor, rest}
use Rattle.signed.proofs.Parts.{ext, parts, add_law, sub_law, neg_law, mul_law}
use Rattle.signed.proofs.Floors.{floor_rest, floor_only, rest_below}
use Rattle.delay.specs.declared.Exchange.{Exchange}
use Rattle.delay.specs.Delay.{t1, t2, t3, t4, M, share, delay, offset}

-- rounded down
abbrev pub half : ℤ → ℤ
half z = floor z (pos 2)

pub record Symmetric (x : Exchange) : Type 0 where
  pub asymmetry : x.asymmetry.0 ≡ pos 0
  pub latencies : x.latencies.mtx.0 + x.latencies.srx.0 ≡ x.latencies.mrx.0 + x.latencies.stx.0

-- half of a number less an even one
half_less : (z g : ℤ) → half (z -ℤ pos 2 *ℤ g) ≡ half z -ℤ g
half_less z g =
    let f = parts (floor_rest z 2 (omega arith)) in
    let m = mul_law 2 (half z) in
    let a = add_law (pos 2 *ℤ half z) (pos (rest z 2)) in
    let s = sub_law (half z) g in
    let d = mul_law 2 g in
    let t = sub_law z (pos 2 *ℤ g) in
    let k = mul_law 2 (half z -ℤ g) in
    let b = add_law (pos 2 *ℤ (half z -ℤ g)) (pos (rest z 2)) in
    let e = ext (pos 2 *ℤ (half z -ℤ g) +ℤ pos (rest z 2)) (z -ℤ pos 2 *ℤ g) (omega arith) in
    (floor_only (z -ℤ pos 2 *ℤ g) 2 (omega arith) (half z -ℤ g) (rest z 2) (rest_below z 2 (omega arith)) e).0

-- with no asymmetry the share is the half
pub share_half : (z : ℤ) → share (pos 0) z ≡ half z
unfolding share
share_half z =
    let f = parts (floor_rest z 2 (omega arith)) in
    let m = mul_law 2 (half z) in
    let a = add_law (pos 2 *ℤ half z) (pos (rest z 2)) in
    let w = pos (2 ^ 40) *ℤ z in
    let n = mul_law (2 ^ 40) z in
    let k = mul_law (2 ^ 41) (half z) in
    let b = add_law (pos (2 ^ 41) *ℤ half z) (pos (2 ^ 40 * rest z 2)) in
    let r = rest_below z 2 (omega arith) in
    let e = ext (pos (2 ^ 41) *ℤ half z +ℤ pos (2 ^ 40 * rest z 2)) w (omega arith) in
    (floor_only w (2 ^ 41) (omega arith) (half z) (2 ^ 40 * rest z 2) (omega arith) e).0

module _ (x : Exchange) (h : Symmetric x) where
  -- D, as a natural number
  abbrev latency : ℕ
  latency = (x.latencies.mtx.0 + x.latencies.mrx.0 + x.latencies.stx.0 + x.latencies.srx.0) / 1000

  pub symmetric : delay x ≡ half (M x -ℤ pos (latency % 2))
  unfolding delay
  symmetric =
      let n = latency / 2 in
      let one : (x.latencies.mtx.0 + x.latencies.srx.0) / 1000 ≡ n = let s = h.latencies in omega arith in
      let z = M x -ℤ pos (latency % 2) in
      let l = sub_law (M x) (pos (latency % 2)) in
      let k = sub_law z (pos (2 * n)) in
      let d = sub_law (M x) (pos latency) in
      let same : M x -ℤ pos latency ≡ z -ℤ pos (2 * n) = ext (M x -ℤ pos latency) (z -ℤ pos (2 * n)) (omega arith) in
      let a : share x.asymmetry.0 (M x -ℤ pos latency) ≡ half z -ℤ pos n =
      (λ i. share (h.asymmetry i) (same i)) ∙ share_half (z -ℤ pos (2 * n)) ∙ half_less z (pos n) in
      let b = sub_law (half z) (pos n) in
      let c = add_law (half z -ℤ pos n) (pos n) in
      (λ i. a i +ℤ pos (one i)) ∙ ext (half z -ℤ pos n +ℤ pos n) (half z) (omega arith)

  -- where D is even, as it is without latencies
  module _ (even : latency % 2 ≡ 0) where
    pub textbook_delay : delay x ≡ half (M x)
    textbook_delay =
        let l = sub_law (M x) (pos (latency % 2)) in
        symmetric ∙ ap half (ext (M x -ℤ pos (latency % 2)) (M x) (omega arith))

    -- ((t2 - t1) - (t4 - t3)) / 2, rounded up
    pub textbook_offset : neg_ℤ (offset x) ≡ half ((t4 x -ℤ t3 x) -ℤ (t2 x -ℤ t1 x))
    unfolding offset
    textbook_offset =
        let g = t2 x -ℤ t1 x in
        let l1 = sub_law (t2 x) (t1 x) in
        let l2 = sub_law (t4 x) (t1 x) in
        let l3 = sub_law (t3 x) (t2 x) in
        let l4 = sub_law (t4 x -ℤ t1 x) (t3 x -ℤ t2 x) in
        let l5 = sub_law (t4 x) (t3 x) in
        let l6 = sub_law (t4 x -ℤ t3 x) g in
        let l7 = mul_law 2 g in
        let l8 = sub_law (M x) (pos 2 *ℤ g) in
        let same : M x -ℤ pos 2 *ℤ g ≡ (t4 x -ℤ t3 x) -ℤ g = ext (M x -ℤ pos 2 *ℤ g) ((t4 x -ℤ t3 x) -ℤ g) (omega arith) in
        let d = parts textbook_delay in
        let o = sub_law g (delay x) in
        let n = neg_law (g -ℤ delay x) in
        let e = sub_law (half (M x)) g in
        ext (neg_ℤ (g -ℤ delay x)) (half (M x) -ℤ g) (omega arith) ∙ sym (half_less (M x) g) ∙ ap half same
