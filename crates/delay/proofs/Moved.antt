-- Clocks that are moved. Where the master's clock shows y more and the slave's z more, the delay stays and the offset grows by z - y: so the same time
-- added to all four stamps changes nothing, and moving the slave's clock moves the offset by as much.
use Rattle.std.specs.Prelude.{Ok}
use mathlib.Core.Path.{◌≡◌, sym, ap, ◌∙◌, subst}
use Prim.Native.Nat.{◌+◌}
use native.Mathlib.Omega.{arith}
use lib.IntN.{ℤ, pos, ◌+ℤ◌, ◌-ℤ◌}
use Rattle.signed.specs.Limits.{Within}
use Rattle.signed.proofs.Parts.{ext, parts, add_law, sub_law}
use Rattle.delay.specs.declared.Corrections.{Corrections}
use Rattle.delay.specs.declared.Asymmetry.{Asymmetry}
use Rattle.delay.specs.declared.Exchange.{Exchange}
use Rattle.delay.specs.Delay.{coarse, fine, t1, t2, t3, t4, D, in_ns, share, delay, offset, in_seconds}
use Rattle.delay.specs.Range.{StampsIn, CorrectionsIn, LatenciesIn, InRange}
use Rattle.delay.specs.Answer.{measure_of}
use Rattle.delay.proofs.Exactly.{measured}

-- w is the exchange x, with the master's clock moved by y and the slave's by z
pub record Moved (y z : ℤ) (x w : Exchange) : Type 0 where
  pub t1 : pos (coarse w.stamps.t1) ≡ pos (coarse x.stamps.t1) +ℤ y
  pub t2 : pos (fine w.stamps.t2) ≡ pos (fine x.stamps.t2) +ℤ z
  pub t3 : pos (fine w.stamps.t3) ≡ pos (fine x.stamps.t3) +ℤ z
  pub t4 : pos (coarse w.stamps.t4) ≡ pos (coarse x.stamps.t4) +ℤ y
  pub corrections : w.corrections ≡ x.corrections
  pub latencies : w.latencies ≡ x.latencies
  pub asymmetry : w.asymmetry ≡ x.asymmetry

-- both ends of a difference moved alike, or not
moved_difference : (a b c d y z : ℤ) → c ≡ a +ℤ y → d ≡ b +ℤ z → c -ℤ d ≡ (a -ℤ b) +ℤ (y -ℤ z)
moved_difference a b c d y z e f =
    let p = parts e in
    let q = parts f in
    let l1 = add_law a y in
    let l2 = add_law b z in
    let l3 = sub_law c d in
    let l4 = sub_law a b in
    let l5 = sub_law y z in
    let l6 = add_law (a -ℤ b) (y -ℤ z) in
    ext (c -ℤ d) ((a -ℤ b) +ℤ (y -ℤ z)) (omega arith)

alike : (a b c d y : ℤ) → c ≡ a +ℤ y → d ≡ b +ℤ y → c -ℤ d ≡ a -ℤ b
alike a b c d y e f =
    let p = parts (moved_difference a b c d y y e f) in
    let l = add_law (a -ℤ b) (y -ℤ y) in
    let m = sub_law y y in
    ext (c -ℤ d) (a -ℤ b) (omega arith)

module _ (y z : ℤ) (x w : Exchange) (h : Moved y z x w) where
  t1_moved : t1 w ≡ t1 x +ℤ y
  unfolding t1
  t1_moved =
      let a = pos (coarse x.stamps.t1) in
      let b = pos (coarse w.stamps.t1) in
      let s = x.corrections.sync.0 in
      let f = x.corrections.follow.0 in
      let c : t1 w ≡ b +ℤ s +ℤ f = ap (λ (k : Corrections). b +ℤ k.sync.0 +ℤ k.follow.0) h.corrections in
      let p = parts h.t1 in
      let l1 = add_law a y in
      let l2 = add_law b s in
      let l3 = add_law (b +ℤ s) f in
      let l4 = add_law a s in
      let l5 = add_law (a +ℤ s) f in
      let l6 = add_law (a +ℤ s +ℤ f) y in
      c ∙ ext (b +ℤ s +ℤ f) (a +ℤ s +ℤ f +ℤ y) (omega arith)

  t2_moved : t2 w ≡ t2 x +ℤ z
  unfolding t2
  t2_moved = h.t2

  t3_moved : t3 w ≡ t3 x +ℤ z
  unfolding t3
  t3_moved = h.t3

  t4_moved : t4 w ≡ t4 x +ℤ y
  unfolding t4
  t4_moved =
      let a = pos (coarse x.stamps.t4) in
      let b = pos (coarse w.stamps.t4) in
      let s = x.corrections.resp.0 in
      let c : t4 w ≡ b -ℤ s = ap (λ (k : Corrections). b -ℤ k.resp.0) h.corrections in
      let p = parts h.t4 in
      let l1 = add_law a y in
      let l2 = sub_law b s in
      let l4 = sub_law a s in
      let l6 = add_law (a -ℤ s) y in
      c ∙ ext (b -ℤ s) (a -ℤ s +ℤ y) (omega arith)

  outer_same : t4 w -ℤ t1 w ≡ t4 x -ℤ t1 x
  outer_same = alike (t4 x) (t1 x) (t4 w) (t1 w) y t4_moved t1_moved

  inner_same : t3 w -ℤ t2 w ≡ t3 x -ℤ t2 x
  inner_same = alike (t3 x) (t2 x) (t3 w) (t2 w) z t3_moved t2_moved

  pub delay_same : delay w ≡ delay x
  unfolding delay
  delay_same =
      λ i.
      share (h.asymmetry i).0 ((outer_same i -ℤ inner_same i) -ℤ D (h.latencies i))
      +ℤ in_ns ((h.latencies i).mtx.0 + (h.latencies i).srx.0)

  pub offset_moved : offset w ≡ offset x +ℤ (z -ℤ y)
  unfolding offset
  offset_moved =
      let p = parts (moved_difference (t2 x) (t1 x) (t2 w) (t1 w) z y t2_moved t1_moved) in
      let q = parts delay_same in
      let l1 = sub_law (t2 w -ℤ t1 w) (delay w) in
      let l2 = sub_law (t2 x -ℤ t1 x) (delay x) in
      let l3 = add_law (t2 x -ℤ t1 x) (z -ℤ y) in
      let l4 = add_law (t2 x -ℤ t1 x -ℤ delay x) (z -ℤ y) in
      ext (t2 w -ℤ t1 w -ℤ delay w) (t2 x -ℤ t1 x -ℤ delay x +ℤ (z -ℤ y)) (omega arith)

  -- the limits other than those of the stamps themselves
  range_moved : StampsIn w.stamps → InRange x → InRange w
  range_moved s r =
      record {
        inputs = record {
          stamps = s;
          corrections = subst CorrectionsIn (sym h.corrections) r.inputs.corrections;
          asymmetry = subst (λ (a : Asymmetry). Within 39 a.0) (sym h.asymmetry) r.inputs.asymmetry;
          latencies = subst LatenciesIn (sym h.latencies) r.inputs.latencies;
        };
        outer = subst (Within 47) (sym outer_same) r.outer;
        inner = subst (Within 47) (sym inner_same) r.inner;
      }

  -- the answer after the move, where no stamp has left its range
  pub moved : StampsIn w.stamps → InRange x → measure_of w ≡ Ok (record { 0 = delay x }, in_seconds (offset x +ℤ (z -ℤ y)))
  moved s r = measured w (range_moved s r) ∙ (λ i. Ok (record { 0 = delay_same i }, in_seconds (offset_moved i)))

-- the same time added to all four stamps changes neither delay nor offset
pub same_time_added : (y : ℤ) (x w : Exchange) → Moved y y x w → StampsIn w.stamps → InRange x → measure_of w ≡ measure_of x
same_time_added y x w h s r =
    let l = sub_law y y in
    let m = add_law (offset x) (y -ℤ y) in
    let e : offset x +ℤ (y -ℤ y) ≡ offset x = ext (offset x +ℤ (y -ℤ y)) (offset x) (omega arith) in
    moved y y x w h s r ∙ ap (λ (o : ℤ). Ok (record { 0 = delay x }, in_seconds o)) e ∙ sym (measured x r)

-- the slave's clock moved by z moves the offset by z, and leaves the delay
pub slave_moved : (z : ℤ) (x w : Exchange) → Moved (pos 0) z x w → StampsIn w.stamps → InRange x
    → measure_of w ≡ Ok (record { 0 = delay x }, in_seconds (offset x +ℤ z))
slave_moved z x w h s r =
    let l = sub_law z (pos 0) in
    let e : z -ℤ pos 0 ≡ z = ext (z -ℤ pos 0) z (omega arith) in
    moved (pos 0) z x w h s r ∙ ap (λ (o : ℤ). Ok (record { 0 = delay x }, in_seconds (offset x +ℤ o))) e
