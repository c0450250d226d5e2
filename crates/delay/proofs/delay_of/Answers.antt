-- `delay_of` meets its contract: M - D is raised by 2^49, and so is its share.
use mathlib.Core.Path.{◌≡◌, ap, ◌∙◌}
use Prim.Native.Nat.{◌^◌, ◌+◌, ◌-◌, ◌<◌}
use native.Mathlib.Omega.{arith}
use lib.IntN.{ℤ, pos, ◌+ℤ◌, ◌-ℤ◌}
use Rattle.signed.proofs.Parts.{up, dn, parts, ext, add_law, sub_law, raised_told, raised_of}
use Rattle.delay.specs.declared.Latencies.{Latencies}
use Rattle.delay.specs.Delay.{M, D, in_ns, share, delay}
use Rattle.delay.specs.Range.{LatenciesIn}
use Rattle.delay.proofs.Laws.{M-is}
use Rattle.delay.proofs.delay_of.Goals as goal

-- a sum of latencies within their limits is small
module _ (l : Latencies) (i : LatenciesIn l) (z : ℤ) where
  both_small : z ≡ D l → (up z < 2 ^ 43) × (dn z ≡ 0)
  both_small e = let p = parts e in omega arith

  one-small : z ≡ in_ns (l.mtx.0 + l.srx.0) → (up z < 2 ^ 43) × (dn z ≡ 0)
  one-small e = let p = parts e in omega arith

pub overflow_add-z : goal.overflow_add-z
overflow_add-z c =
    let m = M-is c.args.x c.args.m c.requires in omega arith

pub overflow_add-z-2 : goal.overflow_add-z-2
overflow_add-z-2 c =
    let m = M-is c.args.x c.args.m c.requires in omega arith

pub share-requires : goal.share-requires
share-requires c =
    let both = c.in_ns-both.result.0 in
    let b = both_small c.args.x.latencies c.requires.0.inputs.latencies both (c.in_ns-both.ensures ∙ ap in_ns c.both_ways.ensures) in
    let m = M-is c.args.x c.args.m c.requires in
    let r = raised_told both (2 ^ 47) c.raised.result c.raised.ensures in
    (c.requires.0.inputs.asymmetry, omega arith, omega arith)

pub returns : goal.returns
unfolding delay
returns c =
    let x = c.args.x in
    let a = x.asymmetry.0 in
    let d = D x.latencies in
    let o = in_ns (x.latencies.mtx.0 + x.latencies.srx.0) in
    let z = c.args.m + 2 ^ 48 + 2 ^ 47 - c.raised.result in
    let both = c.in_ns-both.result.0 in
    let one = c.in_ns-one.result.0 in
    let both_is : both ≡ D x.latencies = c.in_ns-both.ensures ∙ ap in_ns c.both_ways.ensures in
    let one-is : one ≡ in_ns (x.latencies.mtx.0 + x.latencies.srx.0) = c.in_ns-one.ensures ∙ ap in_ns c.one_way.ensures in
    let rb = raised_told both (2 ^ 47) c.raised.result c.raised.ensures in
    let ro = raised_told one (2 ^ 47) c.raised-2.result c.raised-2.ensures in
    let pb = parts both_is in
    let po = parts one-is in
    let sb = both_small x.latencies c.requires.0.inputs.latencies both both_is in
    let so = one-small x.latencies c.requires.0.inputs.latencies one one-is in
    let m = M-is x c.args.m c.requires in
    let l = sub_law (M x) d in
    let k = sub_law (pos z) (pos (2 ^ 49)) in
    let same : pos z -ℤ pos (2 ^ 49) ≡ M x -ℤ d = ext (pos z -ℤ pos (2 ^ 49)) (M x -ℤ d) (omega arith) in
    let s = raised_told (share a (M x -ℤ d)) (2 ^ 49) c.share.result (c.share.ensures.is ∙ ap (λ (t : ℤ). share a t +ℤ pos (2 ^ 49)) same) in
    let n = add_law (share a (M x -ℤ d)) o in
    let t = c.share.ensures.top in
    record { is = raised_of (delay x) (2 ^ 49) _ (omega arith); top = omega arith }
