-- `put_heads` meets its contract: the numbers of a packet's head, and the frame's, one behind the other.
use Prim.Native.Nat.{◌/◌, ◌%◌, ◌≤◌}
use mathlib.Core.Path.{refl}
use mathlib.Core.List.{[]}
use native.Mathlib.Omega.{arith}
use lib.ListN.{length}
use Rattle.refusal.specs.Limits.{second_nanos}
use Rattle.octets.specs.Be.{octets_of}
use Rattle.stores.proofs.Buffer.{put_two}
use Rattle.exporting.proofs.put_heads.Goals as goal

pub returns : goal.returns
returns c =
    let a = c.args in
    let o = a.out.now in
    let at = a.at in
    let n = a.n in
    let u = a.t / second_nanos in
    let v = a.t % second_nanos in
    let h : at ≤ length o = omega (arith, c.requires) in
    let x1 = octets_of 4 u [] in
    let x2 = octets_of 4 u (octets_of 4 v []) in
    let x3 = octets_of 4 u (octets_of 4 v (octets_of 4 n [])) in
    let x4 = octets_of 4 u (octets_of 4 v (octets_of 4 n (octets_of 4 n []))) in
    let x5 = octets_of 4 u (octets_of 4 v (octets_of 4 n (octets_of 4 n (octets_of 8 0 [])))) in
    let q2 = put_two o at h x1 (octets_of 4 v []) refl refl refl c.four.ensures c.four-2.ensures in
    let q3 = put_two o at h x2 (octets_of 4 n []) refl refl refl q2 c.four-3.ensures in
    let q4 = put_two o at h x3 (octets_of 4 n []) refl refl refl q3 c.four-4.ensures in
    let q5 = put_two o at h x4 (octets_of 8 0 []) refl refl refl q4 c.eight.ensures in
    put_two o at h x5 (octets_of 6 0x88F7 []) refl refl refl q5 c.six.ensures
