-- `t4` meets its contract: the correction, raised by 2^47, is taken off 3 * 2^47.
use Prim.Native.Nat.{◌^◌}
use native.Mathlib.Omega.{arith}
use lib.IntN.{pos}
use Rattle.quotient.proofs.Laws.{shifted}
use Rattle.signed.proofs.Parts.{raised_of, sub_law}
use Rattle.delay.specs.Delay.{coarse, t4}
use Rattle.delay.proofs.Laws.{raised_is}
use Rattle.delay.proofs.t4.Goals as goal

pub returns : goal.returns
unfolding t4
returns c =
    let x = c.args.x in
    let s = raised_is x.corrections.resp.0 c.raised.result c.requires.corrections.resp c.raised.ensures in
    let n = shifted x.stamps.t4.nanos 65536 (omega arith) in
    let l = sub_law (pos (coarse x.stamps.t4)) x.corrections.resp.0 in
    raised_of (t4 x) (2 ^ 48) _ (omega arith)
