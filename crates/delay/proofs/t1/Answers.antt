-- `t1` meets its contract: both corrections are added, each raised by 2^47.
use Prim.Native.Nat.{◌^◌}
use native.Mathlib.Omega.{arith}
use lib.IntN.{pos, ◌+ℤ◌}
use Rattle.quotient.proofs.Laws.{shifted}
use Rattle.signed.proofs.Parts.{raised_of, add_law}
use Rattle.delay.specs.Delay.{coarse, t1}
use Rattle.delay.proofs.Laws.{raised_is}
use Rattle.delay.proofs.t1.Goals as goal

pub returns : goal.returns
unfolding t1
returns c =
    let x = c.args.x in
    let s = raised_is x.corrections.sync.0 c.raised.result c.requires.corrections.sync c.raised.ensures in
    let n = shifted x.stamps.t1.nanos 65536 (omega arith) in
    let f = raised_is x.corrections.follow.0 c.raised-2.result c.requires.corrections.follow c.raised-2.ensures in
    let l = add_law (pos (coarse x.stamps.t1)) x.corrections.sync.0 in
    let m = add_law (pos (coarse x.stamps.t1) +ℤ x.corrections.sync.0) x.corrections.follow.0 in
    raised_of (t1 x) (2 ^ 48) _ (omega arith)
