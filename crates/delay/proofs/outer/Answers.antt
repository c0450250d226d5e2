-- `outer` meets its contract: both times are raised alike.
use mathlib.Core.Path.{subst}
use Prim.Native.Nat.{◌^◌}
use lib.IntN.{ℤ}
use Rattle.delay.specs.Delay.{t1, t4}
use Rattle.delay.specs.Inside.{SpanIs}
use Rattle.delay.proofs.Laws.{raised_alike}
use Rattle.delay.proofs.outer.Goals as goal

pub returns : goal.returns
returns c =
    let x = c.args.x in
    let e = raised_alike (t4 x) (t1 x) _ _ (2 ^ 48) c.t4.ensures c.t1.ensures in
    subst (λ (z : ℤ). SpanIs z c.between.result) e c.between.ensures
