-- `inner` meets its contract: both times are raised alike.
use mathlib.Core.Path.{subst}
use Prim.Native.Nat.{◌^◌}
use lib.IntN.{ℤ}
use Rattle.delay.specs.Delay.{t2, t3}
use Rattle.delay.specs.Inside.{SpanIs}
use Rattle.delay.proofs.Laws.{raised_alike}
use Rattle.delay.proofs.inner.Goals as goal

pub returns : goal.returns
unfolding t2 t3
returns c =
    let x = c.args.x in
    let e = raised_alike (t3 x) (t2 x) _ _ (2 ^ 48) c.slave_time.ensures c.slave_time-2.ensures in
    subst (λ (z : ℤ). SpanIs z c.between.result) e c.between.ensures
