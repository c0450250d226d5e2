-- `measure` meets its contract: where M is told the delay and the offset are those of the contract.
use Rattle.std.specs.Prelude.{Some, Ok}
use mathlib.Core.Path.{ap, ap₂, subst, ◌∙◌}
use Prim.Native.Nat.{◌^◌}
use lib.IntN.{ℤ, ◌-ℤ◌}
use Rattle.delay.specs.Delay.{t1, t2, delay, offset, in_seconds}
use Rattle.delay.specs.Inside.{MIs}
use Rattle.delay.proofs.Ranges.{range_yes}
use Rattle.delay.proofs.Laws.{raised_alike, lowered_is}
use Rattle.delay.proofs.measure.Goals as goal

pub returns : goal.returns
unfolding offset t2
returns c =
    let d = c.delay_of-delay in
    let x = c.args.x in
    let m : MIs x (Some c.in_ok-m.m) = subst (MIs x) c.in_ok-m.ensures.ok_part c.two_way.ensures in
    let alike = raised_alike (t2 x) (t1 x) _ _ (2 ^ 48) c.slave_time.ensures c.t1.ensures in
    let low = lowered_is (delay x) (2 ^ 49) d.result d.ensures.is in
    let o = c.offset_of-offset.ensures ∙ ap in_seconds (ap₂ ◌-ℤ◌ alike low) in
    let e = c.lowered.ensures ∙ low in
    simp (range_yes m.0) (ap₂ (λ x y. Ok (x, y)) (ap (λ (z : ℤ). record { 0 = z }) e) o)
