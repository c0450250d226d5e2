-- `offset_of` meets its contract: raised by 64 seconds the parts are a natural number, and dividing it rounds the offset down.
use mathlib.Core.Path.{sym, ap, ◌∙◌, subst}
use Prim.Native.Nat.{ℕ, ◌^◌, ◌+◌, ◌-◌, ◌*◌}
use native.Mathlib.Omega.{arith}
use lib.IntN.{pos, ◌-ℤ◌}
use mir.Syntax.{w64}
use mir.Val.{SFits}
use mir.Facts.{to_z-of_z}
use Rattle.signed.proofs.Parts.{sub_law}
use Rattle.signed.proofs.Ranges.{difference_fits}
use Rattle.delay.specs.Delay.{second}
use Rattle.delay.specs.Inside.{time_of}
use Rattle.delay.proofs.Laws.{seconds_is}
use Rattle.delay.proofs.offset_of.Goals as goal

pub returns : goal.returns
returns c =
    let a = c.args in
    let gap = pos (time_of a.t2) -ℤ pos (time_of a.t1) in
    let delay = pos a.delay -ℤ pos (2 ^ 49) in
    let l1 = sub_law (pos (time_of a.t2)) (pos (time_of a.t1)) in
    let l2 = sub_law (pos a.delay) (pos (2 ^ 49)) in
    let l3 = sub_law gap delay in
    let s = seconds_is (gap -ℤ delay) a.t1.seconds a.t2.seconds (a.t2.part + 64 * second + 2 ^ 49 - a.t1.part - a.delay) (omega arith) in
    let f : SFits w64 c.difference-seconds.result =
    subst (SFits w64) (sym c.difference-seconds.ensures) (difference_fits (a.t2.seconds + c.split-parts.result.whole) (a.t1.seconds + 64) (omega arith) (omega arith)) in
    let w = ap (λ (t : ℕ). pos (a.t2.seconds + t) -ℤ pos (a.t1.seconds + 64)) c.split-parts.ensures.0 in
    λ i. record { seconds = (to_z-of_z f ∙ c.difference-seconds.ensures ∙ w ∙ s.0) i; rest = (c.split-parts.ensures.1 ∙ s.1) i }
