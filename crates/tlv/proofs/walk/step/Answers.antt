-- `walk::step` meets its contract: a law for each way out.
use mathlib.Core.Path.{sym}
use native.Mathlib.Omega.{arith}
use Rattle.tlv.proofs.WalkLaws.{next_short, next_odd, next_long, next_is}
use Rattle.tlv.proofs.walk.step.Goals as goal

pub returns-then-t-at-lt4 : goal.returns-then-t-at-lt4
returns-then-t-at-lt4 c =
    sym (next_short _ _ (omega arith))

pub returns-then-n-t : goal.returns-then-n-t
returns-then-n-t c =
    let n = c.u16_at-n.ensures in
    rw n (sym (next_is _ _ (omega arith) (rw n at c.if-n-eq0.true) (omega arith)))

pub returns-else-n-t : goal.returns-else-n-t
returns-else-n-t c =
    let n = c.u16_at-n.ensures in
    sym (next_long _ _ (omega arith) (rw n at c.if-n-eq0.true) (omega arith))

pub returns-else-n-eq0 : goal.returns-else-n-eq0
returns-else-n-eq0 c =
    let n = c.u16_at-n.ensures in
    sym (next_odd _ _ (omega arith) (rw n at c.if-n-eq0.false))
