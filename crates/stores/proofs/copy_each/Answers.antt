-- `copy_each` meets its contract: the first i octets are copied.
use Rattle.std.proofs.Common.{◌+◌, ◌<◌, length, arith, add-one}
use Rattle.std.proofs.Math.Seq.{paste-suc}
use Rattle.stores.proofs.copy_each.Goals as goal

pub loop-i-preserved : goal.loop-i-preserved
loop-i-preserved c =
    let a = c.args in
    let h : a.at + c.loop-i.i < length a.dst.now = omega arith in
    rw (add-one, ← paste-suc a.dst.now a.at a.src.now c.loop-i.i 0 h c.loop-i-test.true, ← c.loop-i.invariant)
