-- `portion` meets its contract: what p x lacks of q x is taken off, and one more where it is no whole number.
use Rattle.std.proofs.Common.{sym, arith}
use Rattle.quotient.proofs.Laws.{exactly, not_exactly}
use Rattle.quotient.proofs.portion.Goals as goal

pub returns-then-gone-eq0 : goal.returns-then-gone-eq0
returns-then-gone-eq0 c =
    let a = c.args in
    let r = c.lacking-gone.result in
    sym (exactly a.p a.x r.whole r.rest c.lacking-gone.ensures.0 (omega arith))

pub returns-else-gone-eq0 : goal.returns-else-gone-eq0
returns-else-gone-eq0 c =
    let a = c.args in
    let r = c.lacking-gone.result in
    sym (not_exactly a.p a.x r.whole r.rest c.lacking-gone.ensures.0 (omega arith) c.lacking-gone.ensures.1)
