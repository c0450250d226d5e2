-- `rank` meets its contract: going on from the empty list with all of a run that is not too long gives the answer.
use Rattle.rank.proofs.Runs.{scan_all}
use Rattle.rank.proofs.rank.Goals as goal

pub loop-c-init : goal.loop-c-init
loop-c-init c = rw c.empty-list.ensures (scan_all _ c.if-run-gt-MOST.false)
