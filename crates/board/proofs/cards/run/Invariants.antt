-- `cards::run` holds no more than it has room for: no more candidates are found than slots are gone past.
use Rattle.std.proofs.Common.{◌≤◌}
use Rattle.board.proofs.cards.run.Given as goal

abbrev pub invariant-loop-i : goal.invariant-loop-i
invariant-loop-i l = l.n ≤ l.i
