-- `take_burst` meets its contract: more than 288 leave all as it was, else each message is taken.
use native.Mathlib.Omega.{arith}
use lib.ListN.{length}
use borrow.Author.Tests.{lt-ltb, le-ltb}
use Rattle.refusal.specs.Choice.{refuse}
use Rattle.bursts.proofs.take_burst.Goals as goal

pub returns-then-burst-gt-MOST-clause-answer : goal.returns-then-burst-gt-MOST-clause-answer
unfolding refuse
returns-then-burst-gt-MOST-clause-answer c = rw (lt-ltb 288 (length c.args.burst.now) (omega arith))

pub returns-clause-answer : goal.returns-clause-answer
unfolding refuse
returns-clause-answer c = rw (le-ltb 288 (length c.args.burst.now) (omega arith))
