-- `is_of` meets its contract: the tests are the definition's.
use Rattle.std.proofs.Common.{rules}
use Rattle.origin.specs.Origin.{follows}
use Rattle.origin.proofs.is_of.Goals as goal

pub returns-then-a-b : goal.returns-then-a-b
unfolding follows
returns-then-a-b c =
    rw (← c.header_of-a.ensures, ← c.header_of-b.ensures) (search rules)

pub returns-else-a-b : goal.returns-else-a-b
unfolding follows
returns-else-a-b c =
    rw (← c.header_of-a.ensures, ← c.header_of-b.ensures) (search rules)
