-- `parts::tail` meets its contract: nothing where the checks refuse, else the tail.
use mathlib.Core.Path.{sym}
use Rattle.contents.specs.Parts.{tail_in}
use Rattle.message.proofs.Laws.{bounded}
use Rattle.contents.proofs.parts.tail.Goals as goal

pub checked_tail-requires : goal.checked_tail-requires
checked_tail-requires c =
    bounded _ _ (sym c.in-Ok.ensures)

pub returns-in-Err : goal.returns-in-Err
unfolding tail_in
returns-in-Err c =
    rw (← c.in-Err.ensures)

pub returns-in-Ok : goal.returns-in-Ok
unfolding tail_in
returns-in-Ok c =
    rw (← c.in-Ok.ensures) c.checked_tail.ensures
