-- `origin` meets its contract: by what `origin_says` says.
use mathlib.Core.Path.{sym}
use Rattle.origin.specs.Origin.{origin_in}
use Rattle.origin.proofs.Laws.{origin_stamped}
use Rattle.origin.proofs.origin.Goals as goal

pub checked_origin-requires : goal.checked_origin-requires
checked_origin-requires c =
    origin_stamped _ _ _ (sym c.in-Ok.ensures)

pub returns-in-Err : goal.returns-in-Err
unfolding origin_in
returns-in-Err c =
    rw (← c.in-Err.ensures)

pub returns-in-Ok : goal.returns-in-Ok
unfolding origin_in
returns-in-Ok c =
    rw (← c.in-Ok.ensures) c.checked_origin.ensures
