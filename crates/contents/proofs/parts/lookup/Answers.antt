-- `parts::lookup` meets its contract: the data in the tail that `tail` hands back.
use Rattle.contents.specs.Parts.{data_in}
use Rattle.contents.proofs.parts.lookup.Goals as goal

pub returns : goal.returns
unfolding data_in
returns c =
    rw (← c.tail-t.ensures) c.data_of.ensures
