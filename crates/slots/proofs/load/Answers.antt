-- `load` meets its contract: the record of the slot is the block of the layout.
use mathlib.Core.List.{List, []}
use mathlib.Core.Path.{ap, ◌∙◌}
use Prim.Native.Nat.{ℕ}
use lib.ListN.{get_or}
use Rattle.slots.specs.Words.{of_six, record_of}
use Rattle.slots.proofs.Laws.{record_is}
use Rattle.slots.proofs.load.Goals as goal

pub returns : goal.returns
unfolding record_of
returns c =
    let g = c.args in
    c.read.ensures ∙ ap (λ (l : List (List ℕ)). of_six (get_or l g.i [])) c.records.ensures.value ∙ ap of_six (record_is g.ws.now g.i c.requires)
