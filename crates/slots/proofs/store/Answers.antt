-- `store` meets its contract: the six words that are lent are the block of the layout.
use mathlib.Core.Path.{ap, ◌∙◌}
use Prim.Native.Nat.{◌+◌, ◌*◌}
use Rattle.slots.specs.Words.{words_of, splice}
use Rattle.slots.proofs.Laws.{back}
use Rattle.slots.proofs.store.Goals as goal

pub returns : goal.returns
unfolding words_of
returns c =
    let g = c.args in
    let b = 2 + 6 * g.i in
    back g.ws.now c.write.new.s b 6 ∙ ap (splice g.ws.now b 6) c.write.ensures
