-- `is_before` meets its contract: the keys before the port decide.
use mathlib.Core.Path.{ap, ◌∙◌}
use mathlib.Core.List.{List}
use Prim.Native.Nat.{ℕ}
use Rattle.slots.specs.Words.{block}
use Rattle.slots.specs.Places.{above_in}
use Rattle.ports.proofs.Placing.{before_is}
use Rattle.ports.proofs.places.is_before.Goals as goal

pub returns : goal.returns
returns c =
    let g = c.args in
    let ws = g.words.now in
    c.comes_before.ensures
    ∙ ap (λ (l : List ℕ). above_in l c.record-2.result.now) c.record.ensures
    ∙ ap (above_in (block ws g.a 6)) c.record-2.ensures
    ∙ before_is ws g.a g.b c.fits-words c.requires.2
