-- `place` meets its contract: the best place of the port's own window.
use mathlib.Core.Path.{ap, ◌∙◌}
use Prim.Native.Nat.{ℕ}
use Rattle.slots.specs.Places.{place_among, place_in}
use Rattle.slots.proofs.place.Goals as goal

pub returns : goal.returns
unfolding place_in
returns c =
    let g = c.args in
    c.best_place.ensures ∙ ap (λ (w : ℕ). place_among g.ws.now w g.t 16) c.window.ensures
