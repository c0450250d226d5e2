-- `place` meets its contract: the place in the port's own words, moved to where they begin.
use mathlib.Core.Path.{ap, sym, ◌∙◌}
use mathlib.Core.List.{List}
use Prim.Native.Nat.{ℕ, ◌+◌}
use native.Mathlib.Omega.{arith}
use borrow.Author.Tests.{eq-eqb, ne_eqb}
use Rattle.slots.specs.Places.{place_in}
use Rattle.slots.proofs.Begins.{place_bound}
use Rattle.ports.specs.Places.{place_from, place_on}
use Rattle.ports.proofs.places.place.Goals as goal

pub returns-then-i-eq0 : goal.returns-then-i-eq0
unfolding place_on
returns-then-i-eq0 c =
    let g = c.args in
    sym (rw (eq-eqb _ 0 c.if-i-eq0.true))
    ∙ ap (place_from g.port) (c.place-i.ensures ∙ ap (λ (l : List ℕ). place_in l g.t) c.own.ensures)

pub overflow_add-result : goal.overflow_add-result
overflow_add-result c = omega (arith, place_bound c.own.result.now c.args.t, c.place-i.ensures, c.start.ensures.1)

pub returns : goal.returns
unfolding place_on
returns c =
    let g = c.args in
    ap (λ (b : ℕ). b + c.place-i.result) c.start.ensures.0
    ∙ sym (rw (ne_eqb _ 0 c.if-i-eq0.false))
    ∙ ap (place_from g.port) (c.place-i.ensures ∙ ap (λ (l : List ℕ). place_in l g.t) c.own.ensures)
