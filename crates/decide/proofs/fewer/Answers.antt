-- `fewer` meets its contract: the difference is two or more, or the identities of the set with more steps decide.
use Prim.Native.Nat.{◌+◌}
use native.Mathlib.Omega.{arith}
use mathlib.Core.Path.{sym, ◌∙◌}
use borrow.Author.Tests.{le-leb, lt-leb}
use Rattle.decide.specs.Comparing.{fewer_of}
use Rattle.decide.proofs.fewer.Goals as goal

pub returns-then-b-a-ge2 : goal.returns-then-b-a-ge2
unfolding fewer_of
returns-then-b-a-ge2 c =
    let s = c.args in
    rw (le-leb (s.a.steps + 2) s.b.steps (omega (arith, c.if-b-a-ge2.true)))

pub returns-then-precedes : goal.returns-then-precedes
unfolding fewer_of
returns-then-precedes c =
    let s = c.args in
    rw (lt-leb (s.a.steps + 2) s.b.steps (omega (arith, c.if-b-a-ge2.false)), sym c.precedes.ensures ∙ c.if-precedes.true)

pub returns-then-precedes-2 : goal.returns-then-precedes-2
unfolding fewer_of
returns-then-precedes-2 c =
    let s = c.args in
    rw (
      lt-leb (s.a.steps + 2) s.b.steps (omega (arith, c.if-b-a-ge2.false)),
      sym c.precedes.ensures ∙ c.if-precedes.false,
      sym c.precedes-2.ensures ∙ c.if-precedes-2.true,
    )

pub returns : goal.returns
unfolding fewer_of
returns c =
    let s = c.args in
    rw (
      lt-leb (s.a.steps + 2) s.b.steps (omega (arith, c.if-b-a-ge2.false)),
      sym c.precedes.ensures ∙ c.if-precedes.false,
      sym c.precedes-2.ensures ∙ c.if-precedes-2.false,
    )
