-- `even` meets its contract: each answer rewrites with the tests that led to it.
use mathlib.Core.Path.{sym, ◌∙◌}
use borrow.Author.Tests.{lt-ltb, le-ltb}
use Rattle.decide.specs.Comparing.{even_of}
use Rattle.decide.proofs.even.Goals as goal

pub returns-then-precedes : goal.returns-then-precedes
unfolding even_of
returns-then-precedes c =
    rw (sym c.precedes.ensures ∙ c.if-precedes.true)

pub returns-then-precedes-2 : goal.returns-then-precedes-2
unfolding even_of
returns-then-precedes-2 c =
    rw (sym c.precedes.ensures ∙ c.if-precedes.false, sym c.precedes-2.ensures ∙ c.if-precedes-2.true)

pub returns-then-q-r : goal.returns-then-q-r
unfolding even_of
returns-then-q-r c =
    rw (
      sym c.precedes.ensures ∙ c.if-precedes.false,
      sym c.precedes-2.ensures ∙ c.if-precedes-2.false,
      lt-ltb _ _ c.if-q-r.true,
    )

pub returns-then-r-q : goal.returns-then-r-q
unfolding even_of
returns-then-r-q c =
    rw (
      sym c.precedes.ensures ∙ c.if-precedes.false,
      sym c.precedes-2.ensures ∙ c.if-precedes-2.false,
      le-ltb _ _ c.if-q-r.false,
      lt-ltb _ _ c.if-r-q.true,
    )

pub returns : goal.returns
unfolding even_of
returns c =
    rw (
      sym c.precedes.ensures ∙ c.if-precedes.false,
      sym c.precedes-2.ensures ∙ c.if-precedes-2.false,
      le-ltb _ _ c.if-q-r.false,
      le-ltb _ _ c.if-r-q.false,
    )
