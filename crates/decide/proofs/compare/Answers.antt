-- `compare` meets its contract: each answer rewrites with the tests that led to it.
use mathlib.Core.Path.{sym, ◌∙◌}
use borrow.Author.Tests.{eq-eqb, ne_eqb, lt-ltb, le-ltb}
use Rattle.decide.specs.Comparing.{same_of, different_of, compare_of}
use Rattle.decide.proofs.compare.Goals as goal

pub returns-then-outranks : goal.returns-then-outranks
unfolding compare_of different_of
returns-then-outranks c =
    rw (sym c.outranks.ensures ∙ c.if-outranks.true, ne_eqb _ _ c.if-g-h.true)

pub returns-then-g-h : goal.returns-then-g-h
unfolding compare_of different_of
returns-then-g-h c =
    rw (sym c.outranks.ensures ∙ c.if-outranks.false, ne_eqb _ _ c.if-g-h.true)

pub returns-then-a-b : goal.returns-then-a-b
unfolding compare_of same_of
returns-then-a-b c =
    simp (eq-eqb _ _ c.if-g-h.false, lt-ltb _ _ c.if-a-b.true) c.fewer.ensures

pub returns-then-b-a : goal.returns-then-b-a
unfolding compare_of same_of
returns-then-b-a c =
    rw (c.mirror.ensures, c.fewer-then-b-a.ensures)
    (simp (eq-eqb _ _ c.if-g-h.false, le-ltb _ _ c.if-a-b.false, lt-ltb _ _ c.if-b-a.true))

pub returns : goal.returns
unfolding compare_of same_of
returns c =
    simp (eq-eqb _ _ c.if-g-h.false, le-ltb _ _ c.if-a-b.false, le-ltb _ _ c.if-b-a.false) c.even.ensures
