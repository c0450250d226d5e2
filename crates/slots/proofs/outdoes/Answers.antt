-- `outdoes` meets its contract: the tests in their order are those of the definition.
use mathlib.Core.Path.{◌≡◌, ap, ◌∙◌, sym}
use mathlib.Core.Bool.{Bool}
use mathlib.Core.List.{List}
use Rattle.senders.specs.declared.Record.{Record}
use Prim.Native.Nat.{ℕ}
use borrow.Author.Tests.{eq-eqb, ne_eqb}
use Rattle.senders.specs.Record.{is_qualified}
use Rattle.slots.specs.Words.{block, of_six, record_of, before_in, ahead_in}
use Rattle.slots.proofs.outdoes.Goals as goal

-- whether the record is qualified
qualified : (w t : ℕ) (ws l : List ℕ) (a : ℕ) (r : Record) (b : Bool) → b ≡ is_qualified w t r → r ≡ of_six l → l ≡ block ws a 6
    → is_qualified w t (record_of (block ws a 6)) ≡ b
unfolding record_of
qualified w t ws l a r b e f g = sym (e ∙ ap (is_qualified w t) (f ∙ ap of_six g))

pub returns-then-not-is_qualified : goal.returns-then-not-is_qualified
returns-then-not-is_qualified c =
    let g = c.args in
    rw (qualified g.w g.t g.ws.now _ g.a _ _ c.is_qualified.ensures c.read.ensures c.record-s.ensures ∙ c.if-not-is_qualified.true)

pub returns-then-b-eq0 : goal.returns-then-b-eq0
returns-then-b-eq0 c =
    let g = c.args in
    rw (
      qualified g.w g.t g.ws.now _ g.a _ _ c.is_qualified.ensures c.read.ensures c.record-s.ensures ∙ c.if-not-is_qualified.false,
      eq-eqb _ _ c.if-b-eq0.true,
    )

pub returns : goal.returns
unfolding ahead_in
returns c =
    let g = c.args in
    let ws = g.ws.now in
    rw (
      qualified g.w g.t ws _ g.a _ _ c.is_qualified.ensures c.read.ensures c.record-s.ensures ∙ c.if-not-is_qualified.false,
      ne_eqb _ _ c.if-b-eq0.false,
    )
    (c.stands_before.ensures
    ∙ ap (λ (l : List ℕ). before_in l c.record.result.now) c.record-s.ensures
    ∙ ap (before_in (block ws g.a 6)) c.record.ensures)
