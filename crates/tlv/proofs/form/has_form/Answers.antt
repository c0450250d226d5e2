-- `form::has_form` meets its contract: the tests, each where the code makes it, and the six octets by two and four.
use borrow.Author.Tests.{eq-eqb, ne_eqb, le-leb, lt-leb}
use Rattle.tlv.specs.Form.{HasForm}
use Rattle.tlv.proofs.FormLaws.{six_away, six_rest}
use Rattle.tlv.proofs.form.has_form.Goals as goal

pub returns-then-u16_at-f : goal.returns-then-u16_at-f
unfolding HasForm
returns-then-u16_at-f c =
    rw (← c.u16_at.ensures, ne_eqb _ _ c.if-u16_at-f.true)

pub returns-then-l-lt8 : goal.returns-then-l-lt8
unfolding HasForm
returns-then-l-lt8 c =
    rw (← c.u16_at.ensures, eq-eqb _ _ c.if-u16_at-f.false, ← c.requires.l_value, lt-leb _ _ c.if-l-lt8.true)

pub returns-then-u16_at-f-2 : goal.returns-then-u16_at-f-2
unfolding HasForm
returns-then-u16_at-f-2 c =
    rw (← c.u16_at.ensures, eq-eqb _ _ c.if-u16_at-f.false, ← c.requires.l_value, le-leb _ _ c.if-l-lt8.false, six_away _ _ _ c.u16_at-2.type_inv c.u16_at-2.ensures c.if-u16_at-f-2.true)

pub returns : goal.returns
unfolding HasForm
returns c =
    rw (← c.u16_at.ensures, eq-eqb _ _ c.if-u16_at-f.false, ← c.requires.l_value, le-leb _ _ c.if-l-lt8.false, six_rest _ _ _ c.u16_at-2.type_inv c.u16_at-2.ensures c.u32_at.ensures c.if-u16_at-f-2.false)
