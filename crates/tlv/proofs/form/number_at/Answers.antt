-- `form::number_at` meets its contract: a TLV of the form has eight octets or more behind its length.
use Rattle.std.specs.Prelude.{Some}
use mathlib.Core.Path.{◌≡◌, sym, ap, ◌∙◌}
use mathlib.Core.Bool.{true}
use native.Mathlib.Omega.{arith}
use Rattle.tlv.specs.Form.{wr_form, HasForm, numbered}
use Rattle.tlv.proofs.FormLaws.{of_form}
use Rattle.tlv.proofs.form.number_at.Goals as goal

-- where the test is taken, the TLV has the form
formed : (c : goal.Then-has_form) → let a = c.args in HasForm (wr_form a.magic) a.t.now a.at ≡ true
formed c =
    rw (← c.wr_form.ensures) (sym c.has_form.ensures ∙ c.if-has_form.true)

pub u16_at-requires : goal.u16_at-requires
u16_at-requires c =
    let f = of_form _ _ _ (formed c) in omega (arith, f.size, c.requires.fits.fits)

pub returns-then-has_form : goal.returns-then-has_form
unfolding numbered
returns-then-has_form c =
    rw ((let it : let a = c.args in HasForm (wr_form a.magic) a.t.now a.at ≡ true = rw (← c.wr_form.ensures) (sym c.has_form.ensures ∙ c.if-has_form.true) in it)) (ap Some c.u16_at.ensures)

pub returns : goal.returns
unfolding numbered
returns c =
    rw (← c.wr_form.ensures, ← c.has_form.ensures, c.if-has_form.false)
