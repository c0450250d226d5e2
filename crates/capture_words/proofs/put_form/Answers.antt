-- `put_form` meets its contract: the head tells a form, or it is refused.
use mathlib.Core.Path.{sym, ap, ◌∙◌}
use mathlib.Core.Bool.{◌&&◌}
use Rattle.pcap.specs.declared.Form.{Form}
use Rattle.pcap.specs.Form.{form_of}
use Rattle.pcap.specs.File.{is_head, is_ethernet}
use Rattle.capture_words.specs.Captures.{form_words, tells_form}
use Rattle.capture_words.proofs.Laws.{told, untold}
use Rattle.capture_words.proofs.put_form.Goals as goal

pub returns-then-not-is_head-clause-answer : goal.returns-then-not-is_head-clause-answer
returns-then-not-is_head-clause-answer c =
    let a = c.args in
    let s = a.head.now in
    let e = ap (λ (g : Form). is_head g s && is_ethernet g s) (sym c.form_of-is.ensures) ∙ sym c.is_head.ensures ∙ c.if-not-is_head.true in
    let k = untold (tells_form s) a.form.now (form_words (form_of s)) e in
    c.code.ensures ∙ k.0

pub returns-clause-answer : goal.returns-clause-answer
returns-clause-answer c =
    let a = c.args in
    let s = a.head.now in
    let e = ap (λ (g : Form). is_head g s && is_ethernet g s) (sym c.form_of-is.ensures) ∙ sym c.is_head.ensures ∙ c.if-not-is_head.false in
    let k = told (tells_form s) a.form.now (form_words (form_of s)) e in
    k.0
