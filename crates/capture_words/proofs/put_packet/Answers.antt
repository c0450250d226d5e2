-- `put_packet` meets its contract: the head is sound, or it is refused.
use Prim.Native.Nat.{ℕ}
use mathlib.Core.Path.{sym, ap, ◌∙◌}
use mathlib.Core.List.{List, [], ◌∷◌}
use mathlib.Core.Bool.{Bool, not, ◌&&◌}
use lib.Dec.{eqb}
use Rattle.pcap.specs.declared.Form.{Form}
use Rattle.pcap.specs.File.{is_packet_head, time_of, stored_of}
use Rattle.capture_words.specs.Captures.{form_by, is_sound}
use Rattle.capture_words.proofs.Laws.{told, untold}
use Rattle.capture_words.proofs.put_packet.Goals as goal

abbrev soundIn : List ℕ → Form → Bool
soundIn s f = not (eqb f.unit 0) && is_packet_head f s

abbrev saysIn : List ℕ → Form → List ℕ
saysIn s f = time_of f s ∷ stored_of f s ∷ []

pub returns-then-not-is_sound-clause-answer : goal.returns-then-not-is_sound-clause-answer
returns-then-not-is_sound-clause-answer c =
    let a = c.args in
    let s = a.head.now in
    let e = ap (soundIn s) (sym c.form_by-is.ensures) ∙ sym c.is_sound.ensures ∙ c.if-not-is_sound.true in
    let k = untold (is_sound a.form.now s) a.packet.now (saysIn s (form_by a.form.now)) e in
    c.code.ensures ∙ k.0

pub returns-clause-answer : goal.returns-clause-answer
returns-clause-answer c =
    let a = c.args in
    let s = a.head.now in
    let e = ap (soundIn s) (sym c.form_by-is.ensures) ∙ sym c.is_sound.ensures ∙ c.if-not-is_sound.false in
    let k = told (is_sound a.form.now s) a.packet.now (saysIn s (form_by a.form.now)) e in
    k.0
