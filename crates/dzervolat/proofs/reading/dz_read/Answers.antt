-- `dz_read` meets its contract: a message in which nothing is wrong is put into the words, and of any other the checks say why not.
use mathlib.Core.Path.{refl, sym, ap, ◌∙◌}
use native.Mathlib.Omega.{arith}
use lib.ListN.{length}
use Rattle.refusal.specs.Refusal.{code_of}
use Rattle.message.specs.Reading.{read_of}
use Rattle.contents.specs.Parts.{tail_in}
use Rattle.message.specs.declared.reading.Bounds.{Bounds}
use Rattle.message.proofs.Laws.{accepted, bounded, fixed_part}
use Rattle.contents.proofs.SoundLaws.{whole_bounds, refused_bounds}
use Rattle.message_words.proofs.ReadingLaws.{unread, tail_read}
use Rattle.dzervolat.proofs.reading.dz_read.Goals as goal

pub returns-in_default-clause-answer : goal.returns-in_default-clause-answer
returns-in_default-clause-answer c =
    let a = c.args in
    let n = refused_bounds a.octets.now a.magic (sym c.sound_bounds.ensures ∙ c.in_default.is) in
    let u = unread a.magic a.octets.now n a.message.now a.tail.now (length (tail_in a.magic a.octets.now)) in
    c.code.ensures ∙ ap code_of c.check.ensures ∙ u.0

pub returns-in_default-clause-words : goal.returns-in_default-clause-words
returns-in_default-clause-words c =
    let a = c.args in
    let n = refused_bounds a.octets.now a.magic (sym c.sound_bounds.ensures ∙ c.in_default.is) in
    let u = unread a.magic a.octets.now n a.message.now a.tail.now (length (tail_in a.magic a.octets.now)) in
    u.1.0

pub returns-in_default-clause-rest : goal.returns-in_default-clause-rest
returns-in_default-clause-rest c =
    let a = c.args in
    let n = refused_bounds a.octets.now a.magic (sym c.sound_bounds.ensures ∙ c.in_default.is) in
    let u = unread a.magic a.octets.now n a.message.now a.tail.now (length (tail_in a.magic a.octets.now)) in
    u.1.1

pub overflow_sub-tail : goal.overflow_sub-tail
overflow_sub-tail c =
    let w = whole_bounds _ _ (sym c.in-Some.ensures) in
    let l = (bounded _ _ w.0).least in
    let z = ap (λ (x : Bounds). x.size) w.1 in
    let n = ap (λ (x : Bounds). x.length) w.1 in
    omega arith

pub put_message-requires-clause-fact : goal.put_message-requires-clause-fact
put_message-requires-clause-fact c =
    let d = (whole_bounds _ _ (sym c.in-Some.ensures)).0 in
    (accepted _ _ d).listed

pub put_message-requires-clause-s_in_bounds : goal.put_message-requires-clause-s_in_bounds
put_message-requires-clause-s_in_bounds c =
    let d = (whole_bounds _ _ (sym c.in-Some.ensures)).0 in
    (fixed_part _ _ d).1

pub returns-clause-answer : goal.returns-clause-answer
unfolding read_of
returns-clause-answer c =
    let w = whole_bounds _ _ (sym c.in-Some.ensures) in
    rw w.0 refl

pub returns-clause-words : goal.returns-clause-words
unfolding read_of
returns-clause-words c =
    let w = whole_bounds _ _ (sym c.in-Some.ensures) in
    rw w.0 c.put_message.ensures

pub returns-clause-rest : goal.returns-clause-rest
unfolding read_of
returns-clause-rest c =
    let w = whole_bounds _ _ (sym c.in-Some.ensures) in
    rw w.0 (tail_read _ _ w.0 w.1)
