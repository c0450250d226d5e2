-- `reading::put_body` meets its contract: each arm knows the type, and so how many octets are there.
use Rattle.message.specs.Fields.{type_of}
use native.Mathlib.Omega.{arith}
use mathlib.Core.Path.{◌∙◌}
use borrow.Author.Tests.{ne_eqb}
use Rattle.message.specs.Fields.{fixed_size, body_of}
use Rattle.message_words.specs.Words.{body_words}
use Rattle.message_words.proofs.reading.put_body.Goals as goal

pub put_resp-requires : goal.put_resp-requires
unfolding fixed_size
put_resp-requires c =
    rw c.in-9.is at c.requires.1

pub put_announce-requires : goal.put_announce-requires
unfolding fixed_size
put_announce-requires c =
    rw c.in-11.is at c.requires.1

pub returns-in-0 : goal.returns-in-0
unfolding body_of body_words
returns-in-0 c =
    c.put_stamp.ensures ∙ rw c.in-0.is

pub returns-in-1 : goal.returns-in-1
unfolding body_of body_words
returns-in-1 c =
    c.put_stamp-in-1.ensures ∙ rw c.in-1.is

pub returns-in-8 : goal.returns-in-8
unfolding body_of body_words
returns-in-8 c =
    c.put_stamp-in-8.ensures ∙ rw c.in-8.is

pub returns-in-9 : goal.returns-in-9
unfolding body_of body_words
returns-in-9 c =
    c.put_resp.ensures ∙ rw c.in-9.is

pub returns-in-11 : goal.returns-in-11
unfolding body_of body_words
returns-in-11 c =
    c.put_announce.ensures ∙ rw c.in-11.is

pub returns-in_default : goal.returns-in_default
unfolding body_of body_words
returns-in_default c =
    c.put_target.ensures
    ∙ rw (ne_eqb (type_of c.args.s.now) 0x0 (λ e. omega arith), ne_eqb (type_of c.args.s.now) 0x1 (λ e. omega arith), ne_eqb (type_of c.args.s.now) 0x8 (λ e. omega arith), ne_eqb (type_of c.args.s.now) 0x9 (λ e. omega arith), ne_eqb (type_of c.args.s.now) 0xB (λ e. omega arith))
