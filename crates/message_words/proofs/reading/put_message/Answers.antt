-- `reading::put_message` meets its contract: the header, then the body behind it.
use mathlib.Core.Path.{sym, ◌∙◌}
use native.Mathlib.Omega.{arith}
use Rattle.message.specs.Fields.{header_of, body_of}
use Rattle.message.proofs.Laws.{size_least}
use Rattle.message_words.specs.Words.{body_words, message_words}
use Rattle.message_words.specs.Reading.{head_words}
use Rattle.message_words.proofs.ReadingLaws.{kind_listed}
use Rattle.message_words.proofs.reading.put_message.Goals as goal

pub put_header-requires : goal.put_header-requires
put_header-requires c =
    let h = size_least _ c.requires.fact in omega arith

pub put_body-requires : goal.put_body-requires
put_body-requires c =
    let l = size_least _ c.requires.fact in
    (omega arith, c.requires.s_in_bounds)

pub returns : goal.returns
unfolding message_words
returns c =
    let s = c.args.s.now in
    c.put_body.ensures
    ∙ rw c.put_header.ensures
    (λ i. head_words (sym (kind_listed s c.requires.fact) i) (header_of s) (body_words (body_of s)))
