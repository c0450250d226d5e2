-- `message_words` meets its contract: the header field by field, then the words of the body.
use mathlib.Core.Path.{◌∙◌, ap}
use mathlib.Core.List.{◌∷◌}
use Rattle.words.proofs.Spread.{spread}
use Rattle.message_words.proofs.Laws.{body_eleven}
use mir.Syntax.{w8, w64}
use mir.Val.{of_z, SFits}
use mir.ValLaws.{to_z-of_z}
use Rattle.message_words.specs.Words.{message_words}
use borrow.Author.Rules.{rules}
use Rattle.message_words.proofs.message_words.Goals as goal

pub returns : goal.returns
unfolding message_words
returns c =
    let m = c.args.m in
    let h = m.header in
    let x = c.bits64-correction.ensures ∙ ap (of_z w64) (to_z-of_z w64 h.correction ((let it : SFits w64 c.args.m.header.correction = search rules in it))) in
    let y = c.word_of_i8-interval.ensures ∙ ap (of_z w64) (to_z-of_z w8 h.interval ((let it : SFits w8 c.args.m.header.interval = search rules in it))) in
    let z = ap (spread 11 0) c.body_words-b.ensures ∙ body_eleven m.body in
    λ i.
    c.kind_of-kind.ensures i
    ∷ h.transport
    ∷ h.domain
    ∷ h.flags
    ∷ x i
    ∷ h.source.clock
    ∷ h.source.port
    ∷ h.sequence
    ∷ y i
    ∷ z i
