-- `straight::stamp_holds` meets its contract: the two tests are the definition's.
use borrow.Author.Rules.{rules}
use Rattle.writer.specs.Writing.{stamp_fits}
use Rattle.message_words.proofs.straight.stamp_holds.Goals as goal

pub returns : goal.returns
unfolding stamp_fits
returns c = search rules
