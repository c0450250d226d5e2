-- `write` meets its contract: the words are looked at, then the message is written.
use mathlib.Core.Path.{ap}
use mathlib.Core.Bool.{not}
use Rattle.words.proofs.Laws.{is_refused, is_passed}
use Rattle.dzervolat.proofs.writing.write.Goals as goal

pub returns-then-not-is_whole-clause-answer : goal.returns-then-not-is_whole-clause-answer
returns-then-not-is_whole-clause-answer c =
    is_refused _ _ c.is_whole.ensures _ _ (ap not c.if-not-is_whole.true)

pub returns-then-not-is_whole-clause-buffer : goal.returns-then-not-is_whole-clause-buffer
returns-then-not-is_whole-clause-buffer c =
    is_refused _ _ c.is_whole.ensures _ _ (ap not c.if-not-is_whole.true)

pub returns-clause-answer : goal.returns-clause-answer
returns-clause-answer c =
    let whole = c.is_whole.ensures in
    is_passed _ _ whole _ _ (ap not c.if-not-is_whole.false) c.write.ensures.answer

pub returns-clause-buffer : goal.returns-clause-buffer
returns-clause-buffer c =
    let whole = c.is_whole.ensures in
    is_passed _ _ whole _ _ (ap not c.if-not-is_whole.false) c.write.ensures.buffer
