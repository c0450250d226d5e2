-- `writing::words_for` meets its contract: a CALIBRATE or not.
use mathlib.Core.Path.{refl}
use native.Mathlib.Omega.{arith}
use borrow.Author.Tests.{eq-eqb, ne_eqb}
use Rattle.message_words.specs.Writing.{link_words_for}
use Rattle.message_words.proofs.writing.words_for.Goals as goal

pub returns-then-number-eq-CALIBRATE : goal.returns-then-number-eq-CALIBRATE
unfolding link_words_for
returns-then-number-eq-CALIBRATE c =
    rw (eq-eqb _ _ c.if-number-eq-CALIBRATE.true) (refl, omega arith)

pub returns-else-number-eq-CALIBRATE : goal.returns-else-number-eq-CALIBRATE
unfolding link_words_for
returns-else-number-eq-CALIBRATE c =
    rw (ne_eqb _ _ c.if-number-eq-CALIBRATE.false) (refl, omega arith)
