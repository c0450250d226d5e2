-- `straight::write` meets its contract: where the checks allow it, the three parts stand one behind the other.
use mathlib.Core.Path.{sym, ◌∙◌}
use native.Mathlib.Omega.{arith}
use borrow.Author.Rules.{rules}
use Rattle.writer.specs.Writing.{write_of, buffer_of}
use Rattle.writer.proofs.Allowed.{allowed}
use Rattle.layout.proofs.Buffer.{assembled}
use Rattle.message_words.specs.Words.{message_of}
use Rattle.message_words.proofs.straight.write.Goals as goal

pub overflow_cast-n : goal.overflow_cast-n
overflow_cast-n c =
    omega (arith, allowed _ _ _ _ (sym c.check.ensures ∙ c.in_ok-check.was), c.size_of-size.ensures.0)

pub put_header-requires : goal.put_header-requires
put_header-requires c =
    let m = allowed _ _ _ _ (sym c.check.ensures ∙ c.in_ok-check.was) in (m.transport, omega (arith, m, c.size_of-size.ensures.0))

pub put_body-requires : goal.put_body-requires
put_body-requires c =
    omega (arith, allowed _ _ _ _ (sym c.check.ensures ∙ c.in_ok-check.was), c.size_of-size.ensures.0)

pub copy_in-requires : goal.copy_in-requires
copy_in-requires c =
    omega (arith, allowed _ _ _ _ (sym c.check.ensures ∙ c.in_ok-check.was), c.size_of-size.ensures.0)

pub returns-in_err-check-clause-answer : goal.returns-in_err-check-clause-answer
unfolding write_of
returns-in_err-check-clause-answer c =
    rw (← c.check.ensures, c.in_err-check.was) (search rules)

pub returns-in_err-check-clause-buffer : goal.returns-in_err-check-clause-buffer
unfolding buffer_of
returns-in_err-check-clause-buffer c =
    rw (← c.check.ensures, c.in_err-check.was)

pub returns-clause-answer : goal.returns-clause-answer
unfolding write_of
returns-clause-answer c =
    rw (← c.check.ensures, c.in_ok-check.was, c.size_of-size.ensures.0)

pub returns-clause-buffer : goal.returns-clause-buffer
unfolding buffer_of
returns-clause-buffer c =
    let a = c.args in
    rw (← c.check.ensures, c.in_ok-check.was)
    (assembled (message_of a.w.now) a.tail.now a.out.now c.size_of-size.ensures.0 c.put_header.ensures c.put_body.ensures c.copy_in.ensures)
