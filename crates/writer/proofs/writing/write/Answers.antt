-- `writing::write` meets its contract: where the checks allow it, the three parts stand one behind the other.
use Rattle.std.proofs.Common.{rules}
use mathlib.Core.Path.{◌≡◌, sym, ap, ◌∙◌}
use native.Mathlib.Omega.{arith}
use Rattle.message.specs.Fields.{fixed_size}
use Rattle.layout.specs.Layout.{size_of}
use Rattle.layout.proofs.Buffer.{least, assembled}
use Rattle.writer.specs.Writing.{write_of, buffer_of}
use Rattle.writer.proofs.Allowed.{allowed}
use Rattle.writer.proofs.writing.write.Goals as goal

pub returns-in_err-check-clause-answer : goal.returns-in_err-check-clause-answer
unfolding buffer_of write_of
returns-in_err-check-clause-answer c =
    rw (← c.in_err-check.ensures) (search rules)

pub returns-in_err-check-clause-buffer : goal.returns-in_err-check-clause-buffer
unfolding buffer_of write_of
returns-in_err-check-clause-buffer c =
    rw (← c.in_err-check.ensures)

pub overflow_add-n : goal.overflow_add-n
overflow_add-n c =
    let w = allowed _ _ _ _ (sym c.in_ok-check.ensures) in
    let size : c.fixed_size-size.result ≡ size_of c.args.m.body = c.fixed_size-size.ensures ∙ ap fixed_size c.kind_of.ensures in
    omega (arith, w, size)

pub overflow_cast-n : goal.overflow_cast-n
overflow_cast-n c =
    let w = allowed _ _ _ _ (sym c.in_ok-check.ensures) in
    let size : c.fixed_size-size.result ≡ size_of c.args.m.body = c.fixed_size-size.ensures ∙ ap fixed_size c.kind_of.ensures in
    omega (arith, w, size)

pub put_header-requires : goal.put_header-requires
put_header-requires c =
    let w = allowed _ _ _ _ (sym c.in_ok-check.ensures) in (w.transport, omega (arith, least c.args.m.body))

pub put_body-requires : goal.put_body-requires
put_body-requires c =
    let w = allowed _ _ _ _ (sym c.in_ok-check.ensures) in
    let size : c.fixed_size-size.result ≡ size_of c.args.m.body = c.fixed_size-size.ensures ∙ ap fixed_size c.kind_of.ensures in
    omega (arith, w, size)

pub copy_in-requires : goal.copy_in-requires
copy_in-requires c =
    let w = allowed _ _ _ _ (sym c.in_ok-check.ensures) in
    let size : c.fixed_size-size.result ≡ size_of c.args.m.body = c.fixed_size-size.ensures ∙ ap fixed_size c.kind_of.ensures in
    omega (arith, w, size)

pub returns-clause-answer : goal.returns-clause-answer
unfolding buffer_of write_of
returns-clause-answer c =
    let size : c.fixed_size-size.result ≡ size_of c.args.m.body = c.fixed_size-size.ensures ∙ ap fixed_size c.kind_of.ensures in
    rw (← c.in_ok-check.ensures, size)

pub returns-clause-buffer : goal.returns-clause-buffer
unfolding buffer_of write_of
returns-clause-buffer c =
    let a = c.args in
    let size : c.fixed_size-size.result ≡ size_of a.m.body = c.fixed_size-size.ensures ∙ ap fixed_size c.kind_of.ensures in
    rw (← c.in_ok-check.ensures) (assembled a.m a.tail.now a.out.now size c.put_header.ensures c.put_body.ensures c.copy_in.ensures)
