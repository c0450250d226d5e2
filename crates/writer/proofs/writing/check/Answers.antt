-- `writing::check` meets its contract: at each way out the tests before it are known.
use Rattle.std.specs.Prelude.{Result, Ok, Err}
use Rattle.std.specs.Result.{result_or}
use Rattle.std.proofs.Common.{rules}
use Prim.Native.Nat.{ℕ, ◌+◌, ◌<◌, ◌≤◌}
use mathlib.Core.Path.{◌≡◌, refl, sym, ap, ◌∙◌}
use native.Mathlib.Omega.{arith}
use borrow.Author.Tests.{lt-ltb, le-ltb}
use lib.ListN.{length}
use Rattle.refusal.specs.Choice.{refuse}
use Rattle.refusal.specs.declared.Refusal.{Refusal}
use Rattle.refusal.specs.declared.Refusal.TheVariants.{Field}
use Rattle.refusal.proofs.Choice.{no_refusal}
use Rattle.message.specs.Fields.{fixed_size}
use Rattle.message.proofs.Laws.{size_most, told_fault, told_sound}
use Rattle.layout.specs.Layout.{size_of}
use Rattle.writer.specs.Writing.{write_check}
use Rattle.writer.proofs.writing.check.Goals as goal

-- whatever the tail's check refuses, writing refuses with 18
as_field : (o : Result (Unit {0}) Refusal) {x : Refusal} → result_or o (Err Field) ≡ Err x → (y : Refusal) × (o ≡ Err y) × (x ≡ Field)
as_field (Ok tt) e = absurd (no_refusal _ (sym e))
as_field (Err y) e = (y, refl, cc)

not_refused : (o : Result (Unit {0}) Refusal) → result_or o (Err Field) ≡ Ok tt → o ≡ Ok tt
not_refused (Ok tt) e = refl
not_refused (Err y) e = absurd (no_refusal _ e)

pub returns-then-h-ge16 : goal.returns-then-h-ge16
unfolding refuse write_check
returns-then-h-ge16 c =
    rw (le-ltb _ _ c.if-h-ge16.true)

pub returns-then-not-body_fits : goal.returns-then-not-body_fits
unfolding refuse write_check
returns-then-not-body_fits c =
    rw (lt-ltb _ _ c.if-h-ge16.false, ← c.if-not-body_fits.ensures)

pub overflow_sub-size : goal.overflow_sub-size
overflow_sub-size c =
    omega (arith, size_most c.kind_of.result, c.fixed_size-size.ensures)

pub returns-then-tail-size : goal.returns-then-tail-size
unfolding refuse write_check
returns-then-tail-size c =
    let size : c.fixed_size-size.result ≡ size_of c.args.m.body = c.fixed_size-size.ensures ∙ ap fixed_size c.kind_of.ensures in
    let past : 65535 < c.fixed_size-size.result + length c.args.tail.now = omega (arith, size_most c.kind_of.result, c.fixed_size-size.ensures) in
    rw (lt-ltb _ _ c.if-h-ge16.false, ← c.if-not-body_fits.ensures, ← size, lt-ltb _ _ past)

pub tail_check-requires : goal.tail_check-requires
tail_check-requires c =
    omega (arith, size_most c.kind_of.result, c.fixed_size-size.ensures)

pub returns-in_err-or : goal.returns-in_err-or
unfolding refuse write_check
returns-in_err-or c =
    let size : c.fixed_size-size.result ≡ size_of c.args.m.body = c.fixed_size-size.ensures ∙ ap fixed_size c.kind_of.ensures in
    let within : c.fixed_size-size.result + length c.args.tail.now ≤ 65535 = omega (arith, size_most c.kind_of.result, c.fixed_size-size.ensures) in
    let q = as_field _ (sym c.in_err-or.ensures) in
    rw (lt-ltb _ _ c.if-h-ge16.false, ← c.if-not-body_fits.ensures, ← size, le-ltb _ _ within, told_fault _ _ (sym c.tail_check.ensures ∙ q.1), ← q.2) (search rules)

pub returns-then-room-size : goal.returns-then-room-size
unfolding refuse write_check
returns-then-room-size c =
    let size : c.fixed_size-size.result ≡ size_of c.args.m.body = c.fixed_size-size.ensures ∙ ap fixed_size c.kind_of.ensures in
    let within : c.fixed_size-size.result + length c.args.tail.now ≤ 65535 = omega (arith, size_most c.kind_of.result, c.fixed_size-size.ensures) in
    let d = not_refused _ (sym c.in_ok-or.ensures) in
    rw (lt-ltb _ _ c.if-h-ge16.false, ← c.if-not-body_fits.ensures, ← size, le-ltb _ _ within, told_sound _ _ (sym c.tail_check.ensures ∙ d), lt-ltb _ _ c.if-room-size.true)

pub returns : goal.returns
unfolding refuse write_check
returns c =
    let size : c.fixed_size-size.result ≡ size_of c.args.m.body = c.fixed_size-size.ensures ∙ ap fixed_size c.kind_of.ensures in
    let within : c.fixed_size-size.result + length c.args.tail.now ≤ 65535 = omega (arith, size_most c.kind_of.result, c.fixed_size-size.ensures) in
    let d = not_refused _ (sym c.in_ok-or.ensures) in
    rw (lt-ltb _ _ c.if-h-ge16.false, ← c.if-not-body_fits.ensures, ← size, le-ltb _ _ within, told_sound _ _ (sym c.tail_check.ensures ∙ d), le-ltb _ _ c.if-room-size.false)
