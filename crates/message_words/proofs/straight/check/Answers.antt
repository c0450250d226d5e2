-- `straight::check` meets its contract: at each way out the tests before it are known.
use Prim.Native.Nat.{◌+◌, ◌<◌, ◌≤◌}
use mathlib.Core.Path.{refl, ap, sym, ◌∙◌}
use native.Mathlib.Omega.{arith}
use borrow.Author.Tests.{lt-ltb, le-ltb}
use lib.ListN.{length}
use Rattle.refusal.specs.Choice.{refuse}
use Rattle.std.specs.Prelude.{ℕ, ◌≡◌, Result, Ok, Err, is_err}
use Rattle.tlv.specs.Faults.{is_fault}
use Rattle.tlv.specs.declared.walk.Fault.{Fault}
use Rattle.tlv.specs.declared.walk.Fault.TheVariants.{Broken, Misfit}
use Rattle.message.specs.Reading.{fault_check}
use Rattle.writer.specs.Writing.{write_check}
use Rattle.message_words.specs.Words.{header_of}
use Rattle.message_words.proofs.straight.check.Goals as goal

-- a tail is refused exactly where it has a fault
faults : (size : ℕ) (x : Result (Unit {0}) Fault) → is_err (fault_check size x) ≡ is_fault x
faults size (Ok tt) = refl
faults size (Err (Broken p)) = refl
faults size (Err (Misfit p)) = refl

past : (c : goal.Then-tail-size) → 65535 < c.size_of-size.result + length c.args.tail.now
past c =
    omega arith

pub returns-then-w-ge16 : goal.returns-then-w-ge16
unfolding header_of refuse write_check
returns-then-w-ge16 c =
    rw (le-ltb _ _ c.if-w-ge16.true)

pub returns-then-not-body_holds : goal.returns-then-not-body_holds
unfolding header_of refuse write_check
returns-then-not-body_holds c =
    rw (lt-ltb _ _ c.if-w-ge16.false, ← c.body_holds.ensures, c.if-not-body_holds.true)

pub returns-then-tail-size : goal.returns-then-tail-size
unfolding header_of refuse write_check
returns-then-tail-size c =
    rw (lt-ltb _ _ c.if-w-ge16.false, ← c.body_holds.ensures, c.if-not-body_holds.false, ← c.size_of-size.ensures.0, lt-ltb _ _ (past c))

pub returns-then-is_err : goal.returns-then-is_err
unfolding header_of refuse write_check
returns-then-is_err c =
    let h : c.size_of-size.result + length c.args.tail.now ≤ 65535 = omega arith in
    rw (lt-ltb _ _ c.if-w-ge16.false, ← c.body_holds.ensures, c.if-not-body_holds.false, ← c.size_of-size.ensures.0, le-ltb _ _ h, sym (faults c.size_of-size.result _) ∙ sym (ap is_err c.tail_check.ensures) ∙ sym c.is_err.ensures.value ∙ c.if-is_err.true)

pub returns-then-room-size : goal.returns-then-room-size
unfolding header_of refuse write_check
returns-then-room-size c =
    let h : c.size_of-size.result + length c.args.tail.now ≤ 65535 = omega arith in
    rw (lt-ltb _ _ c.if-w-ge16.false, ← c.body_holds.ensures, c.if-not-body_holds.false, ← c.size_of-size.ensures.0, le-ltb _ _ h, sym (faults c.size_of-size.result _) ∙ sym (ap is_err c.tail_check.ensures) ∙ sym c.is_err.ensures.value ∙ c.if-is_err.false, lt-ltb _ _ c.if-room-size.true)

pub returns : goal.returns
unfolding header_of refuse write_check
returns c =
    let h : c.size_of-size.result + length c.args.tail.now ≤ 65535 = omega arith in
    rw (lt-ltb _ _ c.if-w-ge16.false, ← c.body_holds.ensures, c.if-not-body_holds.false, ← c.size_of-size.ensures.0, le-ltb _ _ h, sym (faults c.size_of-size.result _) ∙ sym (ap is_err c.tail_check.ensures) ∙ sym c.is_err.ensures.value ∙ c.if-is_err.false, le-ltb _ _ c.if-room-size.false)
