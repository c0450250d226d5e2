-- What a message says that may be written.
use Rattle.std.specs.Prelude.{Result, Ok, Err}
use Prim.Native.Nat.{ℕ, ◌+◌, ◌<◌, ◌≤◌}
use mathlib.Core.Path.{◌≡◌, refl}
use mathlib.Core.List.{List}
use mathlib.Core.Bool.{true, false}
use native.Mathlib.Omega.{arith}
use borrow.Author.Tests.{ltb-true, ltb-false, not-false}
use lib.ListN.{length}
use Rattle.refusal.proofs.Choice.{passed}
use Rattle.tlv.specs.Faults.{fault_of, is_fault}
use Rattle.tlv.specs.declared.walk.Fault.{Fault}
use Rattle.tlv.specs.declared.walk.Fault.TheVariants.{Broken, Misfit}
use Rattle.message.specs.declared.fields.Message.{Message}
use Rattle.message.proofs.Laws.{no_refusal}
use Rattle.layout.specs.Layout.{size_of}
use Rattle.writer.specs.Writing.{body_fits, write_check}

pub record Allowed (magic : ℕ) (m : Message) (tail : List ℕ) (n : ℕ) : Type 0 where
  pub transport : m.header.transport < 16
  pub stamp : body_fits m.body ≡ true
  pub long : size_of m.body + length tail ≤ 65535
  pub tlvs : fault_of magic tail ≡ Ok tt
  pub room : size_of m.body + length tail ≤ n

sound : (x : Result (Unit {0}) Fault) → is_fault x ≡ false → x ≡ Ok tt
sound (Ok tt) e = refl
sound (Err (Broken p)) e = absurd (let z : ◌≡◌ {A = ℕ} 0 1 = cc in omega arith)
sound (Err (Misfit p)) e = absurd (let z : ◌≡◌ {A = ℕ} 0 1 = cc in omega arith)

pub allowed : (magic : ℕ) (m : Message) (tail : List ℕ) (room : ℕ) → write_check magic m tail room ≡ Ok tt → Allowed magic m tail room
unfolding write_check
allowed magic m tail room e =
    let p1 = passed _ _ _ _ (no_refusal _) e in
    let p2 = passed _ _ _ _ (no_refusal _) p1.1 in
    let p3 = passed _ _ _ _ (no_refusal _) p2.1 in
    let p4 = passed _ _ _ _ (no_refusal _) p3.1 in
    let p5 = passed _ _ _ _ (no_refusal _) p4.1 in
    record {
      transport = ltb-true _ _ (not-false _ p1.0);
      stamp = not-false _ p2.0;
      long = ltb-false _ _ p3.0;
      tlvs = sound _ p4.0;
      room = ltb-false _ _ p5.0;
    }
