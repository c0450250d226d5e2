-- What comes back of a message that was written and read, by what writing answered.
use Rattle.std.specs.Prelude.{Result, Ok, Err}
use Prim.Native.Nat.{ℕ, ◌+◌}
use mathlib.Core.Path.{◌≡◌, ap}
use mathlib.Core.List.{List}
use native.Mathlib.Omega.{arith}
use lib.ListN.{length}
use Rattle.refusal.specs.declared.Refusal.{Refusal}
use Rattle.message.specs.Reading.{by}
use Rattle.message.specs.declared.fields.Message.{Message}
use Rattle.layout.specs.Layout.{size_of}
use Rattle.writer.specs.Writing.{write_check, write_of}
use Rattle.roundtrip.proofs.ReadBack.{gave}

module _ (magic : ℕ) (m : Message) (tail out : List ℕ) {A : Type 0} (refused : Refusal → A) (a : A) where
  -- the number that refused to write it
  pub not_written : {x : Refusal} → write_of magic m tail out ≡ Err x → refused x ≡ by (write_check magic m tail (length out)) refused a
  unfolding write_of
  not_written {x} e = cases (write_check magic m tail (length out)) e
    where
      cases : (o : Result (Unit {0}) Refusal) → by o Err (Ok (size_of m.body + length tail)) ≡ Err x → refused x ≡ by o refused a
      cases (Err y) h = let q : x ≡ y = cc in ap refused q
      cases (Ok tt) h = absurd (let z : ◌≡◌ {A = ℕ} 0 1 = cc in omega arith)

  -- or what was written
  pub is_written_lem : {k : ℕ} → write_of magic m tail out ≡ Ok k → a ≡ by (write_check magic m tail (length out)) refused a
  unfolding write_of
  is_written_lem e = rw (gave (write_check magic m tail (length out)) e).0
