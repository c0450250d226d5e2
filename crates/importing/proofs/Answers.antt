-- What importing answers, check by check, and what it leaves of the octets that are lent to it.
use Rattle.std.specs.Prelude.{Result, Ok, Err}
use Prim.Native.Nat.{ℕ, ◌≤◌, ◌<◌}
use mathlib.Core.Path.{◌≡◌, ◌∙◌, refl, sym, ap}
use mathlib.Core.List.{List}
use mathlib.Core.Bool.{true, false, not}
use native.Mathlib.Omega.{arith}
use lib.Dec.{ltb}
use lib.ListN.{length}
use borrow.Author.Tests.{lt-ltb, le-ltb}
use Rattle.refusal.specs.Choice.{refuse}
use Rattle.refusal.specs.Limits.{is_port}
use Rattle.refusal.specs.declared.Refusal.{Refusal}
use Rattle.refusal.specs.declared.Refusal.TheVariants.{Pcap, Port, Room}
use Rattle.refusal.proofs.Choice.{refused, goes_on}
use Rattle.stores.specs.Stores.{over}
use Rattle.pcap.specs.File.{is_capture}
use Rattle.importing.specs.Importing.{records_check, fresh_words, trace_by, records_in, behind, weight_by, import_of, lent_by, out_after_import}

-- ---- WHAT WAS WEIGHED
pub weight_refused : (o : Result (Unit {0}) Refusal) (n : ℕ) (x : Refusal) → Err x ≡ weight_by o n → o ≡ Err x
weight_refused (Err y) n x e = cc
weight_refused (Ok tt) n x e = absurd (let z : ◌≡◌ {A = ℕ} 0 1 = cc in omega arith)

pub weight_blocks : (o : Result (Unit {0}) Refusal) (n m : ℕ) → Ok m ≡ weight_by o n → (o ≡ Ok tt) × (m ≡ n)
weight_blocks (Err y) n m e = absurd (let z : ◌≡◌ {A = ℕ} 0 1 = cc in omega arith)
weight_blocks (Ok tt) n m e = (refl, cc)

-- ---- CHECK BY CHECK
module _ (room port : ℕ) (file : List ℕ) where
  pub no_capture : is_capture file ≡ false → import_of room port file ≡ Err Pcap
  unfolding import_of
  no_capture e = refused _ _ _ (ap not e)

  module _ (capture : is_capture file ≡ true) where
    pub no_port : is_port port ≡ false → import_of room port file ≡ Err Port
    unfolding import_of
    no_port e = goes_on _ _ _ (ap not capture) ∙ refused _ _ _ (ap not e)

    module _ (is : is_port port ≡ true) where
      then : import_of room port file
          ≡ behind (records_check fresh_words (records_in port file))
          (refuse (ltb room (length (trace_by (records_in port file)))) (Err Room) (Ok (length (trace_by (records_in port file)))))
      unfolding import_of
      then = goes_on _ _ _ (ap not capture) ∙ goes_on _ _ _ (ap not is)

      pub one_refused : (x : Refusal) → records_check fresh_words (records_in port file) ≡ Err x → import_of room port file ≡ Err x
      one_refused x e = then ∙ rw e

      module _ (done : records_check fresh_words (records_in port file) ≡ Ok tt) where
        pub no_room : room < length (trace_by (records_in port file)) → import_of room port file ≡ Err Room
        no_room h = then ∙ rw done (refused _ _ _ (lt-ltb _ _ h))

        pub imported : length (trace_by (records_in port file)) ≤ room → import_of room port file ≡ Ok (length (trace_by (records_in port file)))
        imported h = then ∙ rw done (goes_on _ _ _ (le-ltb _ _ h))

-- ---- WHAT IS LEFT
module _ (out : List ℕ) (port : ℕ) (file : List ℕ) where
  -- a refusal, and the octets as they were
  pub tells_refusal : (x : Refusal) → import_of (length out) port file ≡ Err x
      → (Err x ≡ import_of (length out) port file) × (out ≡ out_after_import out port file)
  tells_refusal x e = (sym e, sym (ap (λ (w : Result ℕ Refusal). lent_by w out (over out 0 (trace_by (records_in port file)))) e))

  -- the trace
  pub tells_octets : (n : ℕ) → import_of (length out) port file ≡ Ok n
      → (Ok n ≡ import_of (length out) port file) × (over out 0 (trace_by (records_in port file)) ≡ out_after_import out port file)
  tells_octets n e = (sym e, sym (ap (λ (w : Result ℕ Refusal). lent_by w out (over out 0 (trace_by (records_in port file)))) e))
