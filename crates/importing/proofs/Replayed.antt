-- WHAT IS READ FROM A CAPTURE, REPLAY ACCEPTS, and the records of the trace are exactly those of the frames that are taken.
use Rattle.std.specs.Prelude.{Result, Ok, Err}
use Prim.Native.Nat.{ℕ, ◌+◌, ◌≤◌}
use mathlib.Core.Path.{◌≡◌, ◌∙◌, refl, ap}
use mathlib.Core.List.{List}
use mathlib.Core.Bool.{true}
use native.Mathlib.Omega.{arith}
use lib.ListN.{length, take, drop, replicate}
use lib.Seq.{take_at, drop_at}
use borrow.Author.Tests.{not-false, ltb-false}
use Rattle.refusal.specs.Limits.{is_port}
use Rattle.refusal.specs.declared.Refusal.{Refusal}
use Rattle.refusal.specs.declared.Refusal.TheVariants.{Pcap, Port, Room}
use Rattle.refusal.proofs.Choice.{passed}
use Rattle.refusal.proofs.Limits.{port_bounds}
use Rattle.octets.proofs.Laws.{Octets}
use Rattle.stores.specs.Stores.{over}
use Rattle.block.specs.Layout.{block_octets, Entry}
use Rattle.block.specs.Making.{EntryFits, All}
use Rattle.playback.specs.Playback.{blocks_in, is_trace, entries_of_all}
use Rattle.traces.specs.Taped.{fresh_tape}
use Rattle.traces.proofs.Whole.{recorded_accepted, recorded_entries}
use Rattle.pcap.specs.Form.{form_of}
use Rattle.pcap.specs.File.{is_capture}
use Rattle.importing.specs.Importing.{records_check, fresh_words, trace_by, records_in, behind, import_of, lent_by, out_after_import}
use Rattle.importing.proofs.Tapes.{all_kept}
use Rattle.importing.proofs.Fits.{all_fit}

-- ---- WHAT IS NOT REFUSED passed all checks
pub record Read (room port : ℕ) (file : List ℕ) (n : ℕ) : Type 0 where
  pub capture : is_capture file ≡ true
  pub on_port_lem : is_port port ≡ true
  pub done : records_check fresh_words (records_in port file) ≡ Ok tt
  pub enough : length (trace_by (records_in port file)) ≤ room
  pub octets : length (trace_by (records_in port file)) ≡ n

never : (x : Refusal) (n : ℕ) → ◌≡◌ {A = Result ℕ Refusal} (Err x) (Ok n) → ⊥
never x n e = let z : ◌≡◌ {A = ℕ} 0 1 = cc in omega arith

behind_done : (o : Result (Unit {0}) Refusal) (rest : Result ℕ Refusal) (n : ℕ) → behind o rest ≡ Ok n → (o ≡ Ok tt) × (rest ≡ Ok n)
behind_done (Err x) rest n e = absurd (never x n e)
behind_done (Ok tt) rest n e = (refl, e)

pub is_read : (room port : ℕ) (file : List ℕ) (n : ℕ) → import_of room port file ≡ Ok n → Read room port file n
unfolding import_of
is_read room port file n h =
    let a = passed _ _ _ _ (never Pcap n) h in
    let b = passed _ _ _ _ (never Port n) a.1 in
    let d = behind_done _ _ n b.1 in
    let e = passed _ _ _ _ (never Room n) d.1 in
    record { capture = not-false _ a.0; on_port_lem = not-false _ b.0; done = d.0; enough = ltb-false _ _ e.0; octets = cc }

-- ---- THE TRACE
module _ (out : List ℕ) (port : ℕ) (file : List ℕ) (n : ℕ) (is : import_of (length out) port file ≡ Ok n) where
  -- the first n octets are the trace
  pub trace_first : take n (out_after_import out port file) ≡ trace_by (records_in port file)
  trace_first =
      let r = is_read (length out) port file n is in
      let t = trace_by (records_in port file) in
      ap (λ (w : Result ℕ Refusal). take n (lent_by w out (over out 0 t))) is ∙ take_at t (drop (0 + length t) out) n r.octets

  -- those past it are as they were
  pub rest_stays : drop n (out_after_import out port file) ≡ drop n out
  rest_stays =
      let r = is_read (length out) port file n is in
      let t = trace_by (records_in port file) in
      let e : 0 + length t ≡ n = omega (arith, r.octets) in
      ap (λ (w : Result ℕ Refusal). drop n (lent_by w out (over out 0 t))) is ∙ drop_at t (drop (0 + length t) out) n r.octets ∙ ap (λ (k : ℕ). drop k out) e

  -- a file of octets
  module _ (octets : Octets file) where
    abbrev es : List Entry
    es = records_in port file

    fit : All EntryFits es
    fit =
        let r = is_read (length out) port file n is in
        let p = port_bounds port r.on_port_lem in
        all_fit (form_of file) port file (omega arith) octets r.capture

    -- REPLAY ACCEPTS IT, ..
    pub import_accepted : is_trace (take n (out_after_import out port file)) ≡ true
    import_accepted = ap is_trace trace_first ∙ recorded_accepted (replicate block_octets 0) 0 es fit (omega arith)

    -- .. and it holds all records, in order, and no others
    pub import_records : entries_of_all (blocks_in (take n (out_after_import out port file))) ≡ es
    import_records =
        let r = is_read (length out) port file n is in
        ap (λ (s : List ℕ). entries_of_all (blocks_in s)) trace_first
        ∙ recorded_entries (replicate block_octets 0) 0 es fit (omega arith)
        ∙ all_kept es (fresh_tape (replicate block_octets 0) 0) r.done
