-- THERE AND BACK (02, (vi): "Importing an exported trace under its own port gives back its records."): of every trace that export accepts, the capture that it
-- writes is read again, nothing in it is refused but for too little room, and the records are those of the trace.
use Rattle.std.specs.Prelude.{Result, Ok, Err}
use Prim.Native.Nat.{ℕ, zero, suc, ◌+◌, ◌*◌, ◌/◌, ◌%◌, ◌<◌}
use mathlib.Core.Path.{◌≡◌, refl, sym, ap, ◌∙◌}
use mathlib.Core.Logic.{inr}
use mathlib.Core.List.{List, [], ◌∷◌, ◌++◌, map}
use mathlib.Core.Bool.{Bool, true, false, not, ◌&&◌}
use native.Mathlib.Omega.{arith}
use lib.Dec.{eqb, ltb}
use lib.ListN.{length, take, drop, replicate}
use lib.Seq.{take_at}
use borrow.Author.Tests.{le-leb, ltb-true, eqb-true}
use Rattle.laws.proofs.Bools.{both}
use Rattle.refusal.specs.Choice.{pick, refuse}
use Rattle.refusal.specs.Limits.{is_port, second_nanos}
use Rattle.refusal.specs.declared.Refusal.TheVariants.{Block, Export, Room}
use Rattle.octets.specs.Be.{be}
use Rattle.octets.proofs.Laws.{Octets, octets_take, octets_drop, be_bound}
use Rattle.stores.specs.Stores.{over}
use Rattle.writer.specs.Writing.{lent_by}
use Rattle.block.specs.Layout.{block_octets, records_at, head_octets, Entry, count_of, length_at, entry_at, end_at, entries_from}
use Rattle.block.specs.Making.{EntryFits, All}
use Rattle.recording.specs.Recording.{record_check, words_after}
use Rattle.recording.proofs.Refusing.{done}
use Rattle.traces.specs.Taped.{fresh_tape, IsShort}
use Rattle.traces.proofs.Whole.{recorded_accepted, recorded_entries}
use Rattle.playback.specs.Playback.{blocks_in, entries_of_all, is_trace}
use Rattle.pcap.specs.File.{is_capture}
use Rattle.pcap.specs.Written.{Fits, AllFit, frame_in, framed, our_form, our_fields}
use Rattle.pcap.proofs.ReadBack.{file_accepted, file_read}
use Rattle.exporting.specs.Exporting.{packet_by, capture_of, port_of, is_writable, are_writable, records_of, can_write, export_of, out_after_export}
use Rattle.exporting.proofs.Few.{AllOctets, blocks_octets}
use Rattle.captures.proofs.Again.{taken_again}
use Rattle.importing.proofs.Tapes.{first_done, all_kept}
use Rattle.importing.specs.Importing.{is_ptp, entry_by, taken_of, records_check, fresh_words, trace_by, records_in, import_of}
use Rattle.refusal.specs.declared.Refusal.{Refusal}

-- ---- RECORDS THAT CAN BE WRITTEN
-- what is recorded is short
pub all_short : (es : List Entry) (ws : List ℕ) → records_check ws es ≡ Ok tt → All IsShort es
unfolding records_check
all_short [] ws e = tt
all_short (x ∷ es) ws e =
    let k = first_done (record_check ws x) (records_check (words_after ws x) es) e in
    ((done ws x k.0).short, all_short es (words_after ws x) k.1)

module _ (p : ℕ) where
  -- the packet of a record has room in our form
  packet_fits : (e : Entry) → is_writable p e ≡ true → IsShort e → Fits our_form (packet_by e)
  packet_fits e can short =
      let k = both (eqb e.port p) (ltb (e.time / second_nanos) 4294967296) can in
      let l : length (framed e.message) ≡ 14 + length e.message = omega arith in
      record {
        seconds = ltb-true _ _ k.1;
        counts = omega arith;
        fraction = omega arith;
        stored = omega arith;
        original = omega arith;
      }

  pub all_fit : (es : List Entry) → are_writable p es ≡ true → All IsShort es → AllFit our_form (map packet_by es)
  unfolding are_writable
  all_fit [] can short = tt
  all_fit (e ∷ es) can short =
      let k = both (is_writable p e) (are_writable p es) can in
      (packet_fits e k.0 short.0, all_fit es k.1 short.1)

  -- its frame is taken, and gives the record back
  frame_taken : (e : Entry) → is_ptp (framed e.message) ≡ true
  unfolding is_ptp be
  frame_taken e = ap (λ (b : Bool). b && true) (le-leb 14 (length (framed e.message)) (omega arith))

  entry_back : (e : Entry) → is_writable p e ≡ true → entry_by p (frame_in our_form (packet_by e)) ≡ e
  entry_back e can =
      let k = both (eqb e.port p) (ltb (e.time / second_nanos) 4294967296) can in
      let t : e.time / second_nanos * second_nanos + e.time % second_nanos * 1 ≡ e.time = omega arith in
      let q : p ≡ e.port = sym (eqb-true _ _ k.0) in
      λ i. record { time = t i; port = q i; message = e.message }

  pub all_taken : (es : List Entry) → are_writable p es ≡ true → taken_of p (map (frame_in our_form) (map packet_by es)) ≡ es
  unfolding taken_of are_writable
  all_taken [] can = refl
  all_taken (e ∷ es) can =
      let k = both (is_writable p e) (are_writable p es) can in
      let rest = taken_of p (map (frame_in our_form) (map packet_by es)) in
      ap (λ (b : Bool). pick b (entry_by p (frame_in our_form (packet_by e)) ∷ rest) rest) (frame_taken e)
      ∙ (λ i. entry_back e k.0 i ∷ all_taken es k.1 i)

-- ---- RECORDS OF OCTETS
-- a record that was read of octets can be made of octets
entry_fits : (s : List ℕ) (at : ℕ) → Octets s → EntryFits (entry_at s at)
entry_fits s at o =
    record {
      time = be_bound 8 s at o;
      port = o (at + 8);
      octets = octets_take (length_at s at) (drop (at + head_octets) s) (octets_drop (at + head_octets) s o);
    }

entries_fit : (n : ℕ) (s : List ℕ) (at : ℕ) → Octets s → (rest : List Entry) → All EntryFits rest → All EntryFits (entries_from n s at ++ rest)
unfolding entries_from
entries_fit zero s at o rest f = f
entries_fit (suc n) s at o rest f = (entry_fits s at o, entries_fit n s (end_at s at) o rest f)

pub all_entries_fit : (bs : List (List ℕ)) → AllOctets bs → All EntryFits (entries_of_all bs)
unfolding entries_of_all
all_entries_fit [] o = tt
all_entries_fit (b ∷ bs) o = entries_fit (count_of b) b records_at o.0 (entries_of_all bs) (all_entries_fit bs o.1)

-- ---- A TRACE
-- one that replay accepts, all of whose records are of port p and have seconds of 32 bits: what export asks for. Of a trace without a record any port is its own.
module _ (s : List ℕ) (o : Octets s) (accepted : is_trace s ≡ true) (p : ℕ) (own : are_writable p (records_of s) ≡ true) where
  abbrev es : List Entry
  es = records_of s

  abbrev file : List ℕ
  file = capture_of es

  fits : AllFit our_form (map packet_by es)
  fits = all_fit p es own (all_short es fresh_words (taken_again s o accepted))

  -- the capture is one ..
  pub export_accepted : is_capture file ≡ true
  export_accepted = file_accepted our_form (inr refl) our_fields (map packet_by es) fits

  -- .. AND ITS RECORDS, on that port, ARE THOSE OF THE TRACE
  pub records_again : records_in p file ≡ es
  records_again = ap (taken_of p) (file_read our_form (inr refl) our_fields (map packet_by es) fits) ∙ all_taken p es own

  -- so importing it refuses nothing, where the port is one and the room is enough
  pub import_again : (room : ℕ) → is_port p ≡ true
      → import_of room p file ≡ refuse (ltb room (length (trace_by es))) (Err Room) (Ok (length (trace_by es)))
  unfolding import_of refuse
  import_again room port =
      rw (export_accepted, port, records_again, taken_again s o accepted)

  -- and replay accepts the trace that it makes, with the same records
  again_fits : All EntryFits es
  again_fits = all_entries_fit (blocks_in s) (blocks_octets s o)

  pub trace_again : is_trace (trace_by es) ≡ true
  trace_again = recorded_accepted (replicate block_octets 0) 0 es again_fits (omega arith)

  pub same_records : records_of (trace_by es) ≡ es
  same_records =
      recorded_entries (replicate block_octets 0) 0 es again_fits (omega arith)
      ∙ all_kept es (fresh_tape (replicate block_octets 0) 0) (taken_again s o accepted)

-- ---- WHAT EXPORT WROTE
-- the records that recording takes are of ports that there are
own_port : (e : Entry) (es : List Entry) → records_check fresh_words (e ∷ es) ≡ Ok tt → is_port e.port ≡ true
unfolding records_check
own_port e es h = (done fresh_words e (first_done (record_check fresh_words e) (records_check (words_after fresh_words e) es) h).0).port

port_of_some : (es : List Entry) → records_check fresh_words es ≡ Ok tt → 0 < length es → is_port (port_of es) ≡ true
port_of_some [] h some = absurd (omega arith)
port_of_some (e ∷ es) h some = own_port e es h

accepted_by : (trace can small : Bool) (n m : ℕ)
    → refuse (not trace) (Err Block) (refuse (not can) (Err Export) (refuse small (Err Room) (Ok m))) ≡ Ok n
    → (trace ≡ true) × ((can ≡ true) × (m ≡ n))
unfolding refuse
accepted_by true true true n m e = absurd (let z : ◌≡◌ {A = ℕ} 0 1 = cc in omega arith)
accepted_by true true false n m e = (refl, (refl, cc))
accepted_by true false small n m e = absurd (let z : ◌≡◌ {A = ℕ} 0 1 = cc in omega arith)
accepted_by false can small n m e = absurd (let z : ◌≡◌ {A = ℕ} 0 1 = cc in omega arith)

-- a trace of octets, and a buffer into which it was written in n octets
module _ (s : List ℕ) (o : Octets s) (out : List ℕ) (n : ℕ) (wrote : export_of (length out) s ≡ Ok n) where
  by_tests : (is_trace s ≡ true) × ((can_write s ≡ true) × (length (capture_of (records_of s)) ≡ n))
  unfolding export_of
  by_tests = accepted_by (is_trace s) (can_write s) (ltb (length out) (length (capture_of (records_of s)))) n (length (capture_of (records_of s))) wrote

  -- what stands in the buffer's first n octets ..
  pub capture_first : take n (out_after_export out s) ≡ capture_of (records_of s)
  capture_first =
      ap (λ (w : Result ℕ Refusal). take n (lent_by w out (over out 0 (capture_of (records_of s))))) wrote
      ∙ take_at (capture_of (records_of s)) (drop (0 + length (capture_of (records_of s))) out) n by_tests.1.1

  -- .. IS A CAPTURE, AND READ ON THE PORT OF THE TRACE'S FIRST RECORD IT GIVES THE RECORDS BACK
  pub exported_accepted : is_capture (take n (out_after_export out s)) ≡ true
  exported_accepted = ap is_capture capture_first ∙ export_accepted s o by_tests.0 (port_of (records_of s)) by_tests.1.0

  pub exported_again : records_in (port_of (records_of s)) (take n (out_after_export out s)) ≡ records_of s
  exported_again =
      ap (records_in (port_of (records_of s))) capture_first ∙ records_again s o by_tests.0 (port_of (records_of s)) by_tests.1.0

  -- that port is one of the clock's, where there is a record
  pub exported_port : 0 < length (records_of s) → is_port (port_of (records_of s)) ≡ true
  exported_port some = port_of_some (records_of s) (taken_again s o by_tests.0) some
