-- When writing a trace is refused, and with which number (02, (vi): "refuse a trace that mixes ports or has a time whose seconds exceed 32 bits"; "in
-- writing 20 as in replay, 22 EXPORT for a trace we can't write; last, in both, 16 for too little room"), 0 where it is written. In
-- proofs/Exactly.antt the answer has its line here, and a line that holds is the answer.
use Rattle.std.specs.Prelude.{ℕ, ◌/◌, ◌≤◌, ◌<◌, ◌≡◌, List, ◌∷◌, length}
use Rattle.refusal.specs.Limits.{second_nanos}
pub use Rattle.writer.specs.Writing.{written_code}
use Rattle.block.specs.Layout.{Entry, entries_of}
use Rattle.block.specs.Making.{All}
use Rattle.playback.specs.Playback.{reader_of}
use Rattle.playback.specs.When.{BlockWhen, TraceWhen}
use Rattle.exporting.specs.Exporting.{capture_of, port_of, records_of, port_behind}

-- a record among those of a port that has no place in the capture: it is of another port, or its seconds exceed 32 bits
pub data Unfit (port : ℕ) (e : Entry) : Type 0 where
  mixed : (e.port ≡ port → ⊥) → Unfit port e
  late : 4294967296 ≤ e.time / second_nanos → Unfit port e

-- one that has
pub record Fit (port : ℕ) (e : Entry) : Type 0 where
  pub its : e.port ≡ port
  pub early : e.time / second_nanos < 4294967296

-- there is such a record among several
pub data Some (P : Entry → Type 0) : List Entry → Type 0 where
  first : {e : Entry} {es : List Entry} → P e → Some P (e ∷ es)
  later : {e : Entry} {es : List Entry} → Some P es → Some P (e ∷ es)

-- a whole trace; the port is that of its first record
pub data ExportWhen (room : ℕ) (trace : List ℕ) : ℕ → Type 0 where
  -- "20 as in replay"
  no_trace : TraceWhen trace 20 → ExportWhen room trace 20
  -- "22 EXPORT for a trace we can't write"
  unwritable : TraceWhen trace 0 → Some (Unfit (port_of (records_of trace))) (records_of trace) → ExportWhen room trace 22
  -- "last .. 16 for too little room"
  no_room : TraceWhen trace 0 → All (Fit (port_of (records_of trace))) (records_of trace) → room < length (capture_of (records_of trace)) → ExportWhen room trace 16
  written : TraceWhen trace 0 → All (Fit (port_of (records_of trace))) (records_of trace) → length (capture_of (records_of trace)) ≤ room → ExportWhen room trace 0

-- a block behind those that were read; the port is that of the records before it, where there are some
pub data ExportBlockWhen (rs s : List ℕ) : ℕ → Type 0 where
  no_block : BlockWhen (reader_of rs) s 20 → ExportBlockWhen rs s 20
  block_unwritable : BlockWhen (reader_of rs) s 0 → Some (Unfit (port_behind rs (entries_of s))) (entries_of s) → ExportBlockWhen rs s 22
  block_written : BlockWhen (reader_of rs) s 0 → All (Fit (port_behind rs (entries_of s))) (entries_of s) → ExportBlockWhen rs s 0
