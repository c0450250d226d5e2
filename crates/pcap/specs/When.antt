-- When a file is no capture (02, (vi): "21 PCAP, a wrong head, link type or fraction, or a frame stored short or running past the file, in that order"), with 21,
-- and when it is one, with 0. In proofs/Exactly.antt the answer has its line here, and a line that holds is the answer. Since all give 21, a line asks nothing
-- of those before it but that what it looks at is there.
use Rattle.std.specs.Prelude.{ℕ, ◌≤◌, ◌<◌, ◌≡◌, List, length, drop}
use Rattle.refusal.specs.Limits.{second_nanos}
use Rattle.octets.specs.Be.{be}
use Rattle.pcap.specs.declared.Form.{Form}
use Rattle.pcap.specs.Form.{low, number_at, form_of}
use Rattle.pcap.specs.File.{file_head, packet_head, fraction_of, stored_of, original_of, size_of}
use Rattle.pcap.specs.Written.{IsForm}

-- ---- PACKETS, one behind the other in what is left of a file
-- a packet with which s begins, and no fault of it
pub record SoundPacket (f : Form) (s : List ℕ) : Type 0 where
  pub head : packet_head ≤ length s
  pub fraction : fraction_of f s < second_nanos
  pub whole : original_of f s ≤ stored_of f s
  pub inside : size_of f s ≤ length s

-- a fault of the first packet, or of one behind it where it has none
pub data Fault (f : Form) : List ℕ → Type 0 where
  -- "wrong .. fraction": a second or more
  wrong_fraction : {s : List ℕ} → packet_head ≤ length s → second_nanos ≤ fraction_of f s → Fault f s
  -- "a frame stored short"
  stored_short : {s : List ℕ} → packet_head ≤ length s → stored_of f s < original_of f s → Fault f s
  -- "running past the file": not even its head is there, or not all of its frame
  cut : {s : List ℕ} → 0 < length s → length s < packet_head → Fault f s
  past : {s : List ℕ} → packet_head ≤ length s → length s < size_of f s → Fault f s
  behind : {s : List ℕ} → SoundPacket f s → Fault f (drop (size_of f s) s) → Fault f s

-- no fault to the end
pub data Sound (f : Form) : List ℕ → Type 0 where
  none_left : {s : List ℕ} → length s ≡ 0 → Sound f s
  one_more : {s : List ℕ} → SoundPacket f s → Sound f (drop (size_of f s) s) → Sound f s

-- ---- A FILE
-- neither "0xa1b2c3d4 (microseconds)" nor "0xa1b23c4d (nanoseconds)"
abbrev pub NoMagic : ℕ → Type 0
NoMagic n = (n ≡ 0xa1b2c3d4 → ⊥) × (n ≡ 0xa1b23c4d → ⊥)

pub data CaptureWhen (file : List ℕ) : ℕ → Type 0 where
  -- "a wrong head": too short; no magic "in either octet order"; not "version 2.4"
  short : length file < file_head → CaptureWhen file 21
  no_magic : NoMagic (be 4 file 0) → NoMagic (low 4 file 0) → CaptureWhen file 21
  other_major : (number_at (form_of file) 2 file 4 ≡ 2 → ⊥) → CaptureWhen file 21
  other_minor : (number_at (form_of file) 2 file 6 ≡ 4 → ⊥) → CaptureWhen file 21
  -- ".. link type": not "link type 1"
  other_link : (number_at (form_of file) 4 file 20 ≡ 1 → ⊥) → CaptureWhen file 21
  -- "or fraction, or a frame stored short or running past the file"
  a_fault : Fault (form_of file) (drop file_head file) → CaptureWhen file 21
  a_capture : file_head ≤ length file → IsForm (form_of file) → number_at (form_of file) 2 file 4 ≡ 2 → number_at (form_of file) 2 file 6 ≡ 4
      → number_at (form_of file) 4 file 20 ≡ 1 → Sound (form_of file) (drop file_head file) → CaptureWhen file 0
