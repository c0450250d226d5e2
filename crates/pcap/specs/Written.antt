-- A capture file as it is written: in any of the four forms, and ours (02, (vi): "We write nanosecond, big-endian, snapshot length 65,535, other fields and
-- addresses zero").
use Rattle.std.specs.Prelude.{ℕ, ◌+◌, ◌*◌, ◌/◌, ◌%◌, ◌<◌, ◌≤◌, ◌≡◌, ◌⊎◌, List, [], ◌∷◌, ◌++◌, false, eqb, length, replicate}
use Rattle.refusal.specs.Choice.{pick}
use Rattle.refusal.specs.Limits.{second_nanos}
use Rattle.pcap.specs.declared.Form.{Form}
use Rattle.pcap.specs.Form.{number_octets}
use Rattle.pcap.specs.File.{Frame}

-- ---- IN ANY FORM
-- what a head says beside its form: zone, accuracy of times, snapshot length, which are not looked at
pub record Fields : Type 0 where
  pub zone : ℕ
  pub accuracy : ℕ
  pub snapshot : ℕ

-- "0xa1b2c3d4 (microseconds) or 0xa1b23c4d (nanoseconds)"
abbrev pub magic_of : Form → ℕ
magic_of f = pick (eqb f.unit 1000) 0xa1b2c3d4 0xa1b23c4d

abbrev pub head_in : Form → Fields → List ℕ → List ℕ
head_in f h rest =
    number_octets f 4 (magic_of f)
    (number_octets f 2 2
    (number_octets f 2 4
    (number_octets f 4 h.zone (number_octets f 4 h.accuracy (number_octets f 4 h.snapshot (number_octets f 4 1 rest))))))

-- a packet: its time as seconds and counts of a fraction, how many octets the frame had, and those that are stored
pub record Packet : Type 0 where
  pub seconds : ℕ
  pub fraction : ℕ
  pub original : ℕ
  pub octets : List ℕ

abbrev pub packet_in : Form → Packet → List ℕ → List ℕ
packet_in f p rest =
    number_octets f 4 p.seconds
    (number_octets f 4 p.fraction (number_octets f 4 (length p.octets) (number_octets f 4 p.original (p.octets ++ rest))))

unfoldable pub packets_in : Form → List Packet → List ℕ
packets_in f [] = []
packets_in f (p ∷ ps) = packet_in f p (packets_in f ps)

abbrev pub file_in : Form → Fields → List Packet → List ℕ
file_in f h ps = head_in f h (packets_in f ps)

-- ---- OURS
-- "nanosecond, big-endian, snapshot length 65,535, other fields .. zero"
abbrev pub our_form : Form
our_form = record { little = false; unit = 1 }

abbrev pub our_fields : Fields
our_fields = record { zone = 0; accuracy = 0; snapshot = 65535 }

-- "addresses zero": the 14 octets before a message, its EtherType the last two
abbrev pub framed : List ℕ → List ℕ
framed message = replicate 12 0 ++ 0x88 ∷ 0xF7 ∷ message

abbrev pub our_packet : Frame → Packet
our_packet x =
    record { seconds = x.time / second_nanos; fraction = x.time % second_nanos; original = length x.octets; octets = x.octets }

-- ---- WHAT IS SAID OF THEM
-- one of the four forms
abbrev pub IsForm : Form → Type 0
IsForm f = (f.unit ≡ 1000) ⊎ (f.unit ≡ 1)

-- a packet that the form has room for, whole, its fraction below a second
pub record Fits (f : Form) (p : Packet) : Type 0 where
  pub seconds : p.seconds < 4294967296
  pub counts : p.fraction < 4294967296
  pub fraction : p.fraction * f.unit < second_nanos
  pub stored : length p.octets < 4294967296
  pub original : p.original ≤ length p.octets

abbrev pub AllFit : Form → List Packet → Type 0
AllFit f [] = Unit {0}
AllFit f (p ∷ ps) = Fits f p × AllFit f ps

-- the frame of a packet
abbrev pub frame_in : Form → Packet → Frame
frame_in f p = record { time = p.seconds * second_nanos + p.fraction * f.unit; octets = p.octets }
