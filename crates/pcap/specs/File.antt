-- A capture file as it is read (02, (vi): "classic pcap files .. version 2.4, link type 1"; "21 PCAP, a wrong head, link type or fraction, or a frame stored
-- short or running past the file"): a head of 24 octets, and packets one behind the other, each a head of 16 octets and a frame.
use Rattle.std.specs.Prelude.{ℕ, zero, suc, ◌+◌, ◌*◌, List, [], ◌∷◌, map, Bool, true, not, ◌&&◌, eqb, leb, ltb, length, take, drop}
use Rattle.refusal.specs.Choice.{pick}
use Rattle.refusal.specs.Limits.{second_nanos}
use Rattle.pcap.specs.declared.Form.{Form}
use Rattle.pcap.specs.Form.{number_at, form_of}

abbrev pub file_head : ℕ
file_head = 24

abbrev pub packet_head : ℕ
packet_head = 16

-- ---- THE HEAD: magic 4, version 2 and 2, zone 4, accuracy of times 4, snapshot length 4, link type 4
-- "a wrong head": too short, no magic, or not "version 2.4"
unfoldable pub is_head : Form → List ℕ → Bool
is_head f s = leb file_head (length s) && (not (eqb f.unit 0) && (eqb (number_at f 2 s 4) 2 && eqb (number_at f 2 s 6) 4))

-- "link type 1", by all its 32 bits
abbrev pub is_ethernet : Form → List ℕ → Bool
is_ethernet f s = eqb (number_at f 4 s 20) 1

-- ---- A PACKET, with which s begins: seconds 4, fraction 4, octets stored 4, octets that the frame had 4, the frame
abbrev pub seconds_of : Form → List ℕ → ℕ
seconds_of f s = number_at f 4 s 0

abbrev pub fraction_of : Form → List ℕ → ℕ
fraction_of f s = number_at f 4 s 4 * f.unit

abbrev pub stored_of : Form → List ℕ → ℕ
stored_of f s = number_at f 4 s 8

abbrev pub original_of : Form → List ℕ → ℕ
original_of f s = number_at f 4 s 12

-- the octets of the packet
abbrev pub size_of : Form → List ℕ → ℕ
size_of f s = packet_head + stored_of f s

-- the time of the trace: nanoseconds
abbrev pub time_of : Form → List ℕ → ℕ
time_of f s = seconds_of f s * second_nanos + fraction_of f s

-- its head: no "wrong .. fraction", which is a second or more, and no "frame stored short"
unfoldable pub is_packet_head : Form → List ℕ → Bool
is_packet_head f s = ltb (fraction_of f s) second_nanos && leb (original_of f s) (stored_of f s)

-- .. and neither its head nor its frame is "running past the file"
unfoldable pub is_packet : Form → List ℕ → Bool
is_packet f s = leb packet_head (length s) && (is_packet_head f s && leb (size_of f s) (length s))

-- ---- ALL PACKETS
-- what is left of a file at the begin of each packet, to its end; so many packets at most
unfoldable pub rests_from : ℕ → Form → List ℕ → List (List ℕ)
rests_from zero f s = []
rests_from (suc n) f s = pick (eqb (length s) 0) [] (s ∷ rests_from n f (drop (size_of f s) s))

-- a packet has an octet at least, so that the octets are enough for all
abbrev pub rests_of : Form → List ℕ → List (List ℕ)
rests_of f s = rests_from (length s) f s

unfoldable pub are_packets : Form → List (List ℕ) → Bool
are_packets f [] = true
are_packets f (r ∷ rs) = is_packet f r && are_packets f rs

-- no fault anywhere in the file
abbrev pub is_capture_in : Form → List ℕ → Bool
is_capture_in f s = is_head f s && (is_ethernet f s && are_packets f (rests_of f (drop file_head s)))

abbrev pub is_capture : List ℕ → Bool
is_capture s = is_capture_in (form_of s) s

-- ---- THE FRAMES
pub record Frame : Type 0 where
  pub time : ℕ
  pub octets : List ℕ

abbrev pub frame_of : Form → List ℕ → Frame
frame_of f s = record { time = time_of f s; octets = take (stored_of f s) (drop packet_head s) }

abbrev pub frames_in : Form → List ℕ → List Frame
frames_in f s = map (frame_of f) (rests_of f (drop file_head s))

-- the frames of a file, in order
abbrev pub frames_of : List ℕ → List Frame
frames_of s = frames_in (form_of s) s
