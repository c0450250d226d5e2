-- Capture files written out octet by octet, and what they are, by 02's numbers, (vi). Unless something else is told, heads have the zone 0x01020304, the accuracy
-- 0x05060708 and the snapshot length 0x090a0b0c, and packets the seconds 0x01020304, which are 16,909,060.
use Prim.Native.Nat.{ℕ}
use mathlib.Core.Path.{◌≡◌, refl}
use mathlib.Core.List.{List, [], ◌∷◌, ◌++◌, map}
use mathlib.Core.Bool.{Bool, true, false}
use lib.ListN.{take, replicate}
use Rattle.octets.specs.Be.{be}
use Rattle.pcap.specs.declared.Form.{Form}
use Rattle.pcap.specs.Form.{low, form_of}
use Rattle.pcap.specs.File.{Frame, is_head, is_packet_head, is_packet, rests_from, are_packets, is_capture, frames_of}
use Rattle.pcap.specs.Written.{file_in, packets_in, our_form, our_fields, our_packet, framed}

abbrev Octets : Type 0
Octets = List ℕ

-- ---- HEADS
-- of a magic, a version, zone and accuracy and snapshot length, and a link type
abbrev head : Octets → Octets → Octets → Octets → Octets → Octets
head magic version fields link rest = magic ++ version ++ fields ++ link ++ rest

abbrev fields : Octets
fields = 1 ∷ 2 ∷ 3 ∷ 4 ∷ 5 ∷ 6 ∷ 7 ∷ 8 ∷ 9 ∷ 10 ∷ 11 ∷ 12 ∷ []

-- the highest octet first, and the lowest
abbrev big : Octets → Octets → Octets
big magic = head magic (0 ∷ 2 ∷ 0 ∷ 4 ∷ []) fields (0 ∷ 0 ∷ 0 ∷ 1 ∷ [])

abbrev little : Octets → Octets → Octets
little magic = head magic (2 ∷ 0 ∷ 4 ∷ 0 ∷ []) fields (1 ∷ 0 ∷ 0 ∷ 0 ∷ [])

abbrev big_micro : Octets → Octets
big_micro = big (0xa1 ∷ 0xb2 ∷ 0xc3 ∷ 0xd4 ∷ [])

abbrev little_micro : Octets → Octets
little_micro = little (0xd4 ∷ 0xc3 ∷ 0xb2 ∷ 0xa1 ∷ [])

abbrev big_nano : Octets → Octets
big_nano = big (0xa1 ∷ 0xb2 ∷ 0x3c ∷ 0x4d ∷ [])

abbrev little_nano : Octets → Octets
little_nano = little (0x4d ∷ 0x3c ∷ 0xb2 ∷ 0xa1 ∷ [])

abbrev form : Bool → ℕ → Form
form little unit = record { little = little; unit = unit }

abbrev pairs : Octets
pairs = 0xb2 ∷ 0xa1 ∷ 0xd4 ∷ 0xc3 ∷ []

-- "magic 0xa1b2c3d4 (microseconds) or 0xa1b23c4d (nanoseconds) in either octet order"
pub record Heads : Type 0 where
  pub told : map form_of (big_micro [] ∷ little_micro [] ∷ big_nano [] ∷ little_nano [] ∷ []) ≡ form false 1000 ∷ form true 1000 ∷ form false 1 ∷ form true 1 ∷ []
  -- 24 octets are a capture without frames
  pub empty : map is_capture (big_micro [] ∷ little_micro [] ∷ big_nano [] ∷ little_nano [] ∷ []) ≡ true ∷ true ∷ true ∷ true ∷ []
  pub frames : map frames_of (big_micro [] ∷ little_micro [] ∷ big_nano [] ∷ little_nano [] ∷ []) ≡ [] ∷ [] ∷ [] ∷ [] ∷ []
  -- no magic: octets exchanged in pairs, halves exchanged, 0
  pub untold : map form_of (pairs ∷ (0xc3 ∷ 0xd4 ∷ 0xa1 ∷ 0xb2 ∷ []) ∷ (0 ∷ 0 ∷ 0 ∷ 0 ∷ []) ∷ []) ≡ form true 0 ∷ form true 0 ∷ form true 0 ∷ []
  pub exchanged : map is_capture (big pairs [] ∷ little pairs [] ∷ []) ≡ false ∷ false ∷ []
  -- 23 octets, and none
  pub short : map is_capture (take 23 (big_micro []) ∷ take 23 (little_nano []) ∷ [] ∷ []) ≡ false ∷ false ∷ false ∷ []

pub heads : Heads
unfolding form_of be low is_head rests_from are_packets
heads = record { told = refl; empty = refl; frames = refl; untold = refl; exchanged = refl; short = refl }

-- with another version, and with another link type
abbrev version : Octets → Octets
version v = head (0xa1 ∷ 0xb2 ∷ 0xc3 ∷ 0xd4 ∷ []) v fields (0 ∷ 0 ∷ 0 ∷ 1 ∷ []) []

abbrev version_little : Octets → Octets
version_little v = head (0x4d ∷ 0x3c ∷ 0xb2 ∷ 0xa1 ∷ []) v fields (1 ∷ 0 ∷ 0 ∷ 0 ∷ []) []

abbrev link : Octets → Octets
link l = head (0xa1 ∷ 0xb2 ∷ 0x3c ∷ 0x4d ∷ []) (0 ∷ 2 ∷ 0 ∷ 4 ∷ []) fields l []

abbrev link_little : Octets → Octets
link_little l = head (0xd4 ∷ 0xc3 ∷ 0xb2 ∷ 0xa1 ∷ []) (2 ∷ 0 ∷ 4 ∷ 0 ∷ []) fields l []

pub record Fixed : Type 0 where
  -- "version 2.4": 2.4; 2.3, 2.5, 4.2; 2.4 in the other octet order
  pub versions : map is_capture (map version ((0 ∷ 2 ∷ 0 ∷ 4 ∷ []) ∷ (0 ∷ 2 ∷ 0 ∷ 3 ∷ []) ∷ (0 ∷ 2 ∷ 0 ∷ 5 ∷ []) ∷ (0 ∷ 4 ∷ 0 ∷ 2 ∷ []) ∷ (2 ∷ 0 ∷ 4 ∷ 0 ∷ []) ∷ []))
      ≡ true ∷ false ∷ false ∷ false ∷ false ∷ []
  pub versions_little : map is_capture (map version_little ((2 ∷ 0 ∷ 4 ∷ 0 ∷ []) ∷ (2 ∷ 0 ∷ 3 ∷ 0 ∷ []) ∷ (2 ∷ 0 ∷ 5 ∷ 0 ∷ []) ∷ (4 ∷ 0 ∷ 2 ∷ 0 ∷ []) ∷ (0 ∷ 2 ∷ 0 ∷ 4 ∷ []) ∷ []))
      ≡ true ∷ false ∷ false ∷ false ∷ false ∷ []
  -- "link type 1", by all its 32 bits: 1; 0x10000001, 0x00010001, 0, 2; 1 in the other octet order
  pub links : map is_capture (map link ((0 ∷ 0 ∷ 0 ∷ 1 ∷ []) ∷ (0x10 ∷ 0 ∷ 0 ∷ 1 ∷ []) ∷ (0 ∷ 1 ∷ 0 ∷ 1 ∷ []) ∷ (0 ∷ 0 ∷ 0 ∷ 0 ∷ []) ∷ (0 ∷ 0 ∷ 0 ∷ 2 ∷ []) ∷ (1 ∷ 0 ∷ 0 ∷ 0 ∷ []) ∷ []))
      ≡ true ∷ false ∷ false ∷ false ∷ false ∷ false ∷ []
  pub links_little : map is_capture (map link_little ((1 ∷ 0 ∷ 0 ∷ 0 ∷ []) ∷ (1 ∷ 0 ∷ 0 ∷ 0x10 ∷ []) ∷ (1 ∷ 0 ∷ 1 ∷ 0 ∷ []) ∷ (0 ∷ 0 ∷ 0 ∷ 0 ∷ []) ∷ (2 ∷ 0 ∷ 0 ∷ 0 ∷ []) ∷ (0 ∷ 0 ∷ 0 ∷ 1 ∷ []) ∷ []))
      ≡ true ∷ false ∷ false ∷ false ∷ false ∷ false ∷ []

pub fixed : Fixed
unfolding form_of be low is_head rests_from are_packets
fixed = record { versions = refl; versions_little = refl; links = refl; links_little = refl }

-- ---- PACKETS
abbrev frame : ℕ → Octets → Frame
frame time octets = record { time = time; octets = octets }

abbrev three : Octets
three = 0x21 ∷ 0x22 ∷ 0x23 ∷ []

-- of a fraction, the octets stored and those of the frame, before what follows
abbrev packet : Octets → Octets → Octets → Octets → Octets
packet fraction stored original rest = 1 ∷ 2 ∷ 3 ∷ 4 ∷ fraction ++ stored ++ original ++ rest

abbrev packet_little : Octets → Octets → Octets → Octets → Octets
packet_little fraction stored original rest = 4 ∷ 3 ∷ 2 ∷ 1 ∷ fraction ++ stored ++ original ++ rest

-- one in each form, three octets stored of a frame of two: 0x000b0c0d are 723,981 and 0x0a0b0c0d are 168,496,141
abbrev one_big_micro : Octets
one_big_micro = big_micro (packet (0x00 ∷ 0x0b ∷ 0x0c ∷ 0x0d ∷ []) (0 ∷ 0 ∷ 0 ∷ 3 ∷ []) (0 ∷ 0 ∷ 0 ∷ 2 ∷ []) three)

abbrev one_little_micro : Octets
one_little_micro = little_micro (packet_little (0x0d ∷ 0x0c ∷ 0x0b ∷ 0x00 ∷ []) (3 ∷ 0 ∷ 0 ∷ 0 ∷ []) (2 ∷ 0 ∷ 0 ∷ 0 ∷ []) three)

abbrev one_big_nano : Octets
one_big_nano = big_nano (packet (0x0a ∷ 0x0b ∷ 0x0c ∷ 0x0d ∷ []) (0 ∷ 0 ∷ 0 ∷ 3 ∷ []) (0 ∷ 0 ∷ 0 ∷ 2 ∷ []) three)

abbrev one_little_nano : Octets
one_little_nano = little_nano (packet_little (0x0d ∷ 0x0c ∷ 0x0b ∷ 0x0a ∷ []) (3 ∷ 0 ∷ 0 ∷ 0 ∷ []) (2 ∷ 0 ∷ 0 ∷ 0 ∷ []) three)

-- two: a frame of 258 octets, and one of none in the last second that there is
abbrev two_big_nano : Octets
two_big_nano =
    big_nano
    (packet (0 ∷ 0 ∷ 0 ∷ 9 ∷ []) (0 ∷ 0 ∷ 1 ∷ 2 ∷ []) (0 ∷ 0 ∷ 1 ∷ 2 ∷ []) (replicate 258 0x55)
    ++ 0xff ∷ 0xff ∷ 0xff ∷ 0xff ∷ 0x3b ∷ 0x9a ∷ 0xc9 ∷ 0xff ∷ replicate 8 0)

abbrev two_little_micro : Octets
two_little_micro =
    little_micro
    (packet_little (9 ∷ 0 ∷ 0 ∷ 0 ∷ []) (2 ∷ 1 ∷ 0 ∷ 0 ∷ []) (2 ∷ 1 ∷ 0 ∷ 0 ∷ []) (replicate 258 0x55)
    ++ 0xff ∷ 0xff ∷ 0xff ∷ 0xff ∷ 0x3f ∷ 0x42 ∷ 0x0f ∷ 0x00 ∷ replicate 8 0)

pub record Packets : Type 0 where
  pub are : map is_capture (one_big_micro ∷ one_little_micro ∷ one_big_nano ∷ one_little_nano ∷ two_big_nano ∷ two_little_micro ∷ []) ≡ true ∷ true ∷ true ∷ true ∷ true ∷ true ∷ []
  pub big_micro_lem : frames_of one_big_micro ≡ frame 16909060723981000 (0x21 ∷ 0x22 ∷ 0x23 ∷ []) ∷ []
  pub little_micro_lem : frames_of one_little_micro ≡ frame 16909060723981000 (0x21 ∷ 0x22 ∷ 0x23 ∷ []) ∷ []
  pub big_nano_lem : frames_of one_big_nano ≡ frame 16909060168496141 (0x21 ∷ 0x22 ∷ 0x23 ∷ []) ∷ []
  pub little_nano_lem : frames_of one_little_nano ≡ frame 16909060168496141 (0x21 ∷ 0x22 ∷ 0x23 ∷ []) ∷ []
  pub two_big_nano_lem : frames_of two_big_nano ≡ frame 16909060000000009 (replicate 258 0x55) ∷ frame 4294967295999999999 [] ∷ []
  pub two_little_micro_lem : frames_of two_little_micro ≡ frame 16909060000009000 (replicate 258 0x55) ∷ frame 4294967295999999000 [] ∷ []

pub packets : Packets
unfolding form_of be low is_head is_packet is_packet_head rests_from are_packets
packets = record { are = refl; big_micro_lem = refl; little_micro_lem = refl; big_nano_lem = refl; little_nano_lem = refl; two_big_nano_lem = refl; two_little_micro_lem = refl }

-- ---- FAULTS OF A PACKET
-- a sound one, 16 octets and three, before what follows; and each number at its edges
abbrev sound : Octets → Octets
sound rest = packet (0 ∷ 0 ∷ 0 ∷ 9 ∷ []) (0 ∷ 0 ∷ 0 ∷ 3 ∷ []) (0 ∷ 0 ∷ 0 ∷ 3 ∷ []) (three ++ rest)

abbrev fraction : Octets → Octets
fraction x = packet x (0 ∷ 0 ∷ 0 ∷ 3 ∷ []) (0 ∷ 0 ∷ 0 ∷ 3 ∷ []) three

abbrev fraction_little : Octets → Octets
fraction_little x = packet_little x (3 ∷ 0 ∷ 0 ∷ 0 ∷ []) (3 ∷ 0 ∷ 0 ∷ 0 ∷ []) three

abbrev stored_of : Octets → Octets → Octets
stored_of stored original = packet (0 ∷ 0 ∷ 0 ∷ 9 ∷ []) stored original three

abbrev stored_little : Octets → Octets → Octets
stored_little stored original = packet_little (9 ∷ 0 ∷ 0 ∷ 0 ∷ []) stored original three

pub record Faults : Type 0 where
  -- "wrong .. fraction": 999,999, and 1,000,000, of microseconds, and 4,294,968, whose nanoseconds are 704 above 32 bits
  pub micro : map is_capture (map (λ (x : Octets). big_micro (fraction x)) ((0x00 ∷ 0x0f ∷ 0x42 ∷ 0x3f ∷ []) ∷ (0x00 ∷ 0x0f ∷ 0x42 ∷ 0x40 ∷ []) ∷ (0x00 ∷ 0x41 ∷ 0x89 ∷ 0x38 ∷ []) ∷ []))
      ≡ true ∷ false ∷ false ∷ []
  pub micro_little : map is_capture (map (λ (x : Octets). little_micro (fraction_little x)) ((0x3f ∷ 0x42 ∷ 0x0f ∷ 0x00 ∷ []) ∷ (0x40 ∷ 0x42 ∷ 0x0f ∷ 0x00 ∷ []) ∷ (0x38 ∷ 0x89 ∷ 0x41 ∷ 0x00 ∷ []) ∷ []))
      ≡ true ∷ false ∷ false ∷ []
  -- 999,999,999 and 1,000,000,000 of nanoseconds
  pub nano : map is_capture (map (λ (x : Octets). big_nano (fraction x)) ((0x3b ∷ 0x9a ∷ 0xc9 ∷ 0xff ∷ []) ∷ (0x3b ∷ 0x9a ∷ 0xca ∷ 0x00 ∷ []) ∷ []))
      ≡ true ∷ false ∷ []
  pub nano_little : map is_capture (map (λ (x : Octets). little_nano (fraction_little x)) ((0xff ∷ 0xc9 ∷ 0x9a ∷ 0x3b ∷ []) ∷ (0x00 ∷ 0xca ∷ 0x9a ∷ 0x3b ∷ []) ∷ []))
      ≡ true ∷ false ∷ []
  -- "a frame stored short": three of three, of four, of two; three of 0x03000000
  pub stored : map is_capture (map (λ (x : Octets). big_micro (stored_of (0 ∷ 0 ∷ 0 ∷ 3 ∷ []) x)) ((0 ∷ 0 ∷ 0 ∷ 3 ∷ []) ∷ (0 ∷ 0 ∷ 0 ∷ 4 ∷ []) ∷ (0 ∷ 0 ∷ 0 ∷ 2 ∷ []) ∷ (3 ∷ 0 ∷ 0 ∷ 0 ∷ []) ∷ []))
      ≡ true ∷ false ∷ true ∷ false ∷ []
  pub stored_little_lem : map is_capture (map (λ (x : Octets). little_nano (stored_little (3 ∷ 0 ∷ 0 ∷ 0 ∷ []) x)) ((3 ∷ 0 ∷ 0 ∷ 0 ∷ []) ∷ (4 ∷ 0 ∷ 0 ∷ 0 ∷ []) ∷ (2 ∷ 0 ∷ 0 ∷ 0 ∷ []) ∷ (0 ∷ 0 ∷ 0 ∷ 3 ∷ []) ∷ []))
      ≡ true ∷ false ∷ true ∷ false ∷ []
  -- "running past the file": one octet, and as many as a number can tell
  pub past : map is_capture (map (λ (x : Octets). big_nano (stored_of x (0 ∷ 0 ∷ 0 ∷ 3 ∷ []))) ((0 ∷ 0 ∷ 0 ∷ 4 ∷ []) ∷ (0xff ∷ 0xff ∷ 0xff ∷ 0xff ∷ []) ∷ []))
      ≡ false ∷ false ∷ []
  pub past_little : map is_capture (map (λ (x : Octets). little_micro (stored_little x (3 ∷ 0 ∷ 0 ∷ 0 ∷ []))) ((4 ∷ 0 ∷ 0 ∷ 0 ∷ []) ∷ (0xff ∷ 0xff ∷ 0xff ∷ 0xff ∷ []) ∷ []))
      ≡ false ∷ false ∷ []
  -- loose octets: one, fifteen, and sixteen, which are a packet of no octets
  pub loose : map is_capture (map (λ (n : ℕ). big_micro (replicate n 0)) (1 ∷ 15 ∷ 16 ∷ [])) ≡ false ∷ false ∷ true ∷ []
  -- .. and behind a sound packet
  pub loose_behind : map is_capture (map (λ (n : ℕ). big_micro (sound (replicate n 0))) (0 ∷ 1 ∷ 15 ∷ 16 ∷ [])) ≡ true ∷ false ∷ false ∷ true ∷ []
  -- each fault behind a sound packet
  pub second : map is_capture
      (map (λ (x : Octets). big_micro (sound x))
      (fraction (0x00 ∷ 0x0f ∷ 0x42 ∷ 0x3f ∷ []) ∷ fraction (0x00 ∷ 0x0f ∷ 0x42 ∷ 0x40 ∷ []) ∷ stored_of (0 ∷ 0 ∷ 0 ∷ 3 ∷ []) (0 ∷ 0 ∷ 0 ∷ 4 ∷ []) ∷ stored_of (0 ∷ 0 ∷ 0 ∷ 4 ∷ []) (0 ∷ 0 ∷ 0 ∷ 3 ∷ [])
      ∷ []))
      ≡ true ∷ false ∷ false ∷ false ∷ []

pub faults : Faults
unfolding form_of be low is_head is_packet is_packet_head rests_from are_packets
faults =
    record {
      micro = refl;
      micro_little = refl;
      nano = refl;
      nano_little = refl;
      stored = refl;
      stored_little_lem = refl;
      past = refl;
      past_little = refl;
      loose = refl;
      loose_behind = refl;
      second = refl;
    }

-- zone, accuracy and snapshot length are not looked at: all ones; all zero; a snapshot length of 1 before a frame of three octets
abbrev saying : Octets → Octets
saying x = head (0xa1 ∷ 0xb2 ∷ 0xc3 ∷ 0xd4 ∷ []) (0 ∷ 2 ∷ 0 ∷ 4 ∷ []) x (0 ∷ 0 ∷ 0 ∷ 1 ∷ []) (sound [])

pub any_fields : map is_capture (map saying (replicate 12 0xff ∷ replicate 12 0 ∷ (replicate 11 0 ++ 1 ∷ []) ∷ [])) ≡ true ∷ true ∷ true ∷ []
unfolding form_of be low is_head is_packet is_packet_head rests_from are_packets
any_fields = refl

-- ---- AS IT IS WRITTEN
pub record Writing : Type 0 where
  -- "We write nanosecond, big-endian, snapshot length 65,535, other fields and addresses zero": two octets at 5 seconds and 7 nanoseconds
  pub ours : file_in our_form our_fields (map our_packet (frame 5000000007 (framed (0x21 ∷ 0x22 ∷ [])) ∷ []))
      ≡ 0xa1 ∷ 0xb2 ∷ 0x3c ∷ 0x4d ∷ 0 ∷ 2 ∷ 0 ∷ 4 ∷ 0 ∷ 0 ∷ 0 ∷ 0 ∷ 0 ∷ 0 ∷ 0 ∷ 0 ∷ 0 ∷ 0 ∷ 0xff ∷ 0xff ∷ 0 ∷ 0 ∷ 0 ∷ 1
      ∷ 0 ∷ 0 ∷ 0 ∷ 5 ∷ 0 ∷ 0 ∷ 0 ∷ 7 ∷ 0 ∷ 0 ∷ 0 ∷ 16 ∷ 0 ∷ 0 ∷ 0 ∷ 16
      ∷ 0 ∷ 0 ∷ 0 ∷ 0 ∷ 0 ∷ 0 ∷ 0 ∷ 0 ∷ 0 ∷ 0 ∷ 0 ∷ 0 ∷ 0x88 ∷ 0xf7 ∷ 0x21 ∷ 0x22 ∷ []
  -- the files above, of their fields and packets
  pub other : file_in (form false 1000) (record { zone = 0x01020304; accuracy = 0x05060708; snapshot = 0x090a0b0c })
      (record { seconds = 16909060; fraction = 723981; original = 2; octets = three } ∷ [])
      ≡ one_big_micro
  pub other_little : file_in (form true 1) (record { zone = 0x04030201; accuracy = 0x08070605; snapshot = 0x0c0b0a09 })
      (record { seconds = 16909060; fraction = 168496141; original = 2; octets = three } ∷ [])
      ≡ one_little_nano

pub writing : Writing
unfolding packets_in
writing = record { ours = refl; other = refl; other_little = refl }
