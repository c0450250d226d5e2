-- Captures written out octet by octet, all of their values different, and what is read from them. A place, a size, a limit or an order that is changed breaks a
-- table, also where definition and code are changed alike.
use Rattle.std.specs.Prelude.{Ok}
use Prim.Native.Nat.{ℕ, ◌+◌}
use mathlib.Core.Path.{◌≡◌, refl}
use mathlib.Core.List.{List, [], ◌∷◌, ◌++◌, map}
use mathlib.Core.Bool.{true, false}
use lib.ListN.{take, drop, replicate}
use Rattle.refusal.specs.Choice.{refuse}
use Rattle.octets.specs.Be.{be}
use Rattle.block.specs.Layout.{Entry}
use Rattle.block.specs.Making.{added_to, sealed}
use Rattle.recording.specs.Recording.{entry_of, check_by}
use Rattle.traces.specs.Taped.{taped_all}
use Rattle.writer.specs.Writing.{written_code}
use Rattle.pcap.specs.Form.{low, form_of}
use Rattle.pcap.specs.File.{is_head, is_packet_head, is_packet, rests_from, are_packets, is_capture}
use Rattle.importing.specs.Importing.{is_ptp, taken_of, records_check, records_in, import_of}

-- ---- THE FRAMES, before what follows: two addresses, the EtherType, what it carries
-- EtherType 0x88F7, and a message of three octets
abbrev ptp : List ℕ → List ℕ
ptp rest = 0x31 ∷ 0x32 ∷ 0x33 ∷ 0x34 ∷ 0x35 ∷ 0x36 ∷ 0x37 ∷ 0x38 ∷ 0x39 ∷ 0x3A ∷ 0x3B ∷ 0x3C ∷ 0x88 ∷ 0xF7 ∷ 0x41 ∷ 0x42 ∷ 0x43 ∷ rest

-- another EtherType
abbrev other : List ℕ → List ℕ
other rest = 0x51 ∷ 0x52 ∷ 0x53 ∷ 0x54 ∷ 0x55 ∷ 0x56 ∷ 0x57 ∷ 0x58 ∷ 0x59 ∷ 0x5A ∷ 0x5B ∷ 0x5C ∷ 0x08 ∷ 0x00 ∷ 0x5D ∷ 0x5E ∷ rest

-- 13 octets
abbrev short : List ℕ → List ℕ
short rest = 0x61 ∷ 0x62 ∷ 0x63 ∷ 0x64 ∷ 0x65 ∷ 0x66 ∷ 0x67 ∷ 0x68 ∷ 0x69 ∷ 0x6A ∷ 0x6B ∷ 0x6C ∷ 0x88 ∷ rest

-- 0x88F7, and nothing behind it
abbrev bare : List ℕ → List ℕ
bare rest = 0x71 ∷ 0x72 ∷ 0x73 ∷ 0x74 ∷ 0x75 ∷ 0x76 ∷ 0x77 ∷ 0x78 ∷ 0x79 ∷ 0x7A ∷ 0x7B ∷ 0x7C ∷ 0x88 ∷ 0xF7 ∷ rest

-- a VLAN tag, and 0x88F7 behind that
abbrev tagged : List ℕ → List ℕ
tagged rest = 0x81 ∷ 0x82 ∷ 0x83 ∷ 0x84 ∷ 0x85 ∷ 0x86 ∷ 0x87 ∷ 0x88 ∷ 0x89 ∷ 0x8A ∷ 0x8B ∷ 0x8C ∷ 0x81 ∷ 0x00 ∷ 0x8D ∷ 0x8E ∷ 0x88 ∷ 0xF7 ∷ 0x8F ∷ rest

-- 0x88F7, and more octets stored than the frame had
abbrev padded : List ℕ → List ℕ
padded rest = 0x91 ∷ 0x92 ∷ 0x93 ∷ 0x94 ∷ 0x95 ∷ 0x96 ∷ 0x97 ∷ 0x98 ∷ 0x99 ∷ 0x9A ∷ 0x9B ∷ 0x9C ∷ 0x88 ∷ 0xF7 ∷ 0x9D ∷ 0x9E ∷ rest

-- ---- THE PACKETS: seconds, fraction, octets stored, octets that the frame had, the frame; the highest octet of a number first, and the lowest
abbrev big : List ℕ
big =
    0x00 ∷ 0x01 ∷ 0x02 ∷ 0x03 ∷ 0x00 ∷ 0x04 ∷ 0x05 ∷ 0x06 ∷ 0x00 ∷ 0x00 ∷ 0x00 ∷ 0x11 ∷ 0x00 ∷ 0x00 ∷ 0x00 ∷ 0x11 ∷ ptp
    (0x00 ∷ 0x00 ∷ 0x00 ∷ 0x07 ∷ 0x00 ∷ 0x00 ∷ 0x00 ∷ 0x08 ∷ 0x00 ∷ 0x00 ∷ 0x00 ∷ 0x10 ∷ 0x00 ∷ 0x00 ∷ 0x00 ∷ 0x10 ∷ other
    (0x00 ∷ 0x01 ∷ 0x02 ∷ 0x04 ∷ 0x00 ∷ 0x09 ∷ 0x0A ∷ 0x0B ∷ 0x00 ∷ 0x00 ∷ 0x00 ∷ 0x0D ∷ 0x00 ∷ 0x00 ∷ 0x00 ∷ 0x0D ∷ short
    (0x00 ∷ 0x01 ∷ 0x02 ∷ 0x05 ∷ 0x00 ∷ 0x0C ∷ 0x0D ∷ 0x0E ∷ 0x00 ∷ 0x00 ∷ 0x00 ∷ 0x0E ∷ 0x00 ∷ 0x00 ∷ 0x00 ∷ 0x0E ∷ bare
    (0x00 ∷ 0x01 ∷ 0x02 ∷ 0x06 ∷ 0x00 ∷ 0x00 ∷ 0x0F ∷ 0x10 ∷ 0x00 ∷ 0x00 ∷ 0x00 ∷ 0x13 ∷ 0x00 ∷ 0x00 ∷ 0x00 ∷ 0x13 ∷ tagged
    (0xFE ∷ 0x02 ∷ 0x03 ∷ 0x04 ∷ 0x00 ∷ 0x01 ∷ 0x11 ∷ 0x12 ∷ 0x00 ∷ 0x00 ∷ 0x00 ∷ 0x10 ∷ 0x00 ∷ 0x00 ∷ 0x00 ∷ 0x0F ∷ padded [])))))

abbrev little : List ℕ
little =
    0x03 ∷ 0x02 ∷ 0x01 ∷ 0x00 ∷ 0x06 ∷ 0x05 ∷ 0x04 ∷ 0x00 ∷ 0x11 ∷ 0x00 ∷ 0x00 ∷ 0x00 ∷ 0x11 ∷ 0x00 ∷ 0x00 ∷ 0x00 ∷ ptp
    (0x07 ∷ 0x00 ∷ 0x00 ∷ 0x00 ∷ 0x08 ∷ 0x00 ∷ 0x00 ∷ 0x00 ∷ 0x10 ∷ 0x00 ∷ 0x00 ∷ 0x00 ∷ 0x10 ∷ 0x00 ∷ 0x00 ∷ 0x00 ∷ other
    (0x04 ∷ 0x02 ∷ 0x01 ∷ 0x00 ∷ 0x0B ∷ 0x0A ∷ 0x09 ∷ 0x00 ∷ 0x0D ∷ 0x00 ∷ 0x00 ∷ 0x00 ∷ 0x0D ∷ 0x00 ∷ 0x00 ∷ 0x00 ∷ short
    (0x05 ∷ 0x02 ∷ 0x01 ∷ 0x00 ∷ 0x0E ∷ 0x0D ∷ 0x0C ∷ 0x00 ∷ 0x0E ∷ 0x00 ∷ 0x00 ∷ 0x00 ∷ 0x0E ∷ 0x00 ∷ 0x00 ∷ 0x00 ∷ bare
    (0x06 ∷ 0x02 ∷ 0x01 ∷ 0x00 ∷ 0x10 ∷ 0x0F ∷ 0x00 ∷ 0x00 ∷ 0x13 ∷ 0x00 ∷ 0x00 ∷ 0x00 ∷ 0x13 ∷ 0x00 ∷ 0x00 ∷ 0x00 ∷ tagged
    (0x04 ∷ 0x03 ∷ 0x02 ∷ 0xFE ∷ 0x12 ∷ 0x11 ∷ 0x01 ∷ 0x00 ∷ 0x10 ∷ 0x00 ∷ 0x00 ∷ 0x00 ∷ 0x0F ∷ 0x00 ∷ 0x00 ∷ 0x00 ∷ padded [])))))

-- ---- THE HEADS: "magic 0xa1b2c3d4 (microseconds) or 0xa1b23c4d (nanoseconds) in either octet order, version 2.4, link type 1"; zone, accuracy and snapshot
-- length, which are not looked at, are 0x11121314, 0x15161718 and 0x191A1B1C
abbrev big_micros : List ℕ → List ℕ
big_micros rest = 0xA1 ∷ 0xB2 ∷ 0xC3 ∷ 0xD4 ∷ 0x00 ∷ 0x02 ∷ 0x00 ∷ 0x04 ∷ 0x11 ∷ 0x12 ∷ 0x13 ∷ 0x14 ∷ 0x15 ∷ 0x16 ∷ 0x17 ∷ 0x18 ∷ 0x19 ∷ 0x1A ∷ 0x1B ∷ 0x1C ∷ 0x00 ∷ 0x00 ∷ 0x00 ∷ 0x01 ∷ rest

abbrev little_micros : List ℕ → List ℕ
little_micros rest = 0xD4 ∷ 0xC3 ∷ 0xB2 ∷ 0xA1 ∷ 0x02 ∷ 0x00 ∷ 0x04 ∷ 0x00 ∷ 0x14 ∷ 0x13 ∷ 0x12 ∷ 0x11 ∷ 0x18 ∷ 0x17 ∷ 0x16 ∷ 0x15 ∷ 0x1C ∷ 0x1B ∷ 0x1A ∷ 0x19 ∷ 0x01 ∷ 0x00 ∷ 0x00 ∷ 0x00 ∷ rest

abbrev big_nanos : List ℕ → List ℕ
big_nanos rest = 0xA1 ∷ 0xB2 ∷ 0x3C ∷ 0x4D ∷ 0x00 ∷ 0x02 ∷ 0x00 ∷ 0x04 ∷ 0x11 ∷ 0x12 ∷ 0x13 ∷ 0x14 ∷ 0x15 ∷ 0x16 ∷ 0x17 ∷ 0x18 ∷ 0x19 ∷ 0x1A ∷ 0x1B ∷ 0x1C ∷ 0x00 ∷ 0x00 ∷ 0x00 ∷ 0x01 ∷ rest

abbrev little_nanos : List ℕ → List ℕ
little_nanos rest = 0x4D ∷ 0x3C ∷ 0xB2 ∷ 0xA1 ∷ 0x02 ∷ 0x00 ∷ 0x04 ∷ 0x00 ∷ 0x14 ∷ 0x13 ∷ 0x12 ∷ 0x11 ∷ 0x18 ∷ 0x17 ∷ 0x16 ∷ 0x15 ∷ 0x1C ∷ 0x1B ∷ 0x1A ∷ 0x19 ∷ 0x01 ∷ 0x00 ∷ 0x00 ∷ 0x00 ∷ rest

-- ---- THE RECORDS: those of the first, fourth and last frame. The seconds are 66051, 66053 and 4261544708, the counts of their fractions 263430, 789774 and
-- 69906
abbrev by_micros : List Entry
by_micros = entry_of 66051263430000 3 (0x41 ∷ 0x42 ∷ 0x43 ∷ []) ∷ entry_of 66053789774000 3 [] ∷ entry_of 4261544708069906000 3 (0x9D ∷ 0x9E ∷ []) ∷ []

abbrev by_nanos : List Entry
by_nanos = entry_of 66051000263430 3 (0x41 ∷ 0x42 ∷ 0x43 ∷ []) ∷ entry_of 66053000789774 3 [] ∷ entry_of 4261544708000069906 3 (0x9D ∷ 0x9E ∷ []) ∷ []

pub record Records : Type 0 where
  pub big_micros_lem : records_in 3 (big_micros big) ≡ by_micros
  pub little_micros_lem : records_in 3 (little_micros little) ≡ by_micros
  pub big_nanos_lem : records_in 3 (big_nanos big) ≡ by_nanos
  pub little_nanos_lem : records_in 3 (little_nanos little) ≡ by_nanos

pub records : Records
unfolding be low form_of rests_from is_ptp taken_of
records = record { big_micros_lem = refl; little_micros_lem = refl; big_nanos_lem = refl; little_nanos_lem = refl }

-- ---- WHAT IS NO CAPTURE
-- a head by the minor version's last octet and the link type's first one; a packet by its fraction, its two lengths and its frame; the highest octet first
abbrev headed : ℕ → ℕ → List ℕ → List ℕ
headed minor link rest =
    0xA1 ∷ 0xB2 ∷ 0xC3 ∷ 0xD4 ∷ 0x00 ∷ 0x02 ∷ 0x00 ∷ minor ∷ 0x11 ∷ 0x12 ∷ 0x13 ∷ 0x14 ∷ 0x15 ∷ 0x16 ∷ 0x17 ∷ 0x18 ∷ 0x19 ∷ 0x1A ∷ 0x1B ∷ 0x1C ∷ link ∷ 0x00 ∷ 0x00 ∷ 0x01 ∷ rest

abbrev packet : List ℕ → ℕ → ℕ → List ℕ → List ℕ
packet fraction stored original frame =
    0x00 ∷ 0x01 ∷ 0x02 ∷ 0x03 ∷ fraction ++ (0x00 ∷ 0x00 ∷ 0x00 ∷ stored ∷ 0x00 ∷ 0x00 ∷ 0x00 ∷ original ∷ frame)

-- 999,999 and a whole second; 999,999,999 and a whole second
abbrev last_micro : List ℕ
last_micro = 0x00 ∷ 0x0F ∷ 0x42 ∷ 0x3F ∷ []

abbrev whole_micros : List ℕ
whole_micros = 0x00 ∷ 0x0F ∷ 0x42 ∷ 0x40 ∷ []

abbrev last_nano : List ℕ
last_nano = 0x3B ∷ 0x9A ∷ 0xC9 ∷ 0xFF ∷ []

abbrev whole_nanos : List ℕ
whole_nanos = 0x3B ∷ 0x9A ∷ 0xCA ∷ 0x00 ∷ []

pub record Captures : Type 0 where
  pub forms : map is_capture (big_micros big ∷ little_micros little ∷ big_nanos big ∷ little_nanos little ∷ []) ≡ true ∷ true ∷ true ∷ true ∷ []
  -- no packet at all; "a wrong head": one octet less, another magic, version 2.3
  pub empty : is_capture (headed 4 0 []) ≡ true
  pub cut_head : is_capture (take 23 (headed 4 0 [])) ≡ false
  pub magic : is_capture (0xA1 ∷ 0xB2 ∷ 0xC3 ∷ 0xD5 ∷ drop 4 (headed 4 0 [])) ≡ false
  pub version : is_capture (headed 3 0 []) ≡ false
  -- "link type": 0x10000001
  pub link : is_capture (headed 4 0x10 []) ≡ false
  -- "fraction": of a second or more
  pub micros : is_capture (headed 4 0 (packet last_micro 14 14 (bare []))) ≡ true
  pub many_micros : is_capture (headed 4 0 (packet whole_micros 14 14 (bare []))) ≡ false
  pub nanos : is_capture (big_nanos (packet last_nano 14 14 (bare []))) ≡ true
  pub many_nanos : is_capture (big_nanos (packet whole_nanos 14 14 (bare []))) ≡ false
  -- "stored short": fewer octets than the frame had, also where the frame is passed over; more of them are none
  pub stored_short : is_capture (headed 4 0 (packet last_micro 14 15 (bare []))) ≡ false
  pub other_short : is_capture (headed 4 0 (packet last_micro 16 17 (other []))) ≡ false
  pub stored_more : is_capture (headed 4 0 (packet last_micro 14 13 (bare []))) ≡ true
  -- "running past the file": by one octet; a loose octet at the end, which is no packet's head
  pub past : is_capture (headed 4 0 (packet last_micro 15 15 (bare []))) ≡ false
  pub loose : is_capture (headed 4 0 (packet last_micro 14 14 (bare (0x00 ∷ [])))) ≡ false

pub captures : Captures
unfolding be low form_of is_head rests_from is_packet_head is_packet are_packets
captures =
    record {
      forms = refl;
      empty = refl;
      cut_head = refl;
      magic = refl;
      version = refl;
      link = refl;
      micros = refl;
      many_micros = refl;
      nanos = refl;
      many_nanos = refl;
      stored_short = refl;
      other_short = refl;
      stored_more = refl;
      past = refl;
      loose = refl;
    }

-- ---- WITH WHICH NUMBER
-- a packet at a second, of a message of n octets, n below 242; the longest message and one octet more
abbrev heard : ℕ → ℕ → List ℕ → List ℕ
heard second n rest =
    0x00 ∷ 0x00 ∷ 0x00 ∷ second ∷ 0x00 ∷ 0x00 ∷ 0x00 ∷ 0x00 ∷ 0x00 ∷ 0x00 ∷ 0x00 ∷ (14 + n) ∷ 0x00 ∷ 0x00 ∷ 0x00 ∷ (14 + n) ∷ bare (replicate n 7 ++ rest)

abbrev longest : List ℕ → List ℕ
longest rest = 0x00 ∷ 0x00 ∷ 0x00 ∷ 5 ∷ 0x00 ∷ 0x00 ∷ 0x00 ∷ 0x00 ∷ 0x00 ∷ 0x00 ∷ 0x01 ∷ 0xF3 ∷ 0x00 ∷ 0x00 ∷ 0x01 ∷ 0xF3 ∷ bare (replicate 485 7 ++ rest)

abbrev longer : List ℕ → List ℕ
longer rest = 0x00 ∷ 0x00 ∷ 0x00 ∷ 5 ∷ 0x00 ∷ 0x00 ∷ 0x00 ∷ 0x00 ∷ 0x00 ∷ 0x00 ∷ 0x01 ∷ 0xF4 ∷ 0x00 ∷ 0x00 ∷ 0x01 ∷ 0xF4 ∷ bare (replicate 486 7 ++ rest)

-- "21 PCAP, ..; then 8, then what recording gives the first frame it refuses; .. last .. 16": a file of which all hold, and one after another no more
pub record Numbers : Type 0 where
  pub pcap : written_code (import_of 0 19 (headed 4 0 (heard 9 3 (longer (0x00 ∷ []))))) ≡ 21
  pub port_19 : written_code (import_of 0 19 (headed 4 0 (heard 9 3 (longer [])))) ≡ 8
  pub port_0 : written_code (import_of 0 0 (headed 4 0 (heard 9 3 (longer [])))) ≡ 8
  pub long : written_code (import_of 0 18 (headed 4 0 (heard 9 3 (longer (heard 8 3 []))))) ≡ 19
  pub backward : written_code (import_of 0 18 (headed 4 0 (heard 9 3 (heard 8 3 (longer []))))) ≡ 11
  pub room : written_code (import_of 511 18 (headed 4 0 (heard 9 3 (heard 9 3 [])))) ≡ 16
  pub read : import_of 512 18 (headed 4 0 (heard 9 3 (heard 9 3 []))) ≡ Ok 512
  -- the longest message fills a block
  pub two_blocks : import_of 1024 18 (headed 4 0 (longest (heard 5 0 []))) ≡ Ok 1024
  -- nothing is taken: no octet
  pub none : import_of 0 18 (headed 4 0 (packet last_micro 16 16 (other []))) ≡ Ok 0

pub numbers : Numbers
unfolding be low form_of is_head rests_from is_packet_head is_packet are_packets is_ptp taken_of check_by refuse records_check import_of taped_all added_to sealed
numbers =
    record { pcap = refl; port_19 = refl; port_0 = refl; long = refl; backward = refl; room = refl; read = refl; two_blocks = refl; none = refl }
