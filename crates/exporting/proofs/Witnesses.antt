-- A trace and its capture written out octet by octet, all values different, and what is written and refused of its like. A place, an order, a number or a limit
-- that is changed breaks a line, also where definition and code are changed alike.
use Rattle.std.specs.Prelude.{Result, Ok, Err}
use Prim.Native.Nat.{ℕ}
use mathlib.Core.Path.{◌≡◌, refl}
use mathlib.Core.List.{List, [], ◌∷◌, ◌++◌, map}
use lib.ListN.{set, replicate}
use Rattle.refusal.specs.Choice.{refuse}
use Rattle.refusal.specs.declared.Refusal.TheVariants.{Block, Export, Room}
use Rattle.octets.specs.Be.{be}
use Rattle.block.specs.Layout.{Entry, entries_from}
use Rattle.block.specs.Check.{sum_from, is_checked}
use Rattle.block.specs.Making.{sealed, entries_octets, sizes_of, block_of}
use Rattle.block.proofs.Witnesses.{entry}
use Rattle.judging.specs.Tests.{all_zero, laid_from, is_laid, is_in_order, last_of, verdict_of}
use Rattle.playback.specs.Playback.{chunks, accepts_all, entries_of_all}
use Rattle.pcap.specs.Written.{packets_in}
use Rattle.exporting.specs.Exporting.{are_writable, export_of, out_after_export, export_block_of, reader_behind, packets_behind}
use Rattle.refusal.specs.declared.Refusal.{Refusal}

-- ---- ONE RECORD
-- block 9: four octets that arrived on port 3 at second 0x01020304, nanosecond 0x05060708, which is nanosecond 0x003C12B357CF2F08. The words behind the check add
-- up to 0x180DA
abbrev one : List ℕ
one =
    0x7F ∷ 0x24
    ∷ 0x00 ∷ 0x00 ∷ 0x00 ∷ 0x09
    ∷ 0x00 ∷ 0x3C ∷ 0x12 ∷ 0xB3 ∷ 0x57 ∷ 0xCF ∷ 0x2F ∷ 0x08
    ∷ 0x00 ∷ 0x01
    ∷ 0x00 ∷ 0x3C ∷ 0x12 ∷ 0xB3 ∷ 0x57 ∷ 0xCF ∷ 0x2F ∷ 0x08
    ∷ 0x03
    ∷ 0x00 ∷ 0x04
    ∷ 0x21 ∷ 0x22 ∷ 0x23 ∷ 0x24
    ∷ replicate 481 0

-- "We write nanosecond, big-endian, snapshot length 65,535, other fields and addresses zero": magic 4, version 2 and 2, zone 4, accuracy 4, snapshot length 4,
-- link type 4
abbrev head : List ℕ
head =
    0xA1 ∷ 0xB2 ∷ 0x3C ∷ 0x4D
    ∷ 0x00 ∷ 0x02 ∷ 0x00 ∷ 0x04
    ∷ 0x00 ∷ 0x00 ∷ 0x00 ∷ 0x00
    ∷ 0x00 ∷ 0x00 ∷ 0x00 ∷ 0x00
    ∷ 0x00 ∷ 0x00 ∷ 0xFF ∷ 0xFF
    ∷ 0x00 ∷ 0x00 ∷ 0x00 ∷ 0x01
    ∷ []

-- seconds 4, nanoseconds 4, octets stored 4, octets that the frame had 4; two addresses of six octets, EtherType 0x88F7, the message
abbrev packet : List ℕ
packet =
    0x01 ∷ 0x02 ∷ 0x03 ∷ 0x04
    ∷ 0x05 ∷ 0x06 ∷ 0x07 ∷ 0x08
    ∷ 0x00 ∷ 0x00 ∷ 0x00 ∷ 0x12
    ∷ 0x00 ∷ 0x00 ∷ 0x00 ∷ 0x12
    ∷ 0x00 ∷ 0x00 ∷ 0x00 ∷ 0x00 ∷ 0x00 ∷ 0x00
    ∷ 0x00 ∷ 0x00 ∷ 0x00 ∷ 0x00 ∷ 0x00 ∷ 0x00
    ∷ 0x88 ∷ 0xF7
    ∷ 0x21 ∷ 0x22 ∷ 0x23 ∷ 0x24
    ∷ []

-- sixty octets that are lent
abbrev lent : List ℕ
lent = replicate 60 0xEE

pub record One : Type 0 where
  pub answer : export_of 60 one ≡ Ok 58
  -- "octets past it stay"
  pub octets : out_after_export lent one ≡ head ++ packet ++ 0xEE ∷ 0xEE ∷ []
  -- just room enough, and one octet too little: then nothing has changed
  pub room : map (λ (n : ℕ). export_of n one) (58 ∷ 57 ∷ 0 ∷ []) ≡ Ok 58 ∷ Err Room ∷ Err Room ∷ []
  pub left : out_after_export (replicate 57 0xEE) one ≡ replicate 57 0xEE

pub one_record : One
unfolding export_of refuse are_writable packets_in chunks accepts_all entries_of_all verdict_of is_checked sum_from be is_laid laid_from all_zero is_in_order last_of entries_from
one_record = record { answer = refl; octets = refl; room = refl; left = refl }

-- the same block by itself: the next number, the last time and the port are kept
pub record Alone : Type 0 where
  pub answer : export_block_of (0 ∷ 0 ∷ 0 ∷ []) one ≡ Ok 34
  pub octets : packets_behind (0 ∷ 0 ∷ 0 ∷ []) (replicate 36 0xEE) one ≡ packet ++ 0xEE ∷ 0xEE ∷ []
  pub words : reader_behind (0 ∷ 0 ∷ 0 ∷ []) one ≡ 10 ∷ 0x003C12B357CF2F08 ∷ 3 ∷ []
  -- behind records of its port; of another one; behind block 9, by which 20 comes first
  pub behind : map (λ (rs : List ℕ). export_block_of rs one) ((9 ∷ 8 ∷ 3 ∷ []) ∷ (9 ∷ 8 ∷ 4 ∷ []) ∷ (10 ∷ 8 ∷ 4 ∷ []) ∷ []) ≡ Ok 34 ∷ Err Export ∷ Err Block ∷ []
  pub kept : map (λ (rs : List ℕ). reader_behind rs one) ((9 ∷ 8 ∷ 4 ∷ []) ∷ (10 ∷ 8 ∷ 4 ∷ []) ∷ []) ≡ (9 ∷ 8 ∷ 4 ∷ []) ∷ (10 ∷ 8 ∷ 4 ∷ []) ∷ []

pub one_block : Alone
unfolding export_block_of refuse are_writable packets_in verdict_of is_checked sum_from be is_laid laid_from all_zero is_in_order last_of entries_from
one_block = record { answer = refl; octets = refl; words = refl; behind = refl; kept = refl }

-- ---- NONE
pub record None : Type 0 where
  pub octets : out_after_export (replicate 25 0xEE) [] ≡ head ++ 0xEE ∷ []
  pub room : map (λ (n : ℕ). export_of n []) (24 ∷ 23 ∷ []) ≡ Ok 24 ∷ Err Room ∷ []

pub no_record : None
unfolding export_of refuse are_writable packets_in chunks accepts_all entries_of_all
no_record = record { octets = refl; room = refl }

-- ---- REFUSED
-- a block that was made of some records, into so much room
abbrev into : ℕ → List Entry → Result ℕ Refusal
into room es = export_of room (block_of 0 es)

pub record Limits : Type 0 where
  -- the last nanosecond of second 2^32 - 1, and the next one: "a time whose seconds exceed 32 bits"
  pub seconds : map (into 200) ((entry 4294967295999999999 3 [] ∷ []) ∷ (entry 4294967296000000000 3 [] ∷ []) ∷ []) ≡ Ok 54 ∷ Err Export ∷ []
  -- "mixes ports": none, in a block
  pub ports : map (into 200) ((entry 1 3 [] ∷ entry 2 3 [] ∷ []) ∷ (entry 1 3 [] ∷ entry 2 4 [] ∷ []) ∷ []) ≡ Ok 84 ∷ Err Export ∷ []
  -- in two blocks
  pub blocks : map (λ (p : ℕ). export_of 200 (block_of 0 (entry 1 3 [] ∷ []) ++ block_of 1 (entry 2 p [] ∷ []))) (3 ∷ 4 ∷ []) ≡ Ok 84 ∷ Err Export ∷ []
  -- 22 before 16, and 20 before both: another number after the check was made
  pub order : into 0 (entry 1 3 [] ∷ entry 2 4 [] ∷ []) ≡ Err Export
  pub first : export_of 0 (set (block_of 0 (entry 1 3 [] ∷ entry 2 4 [] ∷ [])) 5 1) ≡ Err Block

pub limits : Limits
unfolding export_of refuse are_writable packets_in chunks accepts_all entries_of_all verdict_of is_checked sum_from be is_laid laid_from all_zero is_in_order last_of entries_from sealed entries_octets sizes_of
limits = record { seconds = refl; ports = refl; blocks = refl; order = refl; first = refl }
