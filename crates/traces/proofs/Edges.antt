-- A block written out octet by octet, all of its values different and its check worked out by hand, and what the four tests say of it and of
-- its like. A place, a size, a limit or an order that is changed breaks a table, also where definition and code are changed alike.
use Rattle.std.specs.Prelude.{Result, Ok, Err}
use Prim.Native.Nat.{ℕ}
use mathlib.Core.Path.{◌≡◌, refl}
use mathlib.Core.List.{List, [], ◌∷◌, ◌++◌, map}
use lib.ListN.{take, set, replicate}
use Rattle.refusal.specs.Choice.{refuse}
use Rattle.octets.specs.Be.{be}
use Rattle.block.specs.Layout.{Entry, entries_from, entries_of}
use Rattle.block.specs.Check.{sum_from, is_checked}
use Rattle.judging.specs.Tests.{all_zero, laid_from, is_laid, is_in_order, last_of, verdict_of}
use Rattle.block.specs.Making.{sealed, added_to, opened_of, entries_octets, sizes_of, block_of}
use Rattle.judging.specs.declared.Reader.{Reader}
use Rattle.judging.specs.declared.Flaw.{Flaw}
use Rattle.judging.specs.declared.Flaw.TheVariants.{Check, Layout, Number, Time}

abbrev entry : Entry
entry = record { time = 0x1112131415161718; port = 7; message = 0x21 ∷ 0x22 ∷ 0x23 ∷ [] }

-- "check 0-1, block number 2-5, first record's time 6-13, record count 14-15, records from 16 on (time 8, port 1, length 2, message), rest zero".
-- The words behind the check add up to 0xD0F3: 0x0102 + 0x0304 + twice 0x1112 + 0x1314 + 0x1516 + 0x1718, 0x0001, 0x0700 + 0x0321 + 0x2223
abbrev one : List ℕ
one =
    0x2F ∷ 0x0C
    ∷ 0x01 ∷ 0x02 ∷ 0x03 ∷ 0x04
    ∷ 0x11 ∷ 0x12 ∷ 0x13 ∷ 0x14 ∷ 0x15 ∷ 0x16 ∷ 0x17 ∷ 0x18
    ∷ 0x00 ∷ 0x01
    ∷ 0x11 ∷ 0x12 ∷ 0x13 ∷ 0x14 ∷ 0x15 ∷ 0x16 ∷ 0x17 ∷ 0x18
    ∷ 0x07
    ∷ 0x00 ∷ 0x03
    ∷ 0x21 ∷ 0x22 ∷ 0x23
    ∷ replicate 482 0

-- it with another check, and with another octet besides
abbrev under : ℕ → ℕ → List ℕ → List ℕ
under c d s = set (set s 0 c) 1 d

abbrev mended : ℕ → ℕ → ℕ → ℕ → List ℕ
mended i x c d = under c d (set one i x)

abbrev reader : ℕ → ℕ → Reader
reader next last = record { next = next; last = last }

-- by a reader that has read nothing, and what it keeps of the block
abbrev first : List ℕ → Result Reader Flaw
first = verdict_of (reader 0 0)

abbrev kept : Result Reader Flaw
kept = Ok (reader 0x01020305 0x1112131415161718)

-- ---- made, and read
pub record One : Type 0 where
  pub made : block_of 0x01020304 (entry ∷ []) ≡ one
  pub in_steps : sealed (added_to (opened_of 0x01020304 0x1112131415161718) 16 entry) ≡ one
  pub read : entries_of one ≡ entry ∷ []
  pub sound : first one ≡ kept

pub one_block : One
unfolding verdict_of refuse is_checked sum_from be is_laid laid_from all_zero is_in_order last_of entries_from sealed added_to entries_octets sizes_of
one_block = record { made = refl; in_steps = refl; read = refl; sound = refl }

-- ---- check
pub record Checks : Type 0 where
  -- its octets exchanged; none
  pub wrong : map first (under 0x0C 0x2F one ∷ under 0 0 one ∷ []) ≡ Err Check ∷ Err Check ∷ []
  -- with 0x3210 for 0x0304 the other words add up to 65,535: the check is 65,535, and 0 is none
  pub most : block_of 0x01023210 (entry ∷ []) ≡ under 0xFF 0xFF (set (set one 4 0x32) 5 0x10)
  pub not_zero : first (under 0 0 (set (set one 4 0x32) 5 0x10)) ≡ Err Check
  -- 512 zeros; 512 times 255, whose check is right
  pub blank : map first (replicate 512 0 ∷ replicate 512 255 ∷ []) ≡ Err Check ∷ Err Layout ∷ []

pub checks : Checks
unfolding verdict_of refuse is_checked sum_from be is_laid laid_from sealed entries_octets sizes_of
checks = record { wrong = refl; most = refl; not_zero = refl; blank = refl }

-- ---- layout: each with its check mended
abbrev long : ℕ → List ℕ
long x = set (set one 25 0x01) 26 x

pub record Layouts : Type 0 where
  -- "512 octets": one less, one more, none
  pub sizes : map first (take 511 one ∷ (one ++ 0 ∷ []) ∷ [] ∷ []) ≡ Err Layout ∷ Err Layout ∷ Err Layout ∷ []
  -- "first record's time": one later than the record's
  pub time : first (mended 13 0x19 0x2F 0x0B) ≡ Err Layout
  -- "record count", "at least one": none, and two, of which the second has port 0
  pub counts : map first (mended 15 0 0x2F 0x0D ∷ mended 15 2 0x2F 0x0B ∷ []) ≡ Err Layout ∷ Err Layout ∷ []
  -- "ports of 1 to 18": 0, 1, 18, 19
  pub ports : map first (mended 24 0 0x36 0x0C ∷ mended 24 1 0x35 0x0C ∷ mended 24 18 0x24 0x0C ∷ mended 24 19 0x23 0x0C ∷ [])
      ≡ Err Layout ∷ kept ∷ kept ∷ Err Layout ∷ []
  -- "lengths up to 485", "rest zero": 2, so that the rest begins with 0x23; 485; 486
  pub lengths : map first (mended 26 2 0x30 0x0C ∷ under 0x4D 0x0A (long 0xE5) ∷ under 0x4C 0x0A (long 0xE6) ∷ []) ≡ Err Layout ∷ kept ∷ Err Layout ∷ []
  -- "whole records": 485 octets, and one record more behind the end
  pub behind : first (under 0x4D 0x09 (set (long 0xE5) 15 2)) ≡ Err Layout
  -- the last octet is 1
  pub rest : first (mended 511 1 0x2F 0x0B) ≡ Err Layout

pub layouts : Layouts
unfolding verdict_of refuse is_checked sum_from be is_laid laid_from all_zero is_in_order last_of entries_from
layouts = record { sizes = refl; time = refl; counts = refl; ports = refl; lengths = refl; behind = refl; rest = refl }

-- ---- number and time
abbrev heard : ℕ → ℕ → Entry
heard t port = record { time = t; port = port; message = 0x21 ∷ [] }

pub record Orders : Type 0 where
  -- "Block numbers rise strictly": the block before had the number below, and the same
  pub numbers : map (λ (next : ℕ). verdict_of (reader next 0) one) (0x01020304 ∷ 0x01020305 ∷ []) ≡ kept ∷ Err Number ∷ []
  -- "times never fall along the trace": the last time before is the same, and one later
  pub lasts : map (λ (last : ℕ). verdict_of (reader 0 last) one) (0x1112131415161718 ∷ 0x1112131415161719 ∷ []) ≡ kept ∷ Err Time ∷ []
  -- two records, the second later than the first, and earlier
  pub inside : map (λ (t : ℕ). verdict_of (reader 40 49) (block_of 41 (heard 50 3 ∷ heard t 2 ∷ []))) (51 ∷ 49 ∷ []) ≡ Ok (reader 42 51) ∷ Err Time ∷ []

pub orders : Orders
unfolding verdict_of refuse is_checked sum_from be is_laid laid_from all_zero is_in_order last_of entries_from sealed entries_octets sizes_of
orders = record { numbers = refl; lasts = refl; inside = refl }

-- ---- "checked in that order"
abbrev late : List ℕ → Result Reader Flaw
late = verdict_of (reader 0x01020305 0x1112131415161719)

pub in_order : map late (under 0 0 (set one 511 1) ∷ mended 511 1 0x2F 0x0B ∷ one ∷ []) ≡ Err Check ∷ Err Layout ∷ Err Number ∷ []
unfolding verdict_of refuse is_checked sum_from be is_laid laid_from all_zero
in_order = refl
