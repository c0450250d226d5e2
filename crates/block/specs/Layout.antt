-- A block of a trace, as it is read (02, (iv): "Record messages in blocks of 512 octets: check 0-1, block number 2-5, first record's time
-- 6-13, record count 14-15, records from 16 on (time 8, port 1, length 2, message), rest zero. Numbers are big-endian").
-- An octet past the end of a block counts as 0, so that these are defined of any octets; what a block has to be is in Tests.antt.
use Rattle.std.specs.Prelude.{ℕ, zero, suc, ◌+◌, List, [], ◌∷◌, get_or, take, drop}
use Rattle.octets.specs.Be.{be}

-- "512 octets"; "records from 16 on"; "time 8, port 1, length 2": what stands before the message of a record; "lengths up to 485", which is
-- what a block has room for
abbrev pub block_octets : ℕ
block_octets = 512

abbrev pub records_at : ℕ
records_at = 16

abbrev pub head_octets : ℕ
head_octets = 11

abbrev pub longest : ℕ
longest = 485

-- a record: a message with the time and the port of its arrival
pub record Entry : Type 0 where
  pub time : ℕ
  pub port : ℕ
  pub message : List ℕ

-- "check 0-1, block number 2-5, first record's time 6-13, record count 14-15"
abbrev pub check_of : List ℕ → ℕ
check_of s = be 2 s 0

abbrev pub number_of : List ℕ → ℕ
number_of s = be 4 s 2

abbrev pub first_time_of : List ℕ → ℕ
first_time_of s = be 8 s 6

abbrev pub count_of : List ℕ → ℕ
count_of s = be 2 s 14

-- "time 8, port 1, length 2, message": a record that begins at an octet, and where it ends
abbrev pub time_at : List ℕ → ℕ → ℕ
time_at s at = be 8 s at

abbrev pub port_at : List ℕ → ℕ → ℕ
port_at s at = get_or s (at + 8) 0

abbrev pub length_at : List ℕ → ℕ → ℕ
length_at s at = be 2 s (at + 9)

abbrev pub message_at : List ℕ → ℕ → List ℕ
message_at s at = take (length_at s at) (drop (at + head_octets) s)

abbrev pub entry_at : List ℕ → ℕ → Entry
entry_at s at = record { time = time_at s at; port = port_at s at; message = message_at s at }

abbrev pub end_at : List ℕ → ℕ → ℕ
end_at s at = at + (head_octets + length_at s at)

-- so many records, one behind the other
unfoldable pub entries_from : ℕ → List ℕ → ℕ → List Entry
entries_from zero s at = []
entries_from (suc n) s at = entry_at s at ∷ entries_from n s (end_at s at)

-- the records of a block
abbrev pub entries_of : List ℕ → List Entry
entries_of s = entries_from (count_of s) s records_at
