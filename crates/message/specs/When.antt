-- "Given exactly when" of the table (01, "Numbers that refuse"), with the order in which reading looks and the places of 02, (i): for each
-- number that the checks give, what the octets are like, 0 where nothing is refused. In proofs/Exactly.antt each answer of a call has its
-- line here, and each line that holds is the answer.
use Rattle.std.specs.Prelude.{ℕ, ◌+◌, ◌≤◌, ◌<◌, ◌≡◌, List, true, false, length}
use Rattle.refusal.specs.Refusal.{placed}
use Rattle.tlv.specs.Walk.{Reached, BreaksAt, FirstTlv, NoTlv}
use Rattle.tlv.specs.Form.{misfit_at}
use Rattle.message.specs.Fields.{type_of, version_of, length_of, fixed_size, tail_of}
use Rattle.message.specs.Reading.{bad_stamp}

-- the checks up to one of them are passed
abbrev pub HasHeader : List ℕ → Type 0
HasHeader s = 34 ≤ length s

abbrev pub IsTwo : List ℕ → Type 0
IsTwo s = HasHeader s × (version_of s ≡ 2)

abbrev pub IsListed : List ℕ → Type 0
IsListed s = IsTwo s × (fixed_size (type_of s) ≡ 0 → ⊥)

abbrev pub IsSized : List ℕ → Type 0
IsSized s = IsListed s × (fixed_size (type_of s) ≤ length_of s)

abbrev pub IsLent : List ℕ → Type 0
IsLent s = IsSized s × (length_of s ≤ length s)

abbrev pub IsStamped : List ℕ → Type 0
IsStamped s = IsLent s × (bad_stamp (type_of s) s ≡ false)

-- the walk comes to the end of the tail
abbrev pub IsWhole : List ℕ → Type 0
IsWhole s = IsStamped s × Reached (tail_of s) (length (tail_of s))

-- "Reading checks in this order: under 34 octets (1), 2, 3, 4, messageLength (1), 5, 6, 7."
pub data When (magic : ℕ) (s : List ℕ) : ℕ → Type 0 where
  -- "fewer than 34 octets lent"
  few : length s < 34 → When magic s 1
  -- "versionPTP is not 2"
  version : HasHeader s → (version_of s ≡ 2 → ⊥) → When magic s 2
  -- "message type not listed below"
  unlisted : IsTwo s → fixed_size (type_of s) ≡ 0 → When magic s 3
  -- "messageLength below the type's fixed size"
  below : IsListed s → length_of s < fixed_size (type_of s) → When magic s 4
  -- "or messageLength exceeds those lent"
  beyond : IsSized s → length s < length_of s → When magic s 1
  -- "a timestamp's nanoseconds are 1,000,000,000 or more"
  stamp : IsLent s → bad_stamp (type_of s) s ≡ true → When magic s 5
  -- "the tail is not whole TLVs of even length": the offset is that of what is none, and all before it are
  tlv : {p : ℕ} → IsStamped s → BreaksAt (tail_of s) p → When magic s (placed 6 (fixed_size (type_of s) + p))
  -- "a known WR message with a wrong data size": the offset is that of the first
  wrbad : {p : ℕ} → IsWhole s → FirstTlv (misfit_at magic (tail_of s)) (tail_of s) p → When magic s (placed 7 (fixed_size (type_of s) + p))
  -- nothing is refused
  sound : IsWhole s → NoTlv (misfit_at magic (tail_of s)) (tail_of s) → When magic s 0

-- a call that takes messages of one type: the reading checks, then 3 where the type is "not the one the call takes"
pub data TakesWhen (magic kind : ℕ) (s : List ℕ) : ℕ → Type 0 where
  unread : {n : ℕ} → When magic s n → 0 < n → TakesWhen magic kind s n
  other : When magic s 0 → (type_of s ≡ kind → ⊥) → TakesWhen magic kind s 3
  taken : When magic s 0 → type_of s ≡ kind → TakesWhen magic kind s 0
