-- Reading: the checks in their order, and the message (01, "Numbers that refuse").
use Rattle.std.specs.Prelude.{ℕ, ◌+◌, ◌≤◌, ◌<◌, List, Bool, not, ◌&&◌, eqb, ltb, leb, length, Result, Ok, Err}
use Rattle.refusal.specs.Limits.{second_nanos}
use Rattle.octets.specs.Be.{be}
use Rattle.refusal.specs.Choice.{refuse}
use Rattle.refusal.specs.declared.Refusal.{Refusal}
use Rattle.refusal.specs.declared.Refusal.TheVariants.{Short, Version, «Type», Length, Stamp, Tlv, WrBad}
use Rattle.tlv.specs.Faults.{fault_of}
use Rattle.tlv.specs.declared.walk.Fault.{Fault}
use Rattle.tlv.specs.declared.walk.Fault.TheVariants as fault
use Rattle.message.specs.Fields.{type_of, version_of, length_of, fixed_size, message_of, tail_of}
use Rattle.message.specs.declared.fields.Message.{Message}
use Rattle.message.specs.declared.reading.Bounds.{Bounds}

-- "a timestamp's nanoseconds are 1,000,000,000 or more"; a Signaling has none
abbrev pub bad_stamp : ℕ → List ℕ → Bool
bad_stamp kind s = not (eqb kind 0xC) && leb second_nanos (be 4 s 40)

-- "each refusal 6 or 7, in every call, that of the first TLV with that fault or of a leftover of one to three octets": its offset
-- in the message, whose fixed part has `size` octets
abbrev pub fault_check : ℕ → Result (Unit {0}) Fault → Result (Unit {0}) Refusal
fault_check size (Ok tt) = Ok tt
fault_check size (Err (fault.Broken p)) = Err (Tlv (size + p))
fault_check size (Err (fault.Misfit p)) = Err (WrBad (size + p))

-- "Reading checks in this order: under 34 octets (1), 2, 3, 4, messageLength (1), 5": the checks before the tail's, and what comes
-- after them
abbrev pub headed : {A : Type 0} → (Refusal → A) → A → List ℕ → A
headed refused rest s =
    refuse (ltb (length s) 34) (refused Short)
    (refuse (not (eqb (version_of s) 2)) (refused Version)
    (refuse (eqb (fixed_size (type_of s)) 0) (refused «Type»)
    (refuse (ltb (length_of s) (fixed_size (type_of s))) (refused Length)
    (refuse (ltb (length s) (length_of s)) (refused Short)
    (refuse (bad_stamp (type_of s) s) (refused Stamp)
    rest)))))

-- the fixed size and messageLength
abbrev pub bounds_at : List ℕ → Bounds
bounds_at s = record { size = fixed_size (type_of s); length = length_of s }

-- those of octets that pass the checks before the tail's
unfoldable pub head_of : List ℕ → Result Bounds Refusal
head_of s = headed Err (Ok (bounds_at s)) s

-- "6, 7"
unfoldable pub check_of : ℕ → List ℕ → Result (Unit {0}) Refusal
check_of magic s = headed Err (fault_check (fixed_size (type_of s)) (fault_of magic (tail_of s))) s

-- what a call answers, by the checks: "A refusal returns its number alone.", but for 6 and 7
abbrev pub by : {A : Type 0} → Result (Unit {0}) Refusal → (Refusal → A) → A → A
by (Ok tt) refused a = a
by (Err x) refused a = refused x

-- the reading checks, then 3 where the message is "not the one the call takes"
unfoldable pub takes_of : ℕ → ℕ → List ℕ → Result (Unit {0}) Refusal
takes_of magic kind s =
    by (check_of magic s) Err (refuse (not (eqb (type_of s) kind)) (Err «Type») (Ok tt))

unfoldable pub read_of : ℕ → List ℕ → Result Message Refusal
read_of magic s = by (check_of magic s) Err (Ok (message_of s))

-- ---- WHAT ONLY THE CODE NEEDS: steps on the way to the answers above, and no rule of 01

-- the fault stands where an offset of two octets can say
abbrev pub IsPlaced : ℕ → Result (Unit {0}) Fault → Type 0
IsPlaced size (Ok tt) = Unit {0}
IsPlaced size (Err (fault.Broken p)) = size + p < 65536
IsPlaced size (Err (fault.Misfit p)) = size + p < 65536

-- the lengths of a message that was accepted
pub record Bounded (s : List ℕ) : Type 0 where
  pub header : 34 ≤ length s
  pub least : fixed_size (type_of s) ≤ length_of s
  pub lent : length_of s ≤ length s
