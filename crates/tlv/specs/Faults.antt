-- What a walk looks for, and the faults of a tail (01, "Numbers that refuse", 6 and 7).
use Rattle.std.specs.Prelude.{ℕ, List, Bool, true, false, ◌&&◌, length, eqb, ltb, Option, Some, None, Result, Ok, Err}
use Rattle.refusal.specs.Choice.{pick}
use Rattle.tlv.specs.Walk.{type_at, broken, first}
use Rattle.tlv.specs.Form.{misfit_at, suffix_at, link_at}
use Rattle.tlv.specs.declared.walk.Sought.{Sought}
use Rattle.tlv.specs.declared.walk.Sought.TheVariants.{OfType, Suffix, Link}
use Rattle.tlv.specs.declared.walk.Fault.{Fault}
use Rattle.tlv.specs.declared.walk.Fault.TheVariants as fault

-- what a walk looks for
abbrev pub sought_at : Sought → List ℕ → ℕ → Bool
sought_at (OfType kind) t p = eqb (type_at t p) kind
sought_at (Suffix magic) t p = suffix_at magic t p
sought_at (Link magic) t p = link_at magic t p

-- "whole TLVs of even length"
abbrev pub whole : List ℕ → Bool
whole t = eqb (broken t 0) (length t)

-- where the first misfit stands, the end where there is none
abbrev pub misfit : ℕ → List ℕ → ℕ → ℕ
misfit magic t p = first (misfit_at magic t) t p

-- "6, 7", with the place "of the first TLV with that fault or of a leftover of one to three octets"
unfoldable pub fault_of : ℕ → List ℕ → Result (Unit {0}) Fault
fault_of magic t =
    pick (whole t)
    (pick (eqb (misfit magic t 0) (length t)) (Ok tt) (Err (fault.Misfit (misfit magic t 0))))
    (Err (fault.Broken (broken t 0)))

abbrev pub is_fault : Result (Unit {0}) Fault → Bool
is_fault (Ok tt) = false
is_fault (Err (fault.Broken p)) = true
is_fault (Err (fault.Misfit p)) = true

-- nothing is wrong with a tail
unfoldable pub is_sound : ℕ → List ℕ → Bool
is_sound magic t = whole t && eqb (misfit magic t 0) (length t)

-- where the first TLV that passes a test stands in such a tail
unfoldable pub sound_of : ℕ → (ℕ → Bool) → List ℕ → Option ℕ
sound_of magic test t =
    pick (whole t)
    (pick (eqb (misfit magic t 0) (length t)) (Some (first test t 0)) None)
    None

-- ---- WHAT ONLY THE CODE NEEDS: steps on the way to the answers above, and no rule of 01

-- the first place so far that passed a test, with p looked at too
abbrev pub later_of : ℕ → ℕ → ℕ → Bool → ℕ
later_of end so_far p passes = pick (ltb so_far end) so_far (pick passes p so_far)
