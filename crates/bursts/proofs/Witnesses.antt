-- Worked bursts, from octets to words, computed. They rule out one that takes nothing, answers nothing or stops at a refusal.
use mathlib.Core.Path.{◌≡◌, refl}
use mathlib.Core.List.{List, [], ◌∷◌, ◌++◌, map}
use Prim.Native.Nat.{ℕ}
use lib.ListN.{get_or, set, replicate}
use Rattle.octets.specs.Be.{be}
use Rattle.refusal.specs.Choice.{refuse}
use Rattle.refusal.specs.Refusal.{code_of}
use Rattle.tlv.specs.Walk as walk
use Rattle.tlv.specs.Faults.{fault_of}
use Rattle.tlv.specs.Wr.{suffix_in}
use Rattle.message.specs.Fields.{fixed_size, header_of, announce_of, identity_at, stamp_of}
use Rattle.message.specs.Reading.{check_of}
use Rattle.message.specs.Announced.{announced_of}
use Rattle.senders.specs.Port.{tab, first, plan_of}
use Rattle.slots.specs.Words.{record_of, words_of}
use Rattle.ports.specs.Intake.{admitted_of, plan_at}
use Rattle.ports.specs.Words.{all_words}
use Rattle.bursts.specs.Burst.{burst_check, burst_words, burst_rows}
use Rattle.ports.proofs.Witnesses.{ours, announce}

-- a clock that heard nothing; made one by one, which is computed faster than `fresh`
abbrev untold : List ℕ
untold = replicate all_words 0

-- an Announce, and behind it one of 66 octets whose last two are no TLV
abbrev ring : List ℕ
ring = announce 0 7 1 9 ++ (set (announce 0 8 1 9) 3 66 ++ (0 ∷ 0 ∷ []))

-- port, time, where it begins, how many octets: what each is answered stands in the next table
abbrev heap : List (List ℕ)
heap =
    (2 ∷ 5 ∷ 0 ∷ 64 ∷ 901 ∷ [])  -- new: taken
    ∷ (2 ∷ 6 ∷ 0 ∷ 65 ∷ 902 ∷ [])  -- the same again, one octet more lent: 12
    ∷ (3 ∷ 4 ∷ 0 ∷ 66 ∷ 903 ∷ [])  -- the same on another port, whose time is its own: taken
    ∷ (258 ∷ 7 ∷ 0 ∷ 67 ∷ 904 ∷ [])  -- 258 is no port, and not port 2: 8
    ∷ (2 ∷ 4 ∷ 0 ∷ 68 ∷ 905 ∷ [])  -- before port 2's last accepted time, which this burst set: 11
    ∷ (2 ∷ 8 ∷ 64 ∷ 69 ∷ 906 ∷ [])  -- 66 octets are there: 6, the two octets that are left over begin at 64
    ∷ (2 ∷ 9 ∷ 97 ∷ 70 ∷ 907 ∷ [])  -- 33 octets are there: 1
    ∷ (2 ∷ 10 ∷ 131 ∷ 71 ∷ 908 ∷ [])  -- begins past the end: 1
    ∷ (1 ∷ 11 ∷ 1 ∷ 64 ∷ 909 ∷ [])  -- begins one octet late: 2
    ∷ []

abbrev heap_answered : List (List ℕ)
heap_answered =
    (2 ∷ 5 ∷ 0 ∷ 64 ∷ 0 ∷ [])
    ∷ (2 ∷ 6 ∷ 0 ∷ 65 ∷ 12 ∷ [])
    ∷ (3 ∷ 4 ∷ 0 ∷ 66 ∷ 0 ∷ [])
    ∷ (258 ∷ 7 ∷ 0 ∷ 67 ∷ 8 ∷ [])
    ∷ (2 ∷ 4 ∷ 0 ∷ 68 ∷ 11 ∷ [])
    ∷ (2 ∷ 8 ∷ 64 ∷ 69 ∷ 16390 ∷ [])
    ∷ (2 ∷ 9 ∷ 97 ∷ 70 ∷ 1 ∷ [])
    ∷ (2 ∷ 10 ∷ 131 ∷ 71 ∷ 1 ∷ [])
    ∷ (1 ∷ 11 ∷ 1 ∷ 64 ∷ 2 ∷ [])
    ∷ []

pub burst_answered : burst_rows ours ring untold heap ≡ heap_answered
unfolding plan_at plan_of first tab record_of words_of admitted_of refuse announced_of check_of fault_of fixed_size be header_of announce_of identity_at stamp_of suffix_in walk.next_of walk.walk walk.walk_by
burst_answered = refl

-- the words after it: the last accepted times of ports 1 to 3, and the sender in slot 0 of port 2
pub burst_kept : map (λ i. get_or (burst_words ours ring untold heap) i 0) (0 ∷ 98 ∷ 100 ∷ 106 ∷ 196 ∷ 198 ∷ []) ≡ 0 ∷ 5 ∷ 7 ∷ 0 ∷ 4 ∷ 7 ∷ []
unfolding plan_at plan_of first tab record_of words_of admitted_of refuse announced_of check_of fault_of fixed_size be header_of announce_of identity_at stamp_of suffix_in walk.next_of walk.walk walk.walk_by
burst_kept = refl

-- none, 288 and 289 messages
pub burst_sizes : map (λ n. code_of (burst_check (replicate n []))) (0 ∷ 288 ∷ 289 ∷ []) ≡ 0 ∷ 0 ∷ 17 ∷ []
unfolding refuse
burst_sizes = refl
