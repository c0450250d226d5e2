-- Origin time at its edges, computed: a Sync alone, a Sync with its Follow_Up, and each way that the two do not fit, so
-- that a call that refuses everything, or always hands back the Sync's octets, does not meet the contract.
use Prim.Native.Nat.{ℕ}
use mathlib.Core.Path.{◌≡◌, refl}
use mathlib.Core.List.{List, [], ◌∷◌}
use Rattle.refusal.specs.Choice.{refuse}
use Rattle.refusal.specs.Refusal.{code_of}
use Rattle.octets.specs.Be.{be}
use Rattle.tlv.specs.Walk.{walk_by, walk}
use Rattle.tlv.specs.Faults.{fault_of}
use Rattle.message.specs.Fields.{fixed_size, identity_at, header_of}
use Rattle.message.specs.Reading.{check_of, takes_of}
use Rattle.origin.specs.Origin.{follows, follow_check, origin_check, origin_in}

-- the ten octets of a timestamp, told apart by the first nanosecond octet
abbrev stamp : ℕ → List ℕ
stamp mark = 0 ∷ 0 ∷ 0 ∷ 0 ∷ 0 ∷ 1 ∷ 0 ∷ 0 ∷ 0 ∷ mark ∷ []

-- a message of 44 octets from clock 1, with its type, domain, flag octet, sender's port and sequenceId
abbrev message : ℕ → ℕ → ℕ → ℕ → ℕ → ℕ → List ℕ
message kind domain flag port sequence mark =
    kind ∷ 2 ∷ 0 ∷ 44 ∷ domain ∷ 0 ∷ flag ∷ 0 ∷ 0 ∷ 0 ∷ 0 ∷ 0 ∷ 0 ∷ 0 ∷ 0 ∷ 0 ∷ 0 ∷ 0 ∷ 0 ∷ 0
    ∷ 0 ∷ 0 ∷ 0 ∷ 0 ∷ 0 ∷ 0 ∷ 0 ∷ 1 ∷ 0 ∷ port ∷ 0 ∷ sequence ∷ 0 ∷ 0 ∷ stamp mark

-- without the two-step bit the Follow_Up is not looked at
pub sync_alone : origin_in 0xABCD (message 0 0 0 1 5 7) [] ≡ stamp 7
unfolding origin_in origin_check takes_of check_of refuse be fixed_size fault_of walk walk_by
sync_alone = refl

-- with it the Follow_Up has the time
pub sync_with_follow_up : origin_in 0xABCD (message 0 0 2 1 5 7) (message 8 0 0 1 5 9) ≡ stamp 9
unfolding origin_in origin_check takes_of follow_check follows header_of identity_at check_of refuse be fixed_size fault_of walk walk_by
sync_with_follow_up = refl

-- a Follow_Up that has not arrived
pub no_follow_up : code_of (origin_check 0xABCD (message 0 0 2 1 5 7) []) ≡ 1
unfolding origin_check takes_of follow_check check_of refuse be fixed_size fault_of walk walk_by
no_follow_up = refl

-- another sequenceId, another domain, another port of the sender
pub other_sequence : code_of (origin_check 0xABCD (message 0 0 2 1 5 7) (message 8 0 0 1 6 9)) ≡ 3
unfolding origin_check takes_of follow_check follows header_of identity_at check_of refuse be fixed_size fault_of walk walk_by
other_sequence = refl

pub other_domain : code_of (origin_check 0xABCD (message 0 0 2 1 5 7) (message 8 3 0 1 5 9)) ≡ 3
unfolding origin_check takes_of follow_check follows header_of identity_at check_of refuse be fixed_size fault_of walk walk_by
other_domain = refl

pub other_sender : code_of (origin_check 0xABCD (message 0 0 2 1 5 7) (message 8 0 0 2 5 9)) ≡ 3
unfolding origin_check takes_of follow_check follows header_of identity_at check_of refuse be fixed_size fault_of walk walk_by
other_sender = refl

-- a Delay_Req in the Sync's place
pub no_sync : code_of (origin_check 0xABCD (message 1 0 0 1 5 7) []) ≡ 3
unfolding origin_check takes_of check_of refuse be fixed_size fault_of walk walk_by
no_sync = refl
