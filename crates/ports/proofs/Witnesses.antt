-- Worked inputs, from octets to words, computed. They rule out an intake that does nothing, refuses everything or has one
-- answer, a port number in our own clock's test, and a window that the sender chooses.
use Rattle.std.specs.Prelude.{Ok, Err}
use mathlib.Core.Path.{◌≡◌, refl, ap}
use mathlib.Core.List.{List, [], ◌∷◌, map}
use mathlib.Core.Bool.{true, false}
use Prim.Native.Nat.{ℕ}
use lib.IntN.{pos, negsuc}
use lib.ListN.{get_or}
use Rattle.octets.specs.Be.{be}
use Rattle.refusal.specs.Choice.{refuse}
use Rattle.refusal.specs.declared.Refusal.TheVariants.{Short, Port, Domain, Own, Backward, Stale}
use Rattle.tlv.specs.Walk as walk
use Rattle.tlv.specs.Form.{HasForm, numbered, misfit_at, data_octets, suffix_at}
use Rattle.tlv.specs.Faults.{fault_of}
use Rattle.tlv.specs.Wr.{suffix_in}
use Rattle.message.specs.Fields.{fixed_size, header_of, announce_of, identity_at, stamp_of}
use Rattle.message.specs.Reading.{check_of}
use Rattle.message.specs.Announced.{announced_of}
use Rattle.rank.specs.Ranked.{blank_of}
use Rattle.senders.specs.declared.Notice as kept
use Rattle.senders.specs.Record.{fresh_of}
use Rattle.senders.specs.Port.{tab, first, plan_of}
use Rattle.slots.specs.Words.{record_of, words_of, port_of, words_after}
use Rattle.ports.specs.declared.intake.Settings.{Settings}
use Rattle.ports.specs.Intake.{admitted_of, plan_by}
use Rattle.ports.specs.Interval.{is_interval, exponent_of, interval_of}

abbrev pub ours : Settings
ours = record { domain = 0; clock = 5; magic = 0xABCD }

-- an Announce of 64 octets: domain, the sender's clock and port, sequenceId; logMessageInterval is 127
abbrev pub announce : ℕ → ℕ → ℕ → ℕ → List ℕ
announce domain clock port sequence =
    0x0B ∷ 0x02 ∷ 0 ∷ 64 ∷ domain ∷ 0 ∷ 0 ∷ 0 ∷ 0 ∷ 0 ∷ 0 ∷ 0 ∷ 0 ∷ 0 ∷ 0 ∷ 0 ∷ 0 ∷ 0 ∷ 0 ∷ 0 ∷ 0 ∷ 0 ∷ 0 ∷ 0 ∷ 0 ∷ 0 ∷ 0 ∷ clock ∷ 0 ∷ port ∷ 0 ∷ sequence ∷ 5 ∷ 127
    ∷ 0 ∷ 0 ∷ 0 ∷ 0 ∷ 0 ∷ 0 ∷ 0 ∷ 0 ∷ 0 ∷ 0 ∷ 0 ∷ 0 ∷ 0 ∷ 0 ∷ 0 ∷ 0 ∷ 0 ∷ 0 ∷ 0 ∷ 0 ∷ 0 ∷ 0 ∷ 0 ∷ 0 ∷ 0 ∷ 0 ∷ 0 ∷ 0 ∷ 0 ∷ 0 ∷ []

abbrev notice : ℕ → ℕ → ℕ → kept.Notice
notice clock port sequence =
    record { sender = record { clock = clock; port = port }; sequence = sequence; grandmaster = blank_of.grandmaster; steps = 0; wrflags = 0 }

-- what is kept of it: the sender's logMessageInterval is not
heard : admitted_of ours 2 (announce 0 7 1 9) ≡ Ok (notice 7 1 9)
unfolding admitted_of refuse announced_of check_of fault_of fixed_size be header_of announce_of identity_at stamp_of suffix_in walk.walk walk.walk_by
heard = refl

-- an Announce with the suffix in which all that is kept differs: each number comes from its own octets
abbrev told : List ℕ
told =
    0x0B ∷ 2 ∷ 0 ∷ 0x4E ∷ 0 ∷ 0x55 ∷ 0x66 ∷ 0x77 ∷ 0x81 ∷ 0x82 ∷ 0x83 ∷ 0x84 ∷ 0x85 ∷ 0x86 ∷ 0x87 ∷ 0x88 ∷ 0x91 ∷ 0x92 ∷ 0x93 ∷ 0x94 ∷ 0x11 ∷ 0x12 ∷ 0x13 ∷ 0x14 ∷ 0x15 ∷ 0x16 ∷ 0x17 ∷ 0x18 ∷ 0x19 ∷ 0x1A ∷ 0x1B ∷ 0x1C ∷ 0x1D ∷ 0x1E ∷ 0x21 ∷ 0x22 ∷ 0x23 ∷ 0x24 ∷ 0x25 ∷ 0x26
    ∷ 1 ∷ 2 ∷ 3 ∷ 4 ∷ 0x2B ∷ 0x2C ∷ 0x2D ∷ 0x2F ∷ 0x30 ∷ 0x31 ∷ 0x32 ∷ 0x33 ∷ 0x34 ∷ 0x35 ∷ 0x36 ∷ 0x37 ∷ 0x38 ∷ 0x39 ∷ 0x3A ∷ 0x3B ∷ 0x3C ∷ 0x3D ∷ 0x3E ∷ 0x3F ∷ 0 ∷ 3 ∷ 0 ∷ 0x0A ∷ 8 ∷ 0 ∷ 0x30 ∷ 0xAB ∷ 0xCD ∷ 1 ∷ 0x20 ∷ 0 ∷ 0 ∷ 7 ∷ []

pub each_its_own : admitted_of ours 2 told
    ≡ Ok (record { sender = record { clock = 0x1112131415161718; port = 0x191A }; sequence = 0x1B1C; grandmaster = record { priority1 = 0x2F; class = 0x30; accuracy = 0x31; variance = 0x3233; priority2 = 0x34; identity = 0x35363738393A3B3C }; steps = 0x3D3E; wrflags = 7 })
unfolding admitted_of refuse announced_of check_of fault_of fixed_size be header_of announce_of identity_at stamp_of suffix_in suffix_at numbered HasForm misfit_at data_octets walk.next_of walk.walk walk.walk_by
each_its_own = refl

-- refused before the records are looked at, in the order of the checks
pub no_port : admitted_of ours 19 [] ≡ Err Port
unfolding admitted_of refuse
no_port = refl

pub short : admitted_of ours 18 [] ≡ Err Short
unfolding admitted_of refuse announced_of check_of
short = refl

pub other_domain : admitted_of ours 2 (announce 1 5 1 9) ≡ Err Domain
unfolding admitted_of refuse announced_of check_of fault_of fixed_size be header_of announce_of identity_at stamp_of suffix_in walk.walk walk.walk_by
other_domain = refl

-- our clock is our own whatever its port
pub own_clock : admitted_of ours 2 (announce 0 5 99 9) ≡ Err Own
unfolding admitted_of refuse announced_of check_of fault_of fixed_size be header_of announce_of identity_at stamp_of suffix_in walk.walk walk.walk_by
own_clock = refl

-- 98 words of zero, and after an Announce at 5
abbrev zeros : List ℕ
zeros = tab 98 (λ i. 0)

abbrev once : List ℕ
once = words_after zeros 5 (Ok (0, fresh_of 5 (notice 7 1 9)))

-- taken, at the first time there is: an intake that refuses everything is none
pub taken : plan_by (port_of zeros) 0 (admitted_of ours 2 (announce 0 7 1 9)) ≡ Ok (0, fresh_of 0 (notice 7 1 9))
unfolding plan_of first tab record_of refuse
taken = ap (plan_by (port_of zeros) 0) heard

-- the time is kept: an intake that does nothing is none
pub time_kept : get_or once 0 0 ≡ 5
unfolding tab words_of
time_kept = refl

-- refused by the records
pub backward : plan_by (port_of once) 4 (admitted_of ours 2 (announce 0 7 1 9)) ≡ Err Backward
unfolding plan_of first tab record_of words_of refuse
backward = ap (plan_by (port_of once) 4) heard

pub stale : plan_by (port_of once) 4000000005 (admitted_of ours 2 (announce 0 7 1 9)) ≡ Err Stale
unfolding plan_of first tab record_of words_of refuse
stale = ap (plan_by (port_of once) 4000000005) heard

-- one nanosecond past the port's own window the sender restarts, though its logMessageInterval is 127
pub sender_sets_no_window : plan_by (port_of once) 4000000006 (admitted_of ours 2 (announce 0 7 1 9)) ≡ Ok (0, fresh_of 4000000006 (notice 7 1 9))
unfolding plan_of first tab record_of words_of refuse
sender_sets_no_window = ap (plan_by (port_of once) 4000000006) heard

-- k from -3 to 4, and not those beside them
pub intervals_taken : map is_interval (negsuc 3 ∷ negsuc 2 ∷ pos 4 ∷ pos 5 ∷ []) ≡ false ∷ true ∷ true ∷ false ∷ []
intervals_taken = refl

-- each kept modulo 8, and back
pub intervals : map exponent_of (negsuc 2 ∷ negsuc 1 ∷ negsuc 0 ∷ pos 0 ∷ pos 1 ∷ pos 2 ∷ pos 3 ∷ pos 4 ∷ []) ≡ 5 ∷ 6 ∷ 7 ∷ 0 ∷ 1 ∷ 2 ∷ 3 ∷ 4 ∷ []
intervals = refl

pub intervals_back : map interval_of (5 ∷ 6 ∷ 7 ∷ 0 ∷ 1 ∷ 2 ∷ 3 ∷ 4 ∷ []) ≡ negsuc 2 ∷ negsuc 1 ∷ negsuc 0 ∷ pos 0 ∷ pos 1 ∷ pos 2 ∷ pos 3 ∷ pos 4 ∷ []
intervals_back = refl
