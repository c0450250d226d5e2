-- Worked inputs, computed. They rule out a replay that refuses everything or nothing, one that loses a last block that is short, and a clearing that forgets an
-- interval or keeps a time.
use Rattle.std.specs.Prelude.{Ok, Err}
use Prim.Native.Nat.{ℕ, ◌+◌, ◌-◌, ◌*◌}
use mathlib.Core.Path.{◌≡◌, refl}
use mathlib.Core.List.{List, [], ◌∷◌, ◌++◌, map}
use mathlib.Core.Bool.{true}
use lib.ListN.{length, get_or, replicate}
use Rattle.refusal.specs.Choice.{refuse}
use Rattle.refusal.specs.declared.Refusal.TheVariants.{Block}
use Rattle.tlv.specs.Walk as walk
use Rattle.tlv.specs.Faults.{fault_of}
use Rattle.tlv.specs.Wr.{suffix_in}
use Rattle.message.specs.Fields.{fixed_size, header_of, announce_of, identity_at, stamp_of}
use Rattle.message.specs.Reading.{check_of}
use Rattle.message.specs.Announced.{announced_of}
use Rattle.senders.specs.Port.{tab, first, plan_of}
use Rattle.slots.specs.Words.{record_of, words_of}
use Rattle.octets.specs.Be.{be}
use Rattle.block.specs.Layout.{Entry, entries_from}
use Rattle.block.specs.Check.{sum_from, is_checked}
use Rattle.judging.specs.Tests.{all_zero, laid_from, is_laid, is_in_order, last_of, verdict_of}
use Rattle.block.specs.Making.{sealed, entries_octets, sizes_of, block_of}
use Rattle.ports.specs.declared.intake.Settings.{Settings}
use Rattle.ports.specs.Intake.{admitted_of, plan_at}
use Rattle.ports.specs.History.{run}
use Rattle.playback.specs.Playback.{calls_of, chunks, chunk_count, blocks_in, accepts_all, reader_after_all, entries_of_all, is_trace, cleared_word, replay_of}
use Rattle.playback.specs.When.{replayed_code}

-- how many blocks so many octets are
pub block_counts : map chunk_count (0 ∷ 1 ∷ 511 ∷ 512 ∷ 513 ∷ 1024 ∷ 1025 ∷ []) ≡ 0 ∷ 1 ∷ 1 ∷ 1 ∷ 2 ∷ 2 ∷ 3 ∷ []
block_counts = refl

-- 513 octets are a block of 512 and one of 1
pub block_sizes : map length (blocks_in (tab 513 (λ i. i))) ≡ 512 ∷ 1 ∷ []
unfolding tab chunks
block_sizes = refl

-- an empty trace is one, and has no last time; an octet is none
pub empty_trace : is_trace [] ≡ true
unfolding chunks accepts_all
empty_trace = refl

pub empty_replayed : replay_of [] ≡ Ok 0
unfolding chunks accepts_all reader_after_all refuse
empty_replayed = refl

pub octet_refused : replay_of (0 ∷ []) ≡ Err Block
unfolding chunks accepts_all verdict_of is_laid refuse
octet_refused = refl

-- words 1000, 1001, ..: of ports 1 and 2 the intervals stay
pub words_cleared : map (cleared_word (tab 200 (λ i. 1000 + i))) (0 ∷ 1 ∷ 2 ∷ 97 ∷ 98 ∷ 99 ∷ 100 ∷ []) ≡ 0 ∷ 1001 ∷ 0 ∷ 0 ∷ 0 ∷ 1099 ∷ 0 ∷ []
unfolding tab
words_cleared = refl

-- ---- a whole trace
abbrev ours : Settings
ours = record { domain = 0; clock = 5; magic = 0xABCD }

-- an Announce of 64 octets of clock 7, port 1, with a sequenceId
abbrev announce : ℕ → List ℕ
announce sequence =
    0x0B ∷ 0x02 ∷ 0 ∷ 64 ∷ 0 ∷ 0 ∷ 0 ∷ 0 ∷ 0 ∷ 0 ∷ 0 ∷ 0 ∷ 0 ∷ 0 ∷ 0 ∷ 0 ∷ 0 ∷ 0 ∷ 0 ∷ 0 ∷ 0 ∷ 0 ∷ 0 ∷ 0 ∷ 0 ∷ 0 ∷ 0 ∷ 7 ∷ 0 ∷ 1 ∷ 0 ∷ sequence ∷ 5 ∷ 127 ∷ replicate 30 0

abbrev heard : ℕ → ℕ → ℕ → Entry
heard t port sequence = record { time = t; port = port; message = announce sequence }

-- two blocks: new on port 2; new on port 3; on port 2 a sequenceId that is not newer, which is refused, and the replay goes on; then one that is
abbrev trace : List ℕ
trace = block_of 4 (heard 50 2 9 ∷ []) ++ block_of 9 (heard 60 3 9 ∷ heard 61 2 9 ∷ heard 62 2 10 ∷ [])

pub trace_replayed : replay_of trace ≡ Ok 62
unfolding chunks accepts_all reader_after_all refuse verdict_of is_laid is_checked sum_from laid_from all_zero is_in_order last_of entries_from be sealed entries_octets sizes_of
trace_replayed = refl

-- blocks of one record: a number that falls, one number twice, and a time that falls from block to block; a number may leave others out, and a time may stay
abbrev single : ℕ → ℕ → List ℕ
single number t = block_of number (heard t 2 9 ∷ [])

pub orders_replayed :
    map (λ s. replayed_code (replay_of s))
    ((single 5 50 ++ single 4 50) ∷ (single 4 50 ++ single 4 50) ∷ (single 4 50 ++ single 5 49) ∷ (single 4 50 ++ single 9 50) ∷ [])
    ≡ 20 ∷ 20 ∷ 20 ∷ 0 ∷ []
unfolding chunks accepts_all reader_after_all refuse verdict_of is_laid is_checked sum_from laid_from all_zero is_in_order last_of entries_from be sealed entries_octets sizes_of
orders_replayed = refl

-- what a fresh clock has then on ports 1, 2, 3 and 18: its last accepted time, its interval, and of its first slot the clock, port with sequenceId and
-- receipts, newest, older; the second slot's clock
abbrev port_in : List ℕ → ℕ → List ℕ
port_in ws p = map (λ i. get_or ws (98 * (p - 1) + i) 0) (0 ∷ 1 ∷ 2 ∷ 3 ∷ 4 ∷ 5 ∷ 8 ∷ [])

abbrev ports_in : List ℕ → List (List ℕ)
ports_in ws = port_in ws 1 ∷ port_in ws 2 ∷ port_in ws 3 ∷ port_in ws 18 ∷ []

pub trace_kept : ports_in (run (replicate 1764 0) (calls_of ours (entries_of_all (blocks_in trace))))
    ≡ (0 ∷ 0 ∷ 0 ∷ 0 ∷ 0 ∷ 0 ∷ 0 ∷ [])
    ∷ (62 ∷ 0 ∷ 7 ∷ 0x20000000A0001 ∷ 62 ∷ 50 ∷ 0 ∷ [])
    ∷ (60 ∷ 0 ∷ 7 ∷ 0x1000000090001 ∷ 60 ∷ 0 ∷ 0 ∷ [])
    ∷ (0 ∷ 0 ∷ 0 ∷ 0 ∷ 0 ∷ 0 ∷ 0 ∷ [])
    ∷ []
unfolding chunks entries_of_all refuse sum_from entries_from be sealed entries_octets sizes_of plan_at plan_of first tab record_of words_of admitted_of announced_of check_of fault_of fixed_size header_of announce_of identity_at stamp_of suffix_in walk.next_of walk.walk walk.walk_by
trace_kept = refl
