-- An exchange in eighteen words: T1S T1N SYNC FOLLOW T2S T2N T2F T3S T3N T3F T4S T4N RESP MTX MRX STX SRX A. A number that is read is
-- taken modulo the width of its field, and exchange_fits tells whether it is the number that stands there; signed ones are two's complement in 64 bits.
-- Its delay and offset in three.
use Rattle.std.specs.Prelude.{ℕ, ◌+◌, ◌%◌, Bool, not, ◌&&◌, List, [], ◌∷◌, ltb, get_or, Result, Ok, Err}
use Rattle.std.specs.Int.{w64}
use Rattle.std.proofs.Common.{to_z, of_z}
use Rattle.refusal.specs.Choice.{refuse}
use Rattle.refusal.specs.Refusal.{number_of}
use Rattle.refusal.specs.declared.Refusal.TheVariants.{Range}
use Rattle.delay.specs.declared.Stamp.{Stamp}
use Rattle.delay.specs.declared.FineStamp.{FineStamp}
use Rattle.delay.specs.declared.Stamps.{Stamps}
use Rattle.delay.specs.declared.ScaledNs.{ScaledNs}
use Rattle.delay.specs.declared.ScaledPs.{ScaledPs}
use Rattle.delay.specs.declared.Asymmetry.{Asymmetry}
use Rattle.delay.specs.declared.Corrections.{Corrections}
use Rattle.delay.specs.declared.Latencies.{Latencies}
use Rattle.delay.specs.declared.Exchange.{Exchange}
use Rattle.delay.specs.Answer.{measure_of}
use Rattle.delay.specs.declared.Offset.{Offset}
use Rattle.refusal.specs.declared.Refusal.{Refusal}

abbrev pub stamp_at : List ℕ → ℕ → Stamp
stamp_at w at = record { seconds = get_or w at 0; nanos = get_or w (at + 1) 0 % 0x100000000 }

abbrev pub fine_at : List ℕ → ℕ → FineStamp
fine_at w at =
    record { seconds = get_or w at 0; nanos = get_or w (at + 1) 0 % 0x100000000; fraction = get_or w (at + 2) 0 % 65536 }

abbrev pub stamps_of : List ℕ → Stamps
stamps_of w = record { t1 = stamp_at w 0; t2 = fine_at w 4; t3 = fine_at w 7; t4 = stamp_at w 10 }

abbrev pub ns_at : List ℕ → ℕ → ScaledNs
ns_at w at = record { 0 = to_z w64 (get_or w at 0) }

abbrev pub corrections_of : List ℕ → Corrections
corrections_of w = record { sync = ns_at w 2; follow = ns_at w 3; resp = ns_at w 12 }

abbrev pub ps_at : List ℕ → ℕ → ScaledPs
ps_at w at = record { 0 = get_or w at 0 }

abbrev pub latencies_of : List ℕ → Latencies
latencies_of w = record { mtx = ps_at w 13; mrx = ps_at w 14; stx = ps_at w 15; srx = ps_at w 16 }

abbrev pub asymmetry_of : List ℕ → Asymmetry
asymmetry_of w = record { 0 = to_z w64 (get_or w 17 0) }

abbrev pub exchange_of : List ℕ → Exchange
exchange_of w =
    record { stamps = stamps_of w; corrections = corrections_of w; latencies = latencies_of w; asymmetry = asymmetry_of w }

-- the four words of nanoseconds, and the two of a fraction
abbrev pub exchange_fits : List ℕ → Bool
exchange_fits w =
    ((((ltb (get_or w 1 0) 0x100000000 && ltb (get_or w 5 0) 0x100000000) && ltb (get_or w 8 0) 0x100000000) && ltb (get_or w 11 0) 0x100000000) && ltb (get_or w 6 0) 65536) && ltb (get_or w 9 0) 65536

-- the words of one stamp
abbrev pub stamp_fits : List ℕ → ℕ → Bool
stamp_fits w at = ltb (get_or w (at + 1) 0) 0x100000000

abbrev pub fine_fits : List ℕ → ℕ → Bool
fine_fits w at = stamp_fits w at && ltb (get_or w (at + 2) 0) 65536

-- "a number outside a limit of the delay section": also one that its field cannot hold
abbrev pub measured_of : List ℕ → Result (ScaledNs × Offset) Refusal
measured_of w = refuse (not (exchange_fits w)) (Err Range) (measure_of (exchange_of w))

abbrev pub measured_code : Result (ScaledNs × Offset) Refusal → ℕ
measured_code (Ok (d, o)) = 0
measured_code (Err x) = number_of x

-- DELAY SECONDS REST
abbrev pub measured_words : Result (ScaledNs × Offset) Refusal → List ℕ → List ℕ
measured_words (Ok (d, o)) out = of_z w64 d.0 ∷ of_z w64 o.seconds ∷ o.rest ∷ []
measured_words (Err x) out = out
