-- What only the code needs, no rules of 01: the words of a message within their fields, told by limits. That the limits tell what `is_whole` says
-- is proved (proofs/Limits.antt).
use Rattle.std.specs.Prelude.{ℕ, ◌%◌, Bool, ◌&&◌, List, eqb, ltb, get_or}
use Rattle.std.specs.Int.{w8, w16, w64}
use Rattle.std.proofs.Common.{of_z, to_z}

-- a word is the two's complement of a signed number of one octet, of two, of eight: read out of it and put back, the number is the word
abbrev pub signed8_fits : ℕ → Bool
signed8_fits x = eqb (of_z w64 (to_z w8 (x % 256))) x

abbrev pub signed16_fits : ℕ → Bool
signed16_fits x = eqb (of_z w64 (to_z w16 (x % 65536))) x

abbrev pub signed64_fits : ℕ → Bool
signed64_fits x = eqb (of_z w64 (to_z w64 x)) x

-- transportSpecific, domain, flags, correction, the source's port, sequenceId, interval; any word is a clock
abbrev pub header_fits : List ℕ → Bool
header_fits w =
    (((((ltb (get_or w 1 0) 256 && ltb (get_or w 2 0) 256) && ltb (get_or w 3 0) 65536) && signed64_fits (get_or w 4 0)) && ltb (get_or w 6 0) 65536)
    && ltb (get_or w 7 0) 65536) && signed8_fits (get_or w 8 0)

-- nanoseconds; any word is a number of seconds here
abbrev pub stamp_fits : List ℕ → Bool
stamp_fits w = ltb (get_or w 10 0) 0x100000000

-- the body of an Announce: nanoseconds, the offset, the quality fields, stepsRemoved and timeSource
abbrev pub announce_fits : List ℕ → Bool
announce_fits w =
    (((((((stamp_fits w && signed16_fits (get_or w 11 0)) && ltb (get_or w 12 0) 256) && ltb (get_or w 13 0) 256) && ltb (get_or w 14 0) 256)
    && ltb (get_or w 15 0) 65536) && ltb (get_or w 16 0) 256) && ltb (get_or w 18 0) 65536) && ltb (get_or w 19 0) 256
