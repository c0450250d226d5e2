-- What White Rabbit's TLVs say (01, "Octets of a message").
use Rattle.std.specs.Prelude.{ℕ, ◌+◌, ◌%◌, List, length, get_or, eqb, ltb, Option, Some, None}
use Rattle.octets.specs.Be.{be}
use Rattle.refusal.specs.Choice.{pick}
use Rattle.tlv.specs.Walk.{first}
use Rattle.tlv.specs.Numbers.{SLAVE-PRESENT, LOCK, LOCKED, CALIBRATE, CALIBRATED}
use Rattle.tlv.specs.Form.{number_at, suffix_at, link_at}
use Rattle.tlv.specs.declared.wr.LinkMessage.{LinkMessage}
use Rattle.tlv.specs.declared.wr.LinkMessage.TheVariants.{SlavePresent, Lock, Locked, Calibrate, Calibrated, ModeOn}

-- "wrFlags: bits 0-1 config, 2 calibrated, 3 mode on, rest reserved"
abbrev pub flags_at : List ℕ → ℕ → ℕ
flags_at t p = be 2 t (p + 12) % 16

-- what a suffix at p says, none at the end
abbrev pub suffix_as : List ℕ → ℕ → Option ℕ
suffix_as t p = pick (ltb p (length t)) (Some (flags_at t p)) None

-- "The first ANN_SUFIX counts."
unfoldable pub suffix_in : ℕ → List ℕ → Option ℕ
suffix_in magic t =
    let p = first (suffix_at magic t) t 0 in
    suffix_as t p

-- "An Announce without the suffix counts as a plain PTP master, wrFlags 0."
abbrev pub wr_flags_of : Option ℕ → ℕ
wr_flags_of (Some n) = n
wr_flags_of None = 0

-- "CALIBRATE .. (pattern 1, retry 1, period 4); CALIBRATED .. (deltaTx 8, deltaRx 8)"
unfoldable pub link_message_at : List ℕ → ℕ → LinkMessage
link_message_at t p =
    let n = number_at t p in
    pick (eqb n SLAVE-PRESENT) SlavePresent
    (pick (eqb n LOCK) Lock
    (pick (eqb n LOCKED) Locked
    (pick (eqb n CALIBRATE) (Calibrate (get_or t (p + 12) 0) (get_or t (p + 13) 0) (be 4 t (p + 14)))
    (pick (eqb n CALIBRATED) (Calibrated (be 8 t (p + 12)) (be 8 t (p + 20)))
    ModeOn))))

-- the first link message
unfoldable pub link_in : ℕ → List ℕ → Option LinkMessage
link_in magic t =
    let p = first (link_at magic t) t 0 in
    pick (ltb p (length t)) (Some (link_message_at t p)) None
