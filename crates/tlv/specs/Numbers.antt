-- The numbers of White Rabbit's messages (01, "Octets of a message": "Message numbers (003, Table 4)"). They are defined here alone.
use Rattle.std.specs.Prelude.{ℕ}
use Rattle.tlv.specs.declared.wr.LinkMessage.{LinkMessage}
use Rattle.tlv.specs.declared.wr.LinkMessage.TheVariants.{SlavePresent, Lock, Locked, Calibrate, Calibrated, ModeOn}

abbrev pub SLAVE-PRESENT : ℕ
SLAVE-PRESENT = 0x1000

abbrev pub LOCK : ℕ
LOCK = 0x1001

abbrev pub LOCKED : ℕ
LOCKED = 0x1002

abbrev pub CALIBRATE : ℕ
CALIBRATE = 0x1003

abbrev pub CALIBRATED : ℕ
CALIBRATED = 0x1004

abbrev pub WR-MODE-ON : ℕ
WR-MODE-ON = 0x1005

abbrev pub ANN-SUFIX : ℕ
ANN-SUFIX = 0x2000

abbrev pub link_number : LinkMessage → ℕ
link_number SlavePresent = SLAVE-PRESENT
link_number Lock = LOCK
link_number Locked = LOCKED
link_number (Calibrate pattern retry period) = CALIBRATE
link_number (Calibrated tx rx) = CALIBRATED
link_number ModeOn = WR-MODE-ON
