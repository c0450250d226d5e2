-- A step in numbers: the link's word after it, the number of the message that it sends, whether CALIBRATED is sent after that, and
-- whether it reports link on.
use Rattle.std.specs.Prelude.{ℕ, Bool, true, false}
use Rattle.link.specs.declared.Sends.{Sends}
use Rattle.link.specs.declared.Sends.TheVariants.{Nothing, One, Two}
use Rattle.link.specs.declared.State.{State}
use Rattle.link.specs.declared.State.TheVariants.{Idle, Present, MLock, SLock, Locked, Calibration, Calibrated, RespCalibReq}
use Rattle.link.specs.declared.Stepped.{Stepped}
use Rattle.tlv.specs.Numbers.{SLAVE-PRESENT, LOCK, LOCKED, CALIBRATE, CALIBRATED, link_number}
use Rattle.links.specs.Words.{word_of}
use Rattle.links.specs.declared.brief.Brief.{Brief}

-- the number of the first message, 0 for none
abbrev pub sent_first : Sends → ℕ
sent_first Nothing = 0
sent_first (One a) = link_number a
sent_first (Two a b) = link_number a

-- two are sent: CALIBRATE and CALIBRATED in one step
abbrev pub sent_both : Sends → Bool
sent_both Nothing = false
sent_both (One a) = false
sent_both (Two a b) = true

unfoldable pub brief_of : Stepped → Brief
brief_of s = record { word = word_of s.link; sends = sent_first s.sends; both = sent_both s.sends; report = s.report }

-- the number of a state's message, 0 for none
abbrev pub sent_in : State → ℕ
sent_in Idle = 0
sent_in Present = SLAVE-PRESENT
sent_in MLock = LOCK
sent_in SLock = 0
sent_in Locked = LOCKED
sent_in Calibration = CALIBRATE
sent_in Calibrated = CALIBRATED
sent_in RespCalibReq = 0
