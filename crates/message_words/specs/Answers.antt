-- What reading answers: the number returned, with its place, and the words at exit, which a refusal leaves as they were.
use Rattle.std.specs.Prelude.{ℕ, List, [], ◌∷◌, Option, Some, None, Result, Ok, Err}
use Rattle.octets.specs.Be.{be}
use Rattle.layout.specs.Layout.{size_of}
use Rattle.tlv.specs.Numbers.{SLAVE-PRESENT, LOCK, LOCKED, CALIBRATE, CALIBRATED, WR-MODE-ON}
use Rattle.tlv.specs.declared.wr.LinkMessage.{LinkMessage}
use Rattle.tlv.specs.declared.wr.LinkMessage.TheVariants.{SlavePresent, Lock, Locked, Calibrate, Calibrated, ModeOn}
pub use Rattle.message.specs.Answers.{read_code}
pub use Rattle.contents.specs.Answers.{tlv_code, walked_code, suffix_code, link_code}
use Rattle.contents.specs.Tlvs.{begin_of, end_of}
use Rattle.message_words.specs.Words.{message_words}
use Rattle.message.specs.declared.fields.Message.{Message}
use Rattle.refusal.specs.declared.Refusal.{Refusal}
use Rattle.contents.specs.declared.tlvs.Tlv.{Tlv}

abbrev pub read_words : Result Message Refusal → List ℕ → List ℕ
read_words (Ok m) out = message_words m
read_words (Err x) out = out

-- where the tail begins, and how many octets it has
abbrev pub tail_words : Result Message Refusal → ℕ → List ℕ → List ℕ
tail_words (Ok m) size out = size_of m.body ∷ size ∷ []
tail_words (Err x) size out = out

-- 1, where the data begin in the message, and how many octets they are; zeros where there is none
abbrev pub data_words : Option ℕ → ℕ → List ℕ
data_words (Some at) size = 1 ∷ at ∷ size ∷ []
data_words None size = 0 ∷ 0 ∷ 0 ∷ []

abbrev pub tlv_words : Result (Option ℕ) Refusal → ℕ → List ℕ → List ℕ
tlv_words (Ok x) size out = data_words x size
tlv_words (Err x) size out = out

-- 1, where the TLV stands in the message, its type, how many octets of data it has, where they begin and where it ends; zeros where there is none
abbrev pub place_words : Option Tlv → List ℕ
place_words (Some x) = 1 ∷ x.place ∷ x.kind ∷ x.length ∷ begin_of x ∷ end_of x ∷ []
place_words None = 0 ∷ 0 ∷ 0 ∷ 0 ∷ 0 ∷ 0 ∷ []

abbrev pub walked_words : Result (Option Tlv) Refusal → List ℕ → List ℕ
walked_words (Ok x) out = place_words x
walked_words (Err x) out = out

-- 1 and wrFlags, or zeros
abbrev pub flags_words : Option ℕ → List ℕ
flags_words (Some n) = 1 ∷ n ∷ []
flags_words None = 0 ∷ 0 ∷ []

abbrev pub suffix_words : Result (Option ℕ) Refusal → List ℕ → List ℕ
suffix_words (Ok x) out = flags_words x
suffix_words (Err x) out = out

-- NUMBER PATTERN RETRY PERIOD TX RX, zeros for what it does not carry
abbrev pub link_message_words : LinkMessage → List ℕ
link_message_words SlavePresent = SLAVE-PRESENT ∷ 0 ∷ 0 ∷ 0 ∷ 0 ∷ 0 ∷ []
link_message_words Lock = LOCK ∷ 0 ∷ 0 ∷ 0 ∷ 0 ∷ 0 ∷ []
link_message_words Locked = LOCKED ∷ 0 ∷ 0 ∷ 0 ∷ 0 ∷ 0 ∷ []
link_message_words (Calibrate pattern retry period) = CALIBRATE ∷ pattern ∷ retry ∷ period ∷ 0 ∷ 0 ∷ []
link_message_words (Calibrated tx rx) = CALIBRATED ∷ 0 ∷ 0 ∷ 0 ∷ tx ∷ rx ∷ []
link_message_words ModeOn = WR-MODE-ON ∷ 0 ∷ 0 ∷ 0 ∷ 0 ∷ 0 ∷ []

-- 1 and the link message, or zeros
abbrev pub carried_words : Option LinkMessage → List ℕ
carried_words (Some m) = 1 ∷ link_message_words m
carried_words None = 0 ∷ 0 ∷ 0 ∷ 0 ∷ 0 ∷ 0 ∷ 0 ∷ []

abbrev pub link_words : Result (Option LinkMessage) Refusal → List ℕ → List ℕ
link_words (Ok x) out = carried_words x
link_words (Err x) out = out

-- the seconds and the nanoseconds in the ten octets of an origin time
abbrev pub origin_words : Result (Unit {0}) Refusal → List ℕ → List ℕ → List ℕ
origin_words (Ok tt) stamp out = be 6 stamp 0 ∷ be 4 stamp 6 ∷ []
origin_words (Err x) stamp out = out
