-- What a host finds in a step's words.
use mathlib.Core.Path.{◌≡◌, refl}
use lib.ListN.{get_or}
use Rattle.tlv.specs.Numbers.{link_number}
use Rattle.tlv.specs.declared.wr.LinkMessage.{LinkMessage}
use Rattle.tlv.specs.declared.wr.LinkMessage.TheVariants.{SlavePresent, Lock, Locked, Calibrate, Calibrated, ModeOn}
use Rattle.message_words.specs.Answers.{link_message_words}

-- the first word of a link message is its number: what a host finds there is what the event of that message is handed
pub number_first : (m : LinkMessage) → get_or (link_message_words m) 0 0 ≡ link_number m
number_first SlavePresent = refl
number_first Lock = refl
number_first Locked = refl
number_first (Calibrate pattern retry period) = refl
number_first (Calibrated tx rx) = refl
number_first ModeOn = refl
