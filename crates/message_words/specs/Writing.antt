-- What writing is handed in words, and what it answers.
use Rattle.std.specs.Prelude.{ℕ, ◌%◌, Bool, List, [], ◌∷◌, eqb, get_or, take, Result, Ok, Err}
use Rattle.refusal.specs.Choice.{pick}
use Rattle.rank.specs.Order.{same}
use Rattle.tlv.specs.Numbers.{SLAVE-PRESENT, LOCK, LOCKED, CALIBRATE, CALIBRATED}
use Rattle.tlv.specs.declared.wr.LinkMessage.{LinkMessage}
use Rattle.tlv.specs.declared.wr.LinkMessage.TheVariants.{SlavePresent, Lock, Locked, Calibrate, Calibrated, ModeOn}
pub use Rattle.writer.specs.Writing.{written_code}
use Rattle.message_words.specs.Answers.{link_message_words}
use Rattle.refusal.specs.declared.Refusal.{Refusal}

-- NUMBER PATTERN RETRY PERIOD TX RX
unfoldable pub link_message_of : List ℕ → LinkMessage
link_message_of w =
    pick (eqb (get_or w 0 0) SLAVE-PRESENT) SlavePresent
    (pick (eqb (get_or w 0 0) LOCK) Lock
    (pick (eqb (get_or w 0 0) LOCKED) Locked
    (pick (eqb (get_or w 0 0) CALIBRATE) (Calibrate (get_or w 1 0 % 256) (get_or w 2 0 % 256) (get_or w 3 0 % 0x100000000))
    (pick (eqb (get_or w 0 0) CALIBRATED) (Calibrated (get_or w 4 0) (get_or w 5 0))
    ModeOn))))

-- how many words have to be looked at: the number, and what a CALIBRATE carries
unfoldable pub link_words_for : ℕ → ℕ
link_words_for number = pick (eqb number CALIBRATE) 4 1

-- "a value to write doesn't fit its field": the words are not those of the message that is read out of them
abbrev pub is_link : List ℕ → Bool
is_link w = same (take (link_words_for (get_or w 0 0)) (link_message_words (link_message_of w))) (take (link_words_for (get_or w 0 0)) w)

-- how many octets were written
abbrev pub written_words : Result ℕ Refusal → List ℕ → List ℕ
written_words (Ok n) out = n ∷ []
written_words (Err x) out = out
