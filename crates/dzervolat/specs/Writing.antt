-- Writing a message that comes in words: "a value to write doesn't fit its field" where the words are not the message's own, and then what
-- writing the message answers.
use Rattle.std.specs.Prelude.{ℕ, Bool, not, ◌&&◌, List, eqb, get_or, Result, Err}
use Rattle.refusal.specs.Choice.{refuse}
use Rattle.refusal.specs.declared.Refusal.TheVariants.{Field}
use Rattle.message.specs.declared.fields.Message.{Message}
use Rattle.writer.specs.Writing.{write_of, buffer_of}
use Rattle.wr_tlvs.specs.Built.{signaling, link_octets}
use Rattle.message_words.specs.Words.{identity_at, header_of, message_of, is_whole}
use Rattle.message_words.specs.Writing.{link_message_of, is_link}
use Rattle.refusal.specs.declared.Refusal.{Refusal}

-- what writing the message of twenty words answers, and the buffer at exit
abbrev pub words_written : ℕ → List ℕ → List ℕ → List ℕ → Result ℕ Refusal
words_written magic w tail out = refuse (not (is_whole w)) (Err Field) (write_of magic (message_of w) tail out)

abbrev pub words_buffer : ℕ → List ℕ → List ℕ → List ℕ → List ℕ
words_buffer magic w tail out = refuse (not (is_whole w)) out (buffer_of magic (message_of w) tail out)

-- twenty words are a Signaling, and six a link message
abbrev pub is_signaling : List ℕ → List ℕ → Bool
is_signaling w l = (eqb (get_or w 0 0) 0xC && is_whole w) && is_link l

-- the Signaling of twenty words, for the target in them
abbrev pub signaling_of : List ℕ → Message
signaling_of w = signaling (header_of w) (identity_at w 9)

-- what writing it with a link message of six words answers, and the buffer at exit
abbrev pub link_written : ℕ → List ℕ → List ℕ → List ℕ → Result ℕ Refusal
link_written magic w l out = refuse (not (is_signaling w l)) (Err Field) (write_of magic (signaling_of w) (link_octets magic (link_message_of l)) out)

abbrev pub link_buffer : ℕ → List ℕ → List ℕ → List ℕ → List ℕ
link_buffer magic w l out = refuse (not (is_signaling w l)) out (buffer_of magic (signaling_of w) (link_octets magic (link_message_of l)) out)
