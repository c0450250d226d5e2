-- What two hosts put on the wire and hear from it: Signalings with a link message, as octets.
use Rattle.std.specs.Prelude.{ℕ, ◌<◌, List, get_or, Option, Some, None, Result, Ok, Err}
use Rattle.tlv.specs.declared.wr.LinkMessage.{LinkMessage}
use Rattle.tlv.specs.Numbers.{link_number}
use Rattle.contents.specs.Parts.{link_of}
use Rattle.identity.specs.declared.PortIdentity.{PortIdentity}
use Rattle.message.specs.declared.fields.Header.{Header}
use Rattle.writer.specs.Writing.{buffer_of}
use Rattle.wr_tlvs.specs.Built.{link_octets, signaling}
use Rattle.links.specs.Hosts.{Heard, noise, number}
use Rattle.refusal.specs.declared.Refusal.{Refusal}

-- the number that a host hands on to its link; a message that is refused, or has no link message, is none
abbrev pub handed_on : Result (Option LinkMessage) Refusal → Heard
handed_on (Ok (Some x)) = number (link_number x)
handed_on (Ok None) = noise
handed_on (Err x) = noise

abbrev pub heard_in : ℕ → List ℕ → Heard
heard_in magic octets = handed_on (link_of magic octets)

-- the buffer after a Signaling with a link message was written to it, as `write_link` leaves it
abbrev pub put_in : ℕ → Header → PortIdentity → List ℕ → LinkMessage → List ℕ
put_in magic header target out m = buffer_of magic (signaling header target) (link_octets magic m) out

-- words have 64 bits
abbrev pub Words64 : List ℕ → Type 0
Words64 ws = (k : ℕ) → get_or ws k 0 < 0x10000000000000000
