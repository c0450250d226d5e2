-- White Rabbit's TLVs as octets (01, "Octets of a message": "WR TLV (001, Table 5)").
use Rattle.std.specs.Prelude.{ℕ, zero, suc, ◌+◌, ◌-◌, ◌%◌, List, [], ◌∷◌}
use Rattle.octets.specs.Be.{octets_of}
use Rattle.tlv.specs.Form.{wr_form}
use Rattle.tlv.specs.Numbers.{ANN-SUFIX}
pub use Rattle.tlv.specs.Numbers.{link_number}
use Rattle.tlv.specs.declared.wr.LinkMessage.{LinkMessage}
use Rattle.tlv.specs.declared.wr.LinkMessage.TheVariants.{SlavePresent, Lock, Locked, Calibrate, Calibrated, ModeOn}
use Rattle.identity.specs.declared.PortIdentity.{PortIdentity}
use Rattle.message.specs.declared.fields.Header.{Header}
use Rattle.message.specs.declared.fields.Body.TheVariants as body
use Rattle.message.specs.declared.fields.Message.{Message}
use Rattle.wr_tlvs.specs.declared.WrTlv.{WrTlv}

-- "type 0x0003, L = 8 + N, OUI 08 00 30, magic 2 octets, version 0x01, wrMessageID 2, data N"
unfoldable pub wr_octets : ℕ → ℕ → ℕ → List ℕ → List ℕ
wr_octets magic number n content =
    octets_of 2 (wr_form magic).kind (octets_of 2 (8 + n) (octets_of 6 (wr_form magic).six (octets_of 2 number content)))

-- octets that are not part of the TLV
abbrev pub zeros : ℕ → List ℕ
zeros zero = []
zeros (suc n) = 0 ∷ zeros n

-- "ANN_SUFIX 0x2000, 2 (wrFlags: bits 0-1 config, 2 calibrated, 3 mode on, rest reserved"; "Reserved fields are ..
-- written as zero"
abbrev pub suffix_octets : ℕ → ℕ → List ℕ
suffix_octets magic flags = wr_octets magic ANN-SUFIX 2 (octets_of 2 (flags % 16) [])

abbrev pub suffix_tlv : ℕ → ℕ → WrTlv
suffix_tlv magic flags = record { octets = wr_octets magic ANN-SUFIX 2 (octets_of 2 (flags % 16) (zeros 14)); size = 14 }

-- N: 0, but "CALIBRATE .., 6" and "CALIBRATED .., 16"
abbrev pub link_size : LinkMessage → ℕ
link_size SlavePresent = 0
link_size Lock = 0
link_size Locked = 0
link_size (Calibrate pattern retry period) = 6
link_size (Calibrated tx rx) = 16
link_size ModeOn = 0

-- "CALIBRATE .. (pattern 1, retry 1, period 4); CALIBRATED .. (deltaTx 8, deltaRx 8)", before what follows
abbrev pub link_data : LinkMessage → List ℕ → List ℕ
link_data SlavePresent rest = rest
link_data Lock rest = rest
link_data Locked rest = rest
link_data (Calibrate pattern retry period) rest = pattern ∷ retry ∷ octets_of 4 period rest
link_data (Calibrated tx rx) rest = octets_of 8 tx (octets_of 8 rx rest)
link_data ModeOn rest = rest

abbrev pub link_octets : ℕ → LinkMessage → List ℕ
link_octets magic x = wr_octets magic (link_number x) (link_size x) (link_data x [])

abbrev pub link_tlv : ℕ → LinkMessage → WrTlv
link_tlv magic x =
    record { octets = wr_octets magic (link_number x) (link_size x) (link_data x (zeros (16 - link_size x))); size = 12 + link_size x }

-- a Signaling for the port on the other side
abbrev pub signaling : Header → PortIdentity → Message
signaling header target = record { header = header; body = body.Signaling target }
