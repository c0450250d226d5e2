-- What the types of a message's fields say of their values: each fits the octets that it has. transportSpecific, which has four
-- bits, and a timestamp, whose seconds have 48, are looked at in writing. Of a link message too.
use Rattle.std.specs.Prelude.{◌^◌, ◌<◌}
use Rattle.std.specs.Int.{w8, w16, w64}
use Rattle.std.proofs.Common.{SFits}
use Rattle.tlv.specs.declared.wr.LinkMessage.{LinkMessage}
use Rattle.tlv.specs.declared.wr.LinkMessage.TheVariants.{SlavePresent, Lock, Locked, Calibrate, Calibrated, ModeOn}
use Rattle.identity.specs.declared.PortIdentity.{PortIdentity}
use Rattle.message.specs.declared.fields.Header.{Header}
use Rattle.message.specs.declared.fields.Announce.{Announce}
use Rattle.message.specs.declared.fields.Body.{Body}
use Rattle.message.specs.declared.fields.Body.TheVariants as body
use Rattle.message.specs.declared.fields.Message.{Message}

pub record IdentityRange (p : PortIdentity) : Type 0 where
  pub clock : p.clock < 256 ^ 8
  pub port : p.port < 256 ^ 2

pub record HeaderRange (h : Header) : Type 0 where
  pub flags : h.flags < 256 ^ 2
  pub correction : SFits w64 h.correction
  pub source : IdentityRange h.source
  pub sequence : h.sequence < 256 ^ 2
  pub interval : SFits w8 h.interval

pub record AnnounceRange (a : Announce) : Type 0 where
  pub utc : SFits w16 a.utc
  pub variance : a.variance < 256 ^ 2
  pub grandmaster : a.grandmaster < 256 ^ 8
  pub steps : a.steps < 256 ^ 2

abbrev pub BodyRange : Body → Type 0
BodyRange (body.Sync t) = Unit {0}
BodyRange (body.DelayReq t) = Unit {0}
BodyRange (body.FollowUp t) = Unit {0}
BodyRange (body.DelayResp r) = IdentityRange r.requester
BodyRange (body.Announce a) = AnnounceRange a
BodyRange (body.Signaling p) = IdentityRange p

pub record MessageRange (m : Message) : Type 0 where
  pub header : HeaderRange m.header
  pub body : BodyRange m.body

abbrev pub LinkRange : LinkMessage → Type 0
LinkRange SlavePresent = Unit {0}
LinkRange Lock = Unit {0}
LinkRange Locked = Unit {0}
LinkRange (Calibrate pattern retry period) = period < 256 ^ 4
LinkRange (Calibrated tx rx) = (tx < 256 ^ 8) × (rx < 256 ^ 8)
LinkRange ModeOn = Unit {0}
