-- The octets of a message, part by part (01, "Octets of a message"), each part before what follows it.
use Rattle.std.specs.Prelude.{ℕ, ◌+◌, ◌*◌, List, ◌∷◌, ◌++◌, length}
use Rattle.std.specs.Int.{w8, w16, w64}
use Rattle.std.proofs.Common.{of_z}
use Rattle.octets.specs.Be.{octets_of}
use Rattle.message.specs.Fields.{fixed_size}
use Rattle.identity.specs.declared.PortIdentity.{PortIdentity}
use Rattle.message.specs.declared.fields.Timestamp.{Timestamp}
use Rattle.message.specs.declared.fields.Header.{Header}
use Rattle.message.specs.declared.fields.Announce.{Announce}
use Rattle.message.specs.declared.fields.Body.{Body}
use Rattle.message.specs.declared.fields.Body.TheVariants as body
use Rattle.message.specs.declared.fields.Message.{Message}

-- "Sync 0x0, ..; Delay_Req 0x1, ..; Follow_Up 0x8, ..; Delay_Resp 0x9, ..; Announce 0xB, ..; Signaling 0xC, .."
abbrev pub kind_of : Body → ℕ
kind_of (body.Sync t) = 0x0
kind_of (body.DelayReq t) = 0x1
kind_of (body.FollowUp t) = 0x8
kind_of (body.DelayResp r) = 0x9
kind_of (body.Announce a) = 0xB
kind_of (body.Signaling p) = 0xC

-- "controlField .. written 0 for Sync, 1 Delay_Req, 2 Follow_Up, 3 Delay_Resp, else 5"
abbrev pub control_of : Body → ℕ
control_of (body.Sync t) = 0
control_of (body.DelayReq t) = 1
control_of (body.FollowUp t) = 2
control_of (body.DelayResp r) = 3
control_of (body.Announce a) = 5
control_of (body.Signaling p) = 5

-- "Identities are ten octets, clock then port."
unfoldable pub identity_octets : PortIdentity → List ℕ → List ℕ
identity_octets p rest = octets_of 8 p.clock (octets_of 2 p.port rest)

-- "a timestamp (48-bit seconds, 32-bit nanoseconds)"
unfoldable pub stamp_octets : Timestamp → List ℕ → List ℕ
stamp_octets t rest = octets_of 6 t.seconds (octets_of 4 t.nanoseconds rest)

-- octets 0 to 19: "type (low half of octet 0), transportSpecific (high half), version (low half of 1), messageLength
-- 2-3, domain 4, flags 6-7, correctionField 8-15 signed"; "Reserved fields are .. written as zero"
unfoldable pub lead_octets : Header → ℕ → ℕ → List ℕ → List ℕ
lead_octets h kind size rest =
    (h.transport * 16 + kind)
    ∷ 2
    ∷ octets_of 2 size
    (h.domain
    ∷ 0
    ∷ octets_of 2 h.flags
    (octets_of 8 (of_z w64 h.correction)
    (octets_of 4 0
    rest)))

-- octets 30 to 33: "sequenceId 30-31, controlField 32, logMessageInterval 33 signed"
unfoldable pub close_octets : Header → ℕ → List ℕ → List ℕ
close_octets h control rest = octets_of 2 h.sequence (control ∷ of_z w8 h.interval ∷ rest)

-- "Header, 34 octets": between the two, "sourcePortIdentity 20-29"
abbrev pub header_octets : Header → Body → ℕ → List ℕ → List ℕ
header_octets h b size rest = lead_octets h (kind_of b) size (identity_octets h.source (close_octets h (control_of b) rest))

-- octets 44 to 63: "Announce: currentUtcOffset 44 signed, priority1 47, class 48, accuracy 49, variance 50-51,
-- priority2 52, grandmasterIdentity 53-60, stepsRemoved 61-62, timeSource 63"
unfoldable pub announce_octets : Announce → List ℕ → List ℕ
announce_octets a rest =
    octets_of 2 (of_z w16 a.utc)
    (0
    ∷ a.priority1
    ∷ a.class
    ∷ a.accuracy
    ∷ octets_of 2 a.variance
    (a.priority2
    ∷ octets_of 8 a.grandmaster
    (octets_of 2 a.steps
    (a.timesource
    ∷ rest))))

-- octets 34 to 43: "At 34 stands a timestamp .., in Signaling the ten-octet targetPortIdentity."
abbrev pub first_octets : Body → List ℕ → List ℕ
first_octets (body.Sync t) rest = stamp_octets t rest
first_octets (body.DelayReq t) rest = stamp_octets t rest
first_octets (body.FollowUp t) rest = stamp_octets t rest
first_octets (body.DelayResp r) rest = stamp_octets r.receive rest
first_octets (body.Announce a) rest = stamp_octets a.origin rest
first_octets (body.Signaling p) rest = identity_octets p rest

-- from octet 44 on: "Delay_Resp has requestingPortIdentity at 44. Announce: .."
abbrev pub more_octets : Body → List ℕ → List ℕ
more_octets (body.Sync t) rest = rest
more_octets (body.DelayReq t) rest = rest
more_octets (body.FollowUp t) rest = rest
more_octets (body.DelayResp r) rest = identity_octets r.requester rest
more_octets (body.Announce a) rest = announce_octets a rest
more_octets (body.Signaling p) rest = rest

-- what stands behind the header
abbrev pub body_octets : Body → List ℕ → List ℕ
body_octets b rest = first_octets b (more_octets b rest)

-- "fixed sizes"
abbrev pub size_of : Body → ℕ
size_of b = fixed_size (kind_of b)

-- a message with its tail, and then what follows it
unfoldable pub message_octets : Message → List ℕ → List ℕ → List ℕ
message_octets m tail rest =
    header_octets m.header m.body (size_of m.body + length tail) (body_octets m.body (tail ++ rest))
