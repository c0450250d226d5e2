-- What the octets of a message say, field by field (01, "Octets of a message").
use Rattle.std.specs.Prelude.{ℕ, ◌+◌, ◌-◌, ◌/◌, ◌%◌, List, eqb, get_or, take, drop}
use Rattle.std.specs.Int.{w8, w16, w64}
use Rattle.std.proofs.Common.{to_z}
use Rattle.octets.specs.Be.{be}
use Rattle.refusal.specs.Choice.{pick}
use Rattle.identity.specs.declared.PortIdentity.{PortIdentity}
use Rattle.message.specs.declared.fields.Timestamp.{Timestamp}
use Rattle.message.specs.declared.fields.Header.{Header}
use Rattle.message.specs.declared.fields.Announce.{Announce}
use Rattle.message.specs.declared.fields.Body.{Body}
use Rattle.message.specs.declared.fields.Body.TheVariants as body
use Rattle.message.specs.declared.fields.Message.{Message}

-- "type (low half of octet 0), transportSpecific (high half), version (low half of 1), messageLength 2-3"
abbrev pub type_of : List ℕ → ℕ
type_of s = get_or s 0 0 % 16

abbrev pub version_of : List ℕ → ℕ
version_of s = get_or s 1 0 % 16

abbrev pub length_of : List ℕ → ℕ
length_of s = be 2 s 2

-- "Identities are ten octets, clock then port."
unfoldable pub identity_at : List ℕ → ℕ → PortIdentity
identity_at s at = record { clock = be 8 s at; port = be 2 s (at + 8) }

-- "domain 4, flags 6-7, correctionField 8-15 signed, sourcePortIdentity 20-29, sequenceId 30-31, .., logMessageInterval
-- 33 signed"
unfoldable pub header_of : List ℕ → Header
header_of s =
    record {
      transport = get_or s 0 0 / 16;
      domain = get_or s 4 0;
      flags = be 2 s 6;
      correction = to_z w64 (be 8 s 8);
      source = identity_at s 20;
      sequence = be 2 s 30;
      interval = to_z w8 (get_or s 33 0);
    }

-- "Types and fixed sizes: Sync 0x0, 44; Delay_Req 0x1, 44; Follow_Up 0x8, 44; Delay_Resp 0x9, 54; Announce 0xB, 64;
-- Signaling 0xC, 44"; 0 for a type that is not listed
unfoldable pub fixed_size : ℕ → ℕ
fixed_size kind =
    pick (eqb kind 0x0) 44
    (pick (eqb kind 0x1) 44
    (pick (eqb kind 0x8) 44
    (pick (eqb kind 0x9) 54
    (pick (eqb kind 0xB) 64
    (pick (eqb kind 0xC) 44
    0)))))

-- "At 34 stands a timestamp (48-bit seconds, 32-bit nanoseconds)"
unfoldable pub stamp_of : List ℕ → Timestamp
stamp_of s = record { seconds = be 6 s 34; nanoseconds = be 4 s 40 }

-- "Announce: currentUtcOffset 44 signed, priority1 47, class 48, accuracy 49, variance 50-51, priority2 52,
-- grandmasterIdentity 53-60, stepsRemoved 61-62, timeSource 63"
unfoldable pub announce_of : List ℕ → Announce
announce_of s =
    record {
      origin = stamp_of s;
      utc = to_z w16 (be 2 s 44);
      priority1 = get_or s 47 0;
      class = get_or s 48 0;
      accuracy = get_or s 49 0;
      variance = be 2 s 50;
      priority2 = get_or s 52 0;
      grandmaster = be 8 s 53;
      steps = be 2 s 61;
      timesource = get_or s 63 0;
    }

-- "in Signaling the ten-octet targetPortIdentity. Delay_Resp has requestingPortIdentity at 44."
unfoldable pub body_of : List ℕ → Body
body_of s =
    pick (eqb (type_of s) 0x0) (body.Sync (stamp_of s))
    (pick (eqb (type_of s) 0x1) (body.DelayReq (stamp_of s))
    (pick (eqb (type_of s) 0x8) (body.FollowUp (stamp_of s))
    (pick (eqb (type_of s) 0x9) (body.DelayResp (record { receive = stamp_of s; requester = identity_at s 44 }))
    (pick (eqb (type_of s) 0xB) (body.Announce (announce_of s))
    (body.Signaling (identity_at s 34))))))

abbrev pub message_of : List ℕ → Message
message_of s = record { header = header_of s; body = body_of s }

-- "The tail up to messageLength"
abbrev pub tail_of : List ℕ → List ℕ
tail_of s = take (length_of s - fixed_size (type_of s)) (drop (fixed_size (type_of s)) s)
