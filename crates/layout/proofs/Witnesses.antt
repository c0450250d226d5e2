-- Messages written out octet by octet: an octet that a field fills holds the number of its place, the first one of a signed field 0x80 more. Another
-- order, another place or another number of type, length or control breaks the table, also where definition and code are changed alike.
use Prim.Native.Nat.{ℕ}
use mathlib.Core.Path.{◌≡◌, refl}
use mathlib.Core.List.{List, [], ◌∷◌}
use lib.IntN.{negsuc}
use Rattle.message.specs.Fields.{fixed_size}
use Rattle.message.specs.declared.fields.Header.{Header}
use Rattle.message.specs.declared.fields.DelayResp.{DelayResp}
use Rattle.message.specs.declared.fields.Announce.{Announce}
use Rattle.message.specs.declared.fields.Body.{Body}
use Rattle.message.specs.declared.fields.Body.TheVariants as body
use Rattle.identity.specs.declared.PortIdentity.{PortIdentity}
use Rattle.message.specs.declared.fields.Timestamp.{Timestamp}
use Rattle.layout.specs.Layout.{identity_octets, stamp_octets, lead_octets, close_octets, announce_octets, message_octets}

abbrev header : Header
header =
    record {
      transport = 3;
      domain = 0x04;
      flags = 0x0607;
      correction = negsuc 0x77F6F5F4F3F2F1F0;
      source = record { clock = 0x1415161718191A1B; port = 0x1C1D };
      sequence = 0x1E1F;
      interval = negsuc 0x5E;
    }

abbrev stamp : Timestamp
stamp = record { seconds = 0x222324252627; nanoseconds = 0x28292A2B }

abbrev response : DelayResp
response = record { receive = stamp; requester = record { clock = 0x2C2D2E2F30313233; port = 0x3435 } }

abbrev announce : Announce
announce =
    record {
      origin = stamp;
      utc = negsuc 0x53D2;
      priority1 = 0x2F;
      class = 0x30;
      accuracy = 0x31;
      variance = 0x3233;
      priority2 = 0x34;
      grandmaster = 0x35363738393A3B3C;
      steps = 0x3D3E;
      timesource = 0x3F;
    }

abbrev target : PortIdentity
target = record { clock = 0x2223242526272829; port = 0x2A2B }

-- the octets of a message of that body, with a tail and what follows it
abbrev octets : Body → List ℕ → List ℕ → List ℕ
octets b tail rest = message_octets (record { header = header; body = b }) tail rest

-- the 44 octets that every message has, by octet 0, octet 3 and octet 32
abbrev common : (type size control : ℕ) → List ℕ → List ℕ
common type size control rest =
    type ∷ 0x02 ∷ 0x00 ∷ size ∷ 0x04 ∷ 0x00 ∷ 0x06 ∷ 0x07
    ∷ 0x88 ∷ 0x09 ∷ 0x0A ∷ 0x0B ∷ 0x0C ∷ 0x0D ∷ 0x0E ∷ 0x0F ∷ 0x00 ∷ 0x00 ∷ 0x00 ∷ 0x00
    ∷ 0x14 ∷ 0x15 ∷ 0x16 ∷ 0x17 ∷ 0x18 ∷ 0x19 ∷ 0x1A ∷ 0x1B ∷ 0x1C ∷ 0x1D ∷ 0x1E ∷ 0x1F ∷ control ∷ 0xA1
    ∷ 0x22 ∷ 0x23 ∷ 0x24 ∷ 0x25 ∷ 0x26 ∷ 0x27 ∷ 0x28 ∷ 0x29 ∷ 0x2A ∷ 0x2B ∷ rest

-- "Sync 0x0, 44; Delay_Req 0x1, 44; Follow_Up 0x8, 44; Delay_Resp 0x9, 54; Announce 0xB, 64; Signaling 0xC, 44"; "controlField .. written 0 for Sync,
-- 1 Delay_Req, 2 Follow_Up, 3 Delay_Resp, else 5"
pub record Messages : Type 0 where
  pub sync : octets (body.Sync stamp) [] [] ≡ common 0x30 44 0 []
  pub delay_req : octets (body.DelayReq stamp) [] [] ≡ common 0x31 44 1 []
  pub follow_up : octets (body.FollowUp stamp) [] [] ≡ common 0x38 44 2 []
  pub delay_resp : octets (body.DelayResp response) [] []
      ≡ common 0x39 54 3 (0x2C ∷ 0x2D ∷ 0x2E ∷ 0x2F ∷ 0x30 ∷ 0x31 ∷ 0x32 ∷ 0x33 ∷ 0x34 ∷ 0x35 ∷ [])
  pub announce_with_tail : octets (body.Announce announce) (0x40 ∷ 0x41 ∷ []) (0xFE ∷ [])
      ≡ common 0x3B 66 5 (
      0xAC ∷ 0x2D ∷ 0x00 ∷ 0x2F ∷ 0x30 ∷ 0x31 ∷ 0x32 ∷ 0x33 ∷ 0x34 ∷ 0x35 ∷ 0x36 ∷ 0x37 ∷ 0x38 ∷ 0x39 ∷ 0x3A ∷ 0x3B ∷ 0x3C ∷ 0x3D ∷ 0x3E ∷ 0x3F ∷ 0x40 ∷ 0x41 ∷ 0xFE ∷ [])
  pub signaling_with_tail : octets (body.Signaling target) (0x2C ∷ 0x2D ∷ []) [] ≡ common 0x3C 46 5 (0x2C ∷ 0x2D ∷ [])

pub written : Messages
unfolding message_octets lead_octets identity_octets close_octets stamp_octets announce_octets fixed_size
written = record { sync = refl; delay_req = refl; follow_up = refl; delay_resp = refl; announce_with_tail = refl; signaling_with_tail = refl }
