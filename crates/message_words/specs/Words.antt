-- Messages in twenty words: type, transportSpecific, domain, flags, correction, source clock and port, sequenceId, interval, then the body by
-- type, and zeros. A number that is read is taken modulo the width of its field; signed ones are two's complement in 64 bits.
use Rattle.std.specs.Prelude.{ℕ, ◌+◌, ◌%◌, Bool, List, [], ◌∷◌, eqb, get_or, take}
use Rattle.std.specs.Int.{w8, w16, w64}
use Rattle.std.proofs.Common.{to_z, of_z}
use Rattle.refusal.specs.Choice.{pick}
use Rattle.rank.specs.Order.{same}
use Rattle.identity.specs.declared.PortIdentity.{PortIdentity}
use Rattle.message.specs.declared.fields.Timestamp.{Timestamp}
use Rattle.message.specs.declared.fields.Header.{Header}
use Rattle.message.specs.declared.fields.Announce.{Announce}
use Rattle.message.specs.declared.fields.DelayResp.{DelayResp}
use Rattle.message.specs.declared.fields.Body.{Body}
use Rattle.message.specs.declared.fields.Body.TheVariants as body
use Rattle.message.specs.declared.fields.Message.{Message}
use Rattle.layout.specs.Layout.{kind_of}

-- two numbers, and zeros
abbrev pub pair_words : ℕ → ℕ → List ℕ
pair_words a b = a ∷ b ∷ 0 ∷ 0 ∷ 0 ∷ 0 ∷ 0 ∷ 0 ∷ 0 ∷ 0 ∷ 0 ∷ []

-- SECONDS NANOS CLOCK PORT
abbrev pub resp_words : DelayResp → List ℕ
resp_words x =
    x.receive.seconds ∷ x.receive.nanoseconds ∷ x.requester.clock ∷ x.requester.port ∷ 0 ∷ 0 ∷ 0 ∷ 0 ∷ 0 ∷ 0 ∷ 0 ∷ []

-- SECONDS NANOS UTC P1 CLASS ACC VAR P2 GM STEPS SOURCE
abbrev pub announce_words : Announce → List ℕ
announce_words a =
    a.origin.seconds
    ∷ a.origin.nanoseconds
    ∷ of_z w64 a.utc
    ∷ a.priority1
    ∷ a.class
    ∷ a.accuracy
    ∷ a.variance
    ∷ a.priority2
    ∷ a.grandmaster
    ∷ a.steps
    ∷ a.timesource
    ∷ []

unfoldable pub body_words : Body → List ℕ
body_words (body.Sync t) = pair_words t.seconds t.nanoseconds
body_words (body.DelayReq t) = pair_words t.seconds t.nanoseconds
body_words (body.FollowUp t) = pair_words t.seconds t.nanoseconds
body_words (body.DelayResp x) = resp_words x
body_words (body.Announce a) = announce_words a
body_words (body.Signaling p) = pair_words p.clock p.port

-- TYPE TRANSPORT DOMAIN FLAGS CORRECTION CLOCK PORT SEQUENCE INTERVAL, then the body
unfoldable pub message_words : Message → List ℕ
message_words m =
    kind_of m.body
    ∷ m.header.transport
    ∷ m.header.domain
    ∷ m.header.flags
    ∷ of_z w64 m.header.correction
    ∷ m.header.source.clock
    ∷ m.header.source.port
    ∷ m.header.sequence
    ∷ of_z w64 m.header.interval
    ∷ body_words m.body

abbrev pub stamp_of : List ℕ → Timestamp
stamp_of w = record { seconds = get_or w 9 0; nanoseconds = get_or w 10 0 % 0x100000000 }

abbrev pub identity_at : List ℕ → ℕ → PortIdentity
identity_at w at = record { clock = get_or w at 0; port = get_or w (at + 1) 0 % 65536 }

unfoldable pub header_of : List ℕ → Header
header_of w =
    record {
      transport = get_or w 1 0 % 256;
      domain = get_or w 2 0 % 256;
      flags = get_or w 3 0 % 65536;
      correction = to_z w64 (get_or w 4 0);
      source = identity_at w 5;
      sequence = get_or w 7 0 % 65536;
      interval = to_z w8 (get_or w 8 0 % 256);
    }

unfoldable pub announce_of : List ℕ → Announce
announce_of w =
    record {
      origin = stamp_of w;
      utc = to_z w16 (get_or w 11 0 % 65536);
      priority1 = get_or w 12 0 % 256;
      class = get_or w 13 0 % 256;
      accuracy = get_or w 14 0 % 256;
      variance = get_or w 15 0 % 65536;
      priority2 = get_or w 16 0 % 256;
      grandmaster = get_or w 17 0;
      steps = get_or w 18 0 % 65536;
      timesource = get_or w 19 0 % 256;
    }

-- by the type in the first word
unfoldable pub body_of : List ℕ → Body
body_of w =
    pick (eqb (get_or w 0 0) 0x0) (body.Sync (stamp_of w))
    (pick (eqb (get_or w 0 0) 0x1) (body.DelayReq (stamp_of w))
    (pick (eqb (get_or w 0 0) 0x8) (body.FollowUp (stamp_of w))
    (pick (eqb (get_or w 0 0) 0x9) (body.DelayResp (record { receive = stamp_of w; requester = identity_at w 11 }))
    (pick (eqb (get_or w 0 0) 0xB) (body.Announce (announce_of w))
    (body.Signaling (identity_at w 9))))))

abbrev pub message_of : List ℕ → Message
message_of w = record { header = header_of w; body = body_of w }

-- how many words a message of a type has fields for; "Fields the type doesn't have" are not looked at
unfoldable pub words_for : ℕ → ℕ
words_for kind = pick (eqb kind 0x9) 13 (pick (eqb kind 0xB) 20 11)

-- "a value to write doesn't fit its field": the words are not those of the message that is read out of them; a type that is
-- not listed is not Signaling's either
abbrev pub is_whole : List ℕ → Bool
is_whole w = same (take (words_for (get_or w 0 0)) (message_words (message_of w))) (take (words_for (get_or w 0 0)) w)
