-- The words of a message that was read are whole: reading it out of them gives the message again, so that writing never refuses them for a
-- number that does not fit its field.
use Prim.Native.Nat.{ℕ, ◌%◌, ◌<◌}
use mathlib.Core.Path.{◌≡◌, refl, ◌∙◌, ap}
use mathlib.Core.Bool.{true}
use mathlib.Core.List.{List, [], ◌∷◌}
use native.Mathlib.Omega.{arith}
use lib.IntN.{ℤ, pos, negsuc}
use mir.Syntax.{w8, w16, w64}
use mir.Val.{of_z, to_z, SFits}
use mir.ValLaws.{to_z-of_z}
use borrow.Author.Tests.{eq-eqb}
use Rattle.rank.specs.Order.{same}
use Rattle.message.specs.declared.fields.Header.{Header}
use Rattle.message.specs.declared.fields.Announce.{Announce}
use Rattle.message.specs.declared.fields.Body.{Body}
use Rattle.message.specs.declared.fields.Body.TheVariants as body
use Rattle.message.specs.declared.fields.Message.{Message}
use Rattle.tlv.specs.declared.wr.LinkMessage.{LinkMessage}
use Rattle.tlv.specs.declared.wr.LinkMessage.TheVariants.{SlavePresent, Lock, Locked, Calibrate, Calibrated, ModeOn}
use lib.ListN.{get_or, take}
use Rattle.message_words.specs.Words.{body_words, message_words, header_of, announce_of, body_of, message_of, words_for, is_whole}
use Rattle.message_words.specs.Answers.{link_message_words}
use Rattle.message_words.specs.Writing.{link_message_of, link_words_for, is_link}

-- what the types of the fields say of their values
pub record HeaderFits (h : Header) : Type 0 where
  pub transport : h.transport < 256
  pub domain : h.domain < 256
  pub flags : h.flags < 65536
  pub correction : SFits w64 h.correction
  pub source : h.source.port < 65536
  pub sequence : h.sequence < 65536
  pub interval : SFits w8 h.interval

pub record AnnounceFits (a : Announce) : Type 0 where
  pub origin : a.origin.nanoseconds < 0x100000000
  pub utc : SFits w16 a.utc
  pub priority1 : a.priority1 < 256
  pub class : a.class < 256
  pub accuracy : a.accuracy < 256
  pub variance : a.variance < 65536
  pub priority2 : a.priority2 < 256
  pub steps : a.steps < 65536
  pub source : a.timesource < 256

abbrev pub BodyFits : Body → Type 0
BodyFits (body.Sync t) = t.nanoseconds < 0x100000000
BodyFits (body.DelayReq t) = t.nanoseconds < 0x100000000
BodyFits (body.FollowUp t) = t.nanoseconds < 0x100000000
BodyFits (body.DelayResp r) = (r.receive.nanoseconds < 0x100000000) × (r.requester.port < 65536)
BodyFits (body.Announce a) = AnnounceFits a
BodyFits (body.Signaling p) = p.port < 65536

octet : (n : ℕ) → n < 256 → n % 256 ≡ n
octet n h = omega arith

two : (n : ℕ) → n < 65536 → n % 65536 ≡ n
two n h = omega arith

four : (n : ℕ) → n < 0x100000000 → n % 0x100000000 ≡ n
four n h = omega arith

-- the low octets of a signed number's word are its own two's complement
low8 : (z : ℤ) → SFits w8 z → of_z w64 z % 256 ≡ of_z w8 z
low8 (pos n) h = omega (arith, h.sfits)
low8 (negsuc n) h = omega (arith, h.sfits)

low16 : (z : ℤ) → SFits w16 z → of_z w64 z % 65536 ≡ of_z w16 z
low16 (pos n) h = omega (arith, h.sfits)
low16 (negsuc n) h = omega (arith, h.sfits)

module _ (m : Message) (h : HeaderFits m.header) where
  header_kept : header_of (message_words m) ≡ m.header
  unfolding header_of message_words
  header_kept =
      λ i. record {
        transport = octet m.header.transport h.transport i;
        domain = octet m.header.domain h.domain i;
        flags = two m.header.flags h.flags i;
        correction = to_z-of_z w64 m.header.correction h.correction i;
        source = record { clock = m.header.source.clock; port = two m.header.source.port h.source i };
        sequence = two m.header.sequence h.sequence i;
        interval = (ap (to_z w8) (low8 m.header.interval h.interval) ∙ to_z-of_z w8 m.header.interval h.interval) i;
      }

-- the words of a message with this body
abbrev of : Header → Body → List ℕ
of h b = message_words (record { header = h; body = b })

announce_kept : (h : Header) (a : Announce) → AnnounceFits a → announce_of (of h (body.Announce a)) ≡ a
unfolding announce_of message_words body_words
announce_kept h a f =
    λ i. record {
      origin = record { seconds = a.origin.seconds; nanoseconds = four a.origin.nanoseconds f.origin i };
      utc = (ap (to_z w16) (low16 a.utc f.utc) ∙ to_z-of_z w16 a.utc f.utc) i;
      priority1 = octet a.priority1 f.priority1 i;
      class = octet a.class f.class i;
      accuracy = octet a.accuracy f.accuracy i;
      variance = two a.variance f.variance i;
      priority2 = octet a.priority2 f.priority2 i;
      grandmaster = a.grandmaster;
      steps = two a.steps f.steps i;
      timesource = octet a.timesource f.source i;
    }

body_kept : (h : Header) (b : Body) → BodyFits b → body_of (of h b) ≡ b
unfolding body_of message_words body_words
body_kept h (body.Sync t) f = λ i. body.Sync (record { seconds = t.seconds; nanoseconds = four t.nanoseconds f i })
body_kept h (body.DelayReq t) f = λ i. body.DelayReq (record { seconds = t.seconds; nanoseconds = four t.nanoseconds f i })
body_kept h (body.FollowUp t) f = λ i. body.FollowUp (record { seconds = t.seconds; nanoseconds = four t.nanoseconds f i })
body_kept h (body.DelayResp r) f =
    λ i. body.DelayResp
    (record {
      receive = record { seconds = r.receive.seconds; nanoseconds = four r.receive.nanoseconds f.0 i };
      requester = record { clock = r.requester.clock; port = two r.requester.port f.1 i };
    })
body_kept h (body.Announce a) f = ap body.Announce (announce_kept h a f)
body_kept h (body.Signaling p) f = λ i. body.Signaling (record { clock = p.clock; port = two p.port f i })

same_self : (l : List ℕ) → same l l ≡ true
same_self [] = refl
same_self (x ∷ xs) = rw (eq-eqb x x refl) (same_self xs)

pub message_kept : (m : Message) → HeaderFits m.header → BodyFits m.body → message_of (message_words m) ≡ m
message_kept m h b = λ i. record { header = header_kept m h i; body = body_kept m.header m.body b i }

pub message_whole : (m : Message) → HeaderFits m.header → BodyFits m.body → is_whole (message_words m) ≡ true
message_whole m h b =
    let n = words_for (get_or (message_words m) 0 0) in
    ap (λ (x : Message). same (take n (message_words x)) (take n (message_words m))) (message_kept m h b) ∙ same_self (take n (message_words m))

-- the same of a link message
abbrev pub LinkFits : LinkMessage → Type 0
LinkFits SlavePresent = Unit {0}
LinkFits Lock = Unit {0}
LinkFits Locked = Unit {0}
LinkFits (Calibrate pattern retry period) = (pattern < 256) × (retry < 256) × (period < 0x100000000)
LinkFits (Calibrated tx rx) = Unit {0}
LinkFits ModeOn = Unit {0}

pub link_kept : (m : LinkMessage) → LinkFits m → link_message_of (link_message_words m) ≡ m
unfolding link_message_of
link_kept SlavePresent f = refl
link_kept Lock f = refl
link_kept Locked f = refl
link_kept (Calibrate pattern retry period) f = λ i. Calibrate (octet pattern f.0 i) (octet retry f.1 i) (four period f.2 i)
link_kept (Calibrated tx rx) f = refl
link_kept ModeOn f = refl

pub link_whole : (m : LinkMessage) → LinkFits m → is_link (link_message_words m) ≡ true
link_whole m f =
    let n = link_words_for (get_or (link_message_words m) 0 0) in
    ap (λ (x : LinkMessage). same (take n (link_message_words x)) (take n (link_message_words m))) (link_kept m f) ∙ same_self (take n (link_message_words m))
