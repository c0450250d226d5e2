-- Messages in words whose numbers are all different, written out: an exchange of two words breaks the table, also where definition and code are changed
-- alike. include/dzervolat.h has the same order.
use Rattle.std.specs.Prelude.{Some, Ok}
use Prim.Native.Nat.{ℕ}
use mathlib.Core.Path.{◌≡◌, refl}
use mathlib.Core.List.{List, [], ◌∷◌}
use lib.IntN.{negsuc}
use Rattle.octets.specs.Be.{be}
use Rattle.tlv.specs.declared.wr.LinkMessage.TheVariants.{SlavePresent, Lock, Locked, Calibrate, Calibrated, ModeOn}
use Rattle.message.specs.declared.fields.Header.{Header}
use Rattle.message.specs.declared.fields.Body.{Body}
use Rattle.message.specs.declared.fields.Body.TheVariants as body
use Rattle.message.specs.declared.fields.Message.{Message}
use Rattle.message.specs.Fields.{fixed_size}
use Rattle.message_words.specs.Words.{message_words, body_words, message_of, header_of, body_of, announce_of}
use Rattle.message_words.specs.Answers.{tail_words, tlv_words, walked_words, suffix_words, origin_words, link_message_words}
use Rattle.message_words.specs.Writing.{link_message_of}

-- correction -2, interval -3
abbrev pub header : Header
header =
    record {
      transport = 11;
      domain = 12;
      flags = 13;
      correction = negsuc 1;
      source = record { clock = 14; port = 15 };
      sequence = 16;
      interval = negsuc 2;
    }

abbrev pub with_body : Body → Message
with_body b = record { header = header; body = b }

-- TYPE TRANSPORT DOMAIN FLAGS CORRECTION CLOCK PORT SEQUENCE INTERVAL, then the body
abbrev pub words : ℕ → List ℕ → List ℕ
words kind rest = kind ∷ 11 ∷ 12 ∷ 13 ∷ 0xfffffffffffffffe ∷ 14 ∷ 15 ∷ 16 ∷ 0xfffffffffffffffd ∷ rest

abbrev pub pair : List ℕ
pair = 21 ∷ 22 ∷ 0 ∷ 0 ∷ 0 ∷ 0 ∷ 0 ∷ 0 ∷ 0 ∷ 0 ∷ 0 ∷ []

-- currentUtcOffset -4
abbrev pub announced : Body
announced =
    body.Announce
    (record {
      origin = record { seconds = 21; nanoseconds = 22 };
      utc = negsuc 3;
      priority1 = 23;
      class = 24;
      accuracy = 25;
      variance = 26;
      priority2 = 27;
      grandmaster = 28;
      steps = 29;
      timesource = 30;
    })

abbrev pub answered : Body
answered = body.DelayResp (record { receive = record { seconds = 21; nanoseconds = 22 }; requester = record { clock = 23; port = 24 } })

abbrev pub announce_words_lem : List ℕ
announce_words_lem = words 0xB (21 ∷ 22 ∷ 0xfffffffffffffffc ∷ 23 ∷ 24 ∷ 25 ∷ 26 ∷ 27 ∷ 28 ∷ 29 ∷ 30 ∷ [])

abbrev pub resp_words_lem : List ℕ
resp_words_lem = words 0x9 (21 ∷ 22 ∷ 23 ∷ 24 ∷ 0 ∷ 0 ∷ 0 ∷ 0 ∷ 0 ∷ 0 ∷ 0 ∷ [])

-- each type into its words, and out of them
pub record Messages : Type 0 where
  pub sync_out : message_words (with_body (body.Sync (record { seconds = 21; nanoseconds = 22 }))) ≡ words 0x0 pair
  pub request_out : message_words (with_body (body.DelayReq (record { seconds = 21; nanoseconds = 22 }))) ≡ words 0x1 pair
  pub follow_out : message_words (with_body (body.FollowUp (record { seconds = 21; nanoseconds = 22 }))) ≡ words 0x8 pair
  pub resp_out : message_words (with_body answered) ≡ resp_words_lem
  pub announce_out : message_words (with_body announced) ≡ announce_words_lem
  pub signaling_out : message_words (with_body (body.Signaling (record { clock = 21; port = 22 }))) ≡ words 0xC pair
  pub sync_in : message_of (words 0x0 pair) ≡ with_body (body.Sync (record { seconds = 21; nanoseconds = 22 }))
  pub request_in : message_of (words 0x1 pair) ≡ with_body (body.DelayReq (record { seconds = 21; nanoseconds = 22 }))
  pub follow_in : message_of (words 0x8 pair) ≡ with_body (body.FollowUp (record { seconds = 21; nanoseconds = 22 }))
  pub resp_in : message_of resp_words_lem ≡ with_body answered
  pub announce_in : message_of announce_words_lem ≡ with_body announced
  pub signaling_in : message_of (words 0xC pair) ≡ with_body (body.Signaling (record { clock = 21; port = 22 }))

pub messages : Messages
unfolding message_words body_words header_of body_of announce_of
messages =
    record {
      sync_out = refl;
      request_out = refl;
      follow_out = refl;
      resp_out = refl;
      announce_out = refl;
      signaling_out = refl;
      sync_in = refl;
      request_in = refl;
      follow_in = refl;
      resp_in = refl;
      announce_in = refl;
      signaling_in = refl;
    }

-- NUMBER PATTERN RETRY PERIOD TX RX, and the small answers
pub record Links : Type 0 where
  pub present : link_message_words SlavePresent ≡ 0x1000 ∷ 0 ∷ 0 ∷ 0 ∷ 0 ∷ 0 ∷ []
  pub lock : link_message_words Lock ≡ 0x1001 ∷ 0 ∷ 0 ∷ 0 ∷ 0 ∷ 0 ∷ []
  pub locked : link_message_words Locked ≡ 0x1002 ∷ 0 ∷ 0 ∷ 0 ∷ 0 ∷ 0 ∷ []
  pub calibrate : link_message_words (Calibrate 31 32 33) ≡ 0x1003 ∷ 31 ∷ 32 ∷ 33 ∷ 0 ∷ 0 ∷ []
  pub calibrated : link_message_words (Calibrated 34 35) ≡ 0x1004 ∷ 0 ∷ 0 ∷ 0 ∷ 34 ∷ 35 ∷ []
  pub mode_on : link_message_words ModeOn ≡ 0x1005 ∷ 0 ∷ 0 ∷ 0 ∷ 0 ∷ 0 ∷ []
  pub calibrate_in : link_message_of (0x1003 ∷ 31 ∷ 32 ∷ 33 ∷ 34 ∷ 35 ∷ []) ≡ Calibrate 31 32 33
  pub calibrated_in : link_message_of (0x1004 ∷ 31 ∷ 32 ∷ 33 ∷ 34 ∷ 35 ∷ []) ≡ Calibrated 34 35
  pub tail : tail_words (Ok (with_body announced)) 41 [] ≡ 64 ∷ 41 ∷ []
  pub tlv : tlv_words (Ok (Some 42)) 43 [] ≡ 1 ∷ 42 ∷ 43 ∷ []
  pub walked : walked_words (Ok (Some (record { place = 70; kind = 3; length = 10 }))) [] ≡ 1 ∷ 70 ∷ 3 ∷ 10 ∷ 74 ∷ 84 ∷ []
  pub suffix : suffix_words (Ok (Some 7)) [] ≡ 1 ∷ 7 ∷ []
  pub stamp : origin_words (Ok tt) (0 ∷ 0 ∷ 0 ∷ 0 ∷ 1 ∷ 2 ∷ 0 ∷ 0 ∷ 3 ∷ 4 ∷ []) [] ≡ 258 ∷ 772 ∷ []

pub links : Links
unfolding link_message_of be fixed_size
links =
    record {
      present = refl;
      lock = refl;
      locked = refl;
      calibrate = refl;
      calibrated = refl;
      mode_on = refl;
      calibrate_in = refl;
      calibrated_in = refl;
      tail = refl;
      tlv = refl;
      walked = refl;
      suffix = refl;
      stamp = refl;
    }
