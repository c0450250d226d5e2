-- What the theorems of the round trip speak of: the refusals 18 and 16 in 01's own words, and the octets of a message with its
-- reserved fields and controlField as they are written.
use Rattle.std.specs.Prelude.{ℕ, ◌+◌, ◌^◌, ◌<◌, ◌≤◌, ◌≡◌, List, [], Bool, true, false, not, ◌&&◌, eqb, ltb, leb, length, set, Result}
use Rattle.refusal.specs.Choice.{pick}
use Rattle.message.specs.Fields.{type_of, body_of}
use Rattle.message.specs.Reading.{check_of, by}
use Rattle.message.specs.declared.fields.Timestamp.{Timestamp}
use Rattle.message.specs.declared.fields.Body.{Body}
use Rattle.message.specs.declared.fields.Body.TheVariants as body
use Rattle.message.specs.declared.fields.Message.{Message}
use Rattle.layout.specs.Layout.{control_of, size_of, message_octets}
use Rattle.refusal.specs.declared.Refusal.{Refusal}

-- the reading checks refuse nothing
abbrev pub is_done : Result (Unit {0}) Refusal → Bool
is_done x = by x (λ y. false) true

-- "48-bit seconds, 32-bit nanoseconds"
abbrev pub stamp_held : Timestamp → Bool
stamp_held t = ltb t.seconds (2 ^ 48) && ltb t.nanoseconds (2 ^ 32)

abbrev pub body_held : Body → Bool
body_held (body.Sync t) = stamp_held t
body_held (body.DelayReq t) = stamp_held t
body_held (body.FollowUp t) = stamp_held t
body_held (body.DelayResp r) = stamp_held r.receive
body_held (body.Announce a) = stamp_held a.origin
body_held (body.Signaling p) = true

-- "a value to write doesn't fit its field or would be refused when read, the length would pass 65,535"
abbrev pub unfit : ℕ → Message → List ℕ → Bool
unfit magic m tail =
    not
    (ltb m.header.transport 16
    && body_held m.body
    && leb (size_of m.body + length tail) 65535
    && is_done (check_of magic (message_octets m tail [])))

-- "Writing: 18, 16": which number it gives, 0 where the message is written, with so much room in the buffer
pub data WriteWhen (magic : ℕ) (m : Message) (tail : List ℕ) (room : ℕ) : ℕ → Type 0 where
  no_field : unfit magic m tail ≡ true → WriteWhen magic m tail room 18
  -- "output buffer smaller than the message"
  no_room : unfit magic m tail ≡ false → room < size_of m.body + length tail → WriteWhen magic m tail room 16
  fitting : unfit magic m tail ≡ false → size_of m.body + length tail ≤ room → WriteWhen magic m tail room 0

-- "Reserved fields are ignored when read, written as zero": octet 5, octets 16 to 19, and the high half of octet 1, whose
-- low half is version 2. "controlField .. written" at 32
abbrev pub cleared_header : ℕ → List ℕ → List ℕ
cleared_header control s = set (set (set (set (set (set (set s 1 2) 5 0) 16 0) 17 0) 18 0) 19 0) 32 control

-- in an Announce octet 46 too
abbrev pub cleared : List ℕ → List ℕ
cleared s =
    let h = cleared_header (control_of (body_of s)) s in
    pick (eqb (type_of s) 0xB) (set h 46 0) h
