-- Writing: the checks in their order, the answer, and the buffer at exit (01, "Numbers that refuse").
use Rattle.std.specs.Prelude.{ℕ, ◌+◌, ◌^◌, List, Bool, true, not, ◌&&◌, eqb, ltb, length, drop, Result, Ok, Err}
use Rattle.refusal.specs.Limits.{second_nanos}
use Rattle.refusal.specs.Choice.{refuse}
use Rattle.refusal.specs.Refusal.{answer_of}
use Rattle.refusal.specs.declared.Refusal.TheVariants.{Field, Room}
use Rattle.tlv.specs.Faults.{fault_of, is_fault}
use Rattle.message.specs.Fields.{fixed_size}
use Rattle.message.specs.Reading.{by}
use Rattle.message.specs.declared.fields.Timestamp.{Timestamp}
use Rattle.message.specs.declared.fields.Body.{Body}
use Rattle.message.specs.declared.fields.Body.TheVariants as body
use Rattle.message.specs.declared.fields.Message.{Message}
use Rattle.layout.specs.Layout.{size_of, message_octets}
use Rattle.refusal.specs.declared.Refusal.{Refusal}

-- "48-bit seconds"; "a timestamp's nanoseconds are 1,000,000,000 or more" when refused
unfoldable pub stamp_fits : Timestamp → Bool
stamp_fits t = ltb t.seconds (2 ^ 48) && ltb t.nanoseconds second_nanos

-- the same of a message, by its type; a Signaling has no timestamp
abbrev pub body_fits : Body → Bool
body_fits (body.Sync t) = stamp_fits t
body_fits (body.DelayReq t) = stamp_fits t
body_fits (body.FollowUp t) = stamp_fits t
body_fits (body.DelayResp r) = stamp_fits r.receive
body_fits (body.Announce a) = stamp_fits a.origin
body_fits (body.Signaling p) = true

-- "Writing: 18, 16"; 18: "a value to write doesn't fit its field or would be refused when read, the length would pass
-- 65,535"; 16: "output buffer smaller than the message"
unfoldable pub write_check : ℕ → Message → List ℕ → ℕ → Result (Unit {0}) Refusal
write_check magic m tail room =
    refuse (not (ltb m.header.transport 16)) (Err Field)
    (refuse (not (body_fits m.body)) (Err Field)
    (refuse (ltb 65535 (size_of m.body + length tail)) (Err Field)
    (refuse (is_fault (fault_of magic tail)) (Err Field)
    (refuse (ltb room (size_of m.body + length tail)) (Err Room)
    (Ok tt)))))

-- what writing answers: how many octets the message has, or the refusal
unfoldable pub write_of : ℕ → Message → List ℕ → List ℕ → Result ℕ Refusal
write_of magic m tail out =
    by (write_check magic m tail (length out)) Err (Ok (size_of m.body + length tail))

-- this page's number of the answer, 0 where nothing is refused
abbrev pub written_code : Result ℕ Refusal → ℕ
written_code (Ok n) = 0
written_code (Err x) = answer_of x

-- what was lent, by the answer: a refusal leaves it as it was
abbrev pub lent_by : Result ℕ Refusal → List ℕ → List ℕ → List ℕ
lent_by (Ok n) before after = after
lent_by (Err x) before after = before

-- the buffer at exit: "octets past the message stay"; a refusal leaves the whole buffer as it was
unfoldable pub buffer_of : ℕ → Message → List ℕ → List ℕ → List ℕ
buffer_of magic m tail out =
    by (write_check magic m tail (length out)) (λ x. out) (message_octets m tail (drop (size_of m.body + length tail) out))

-- "a type not listed" would be refused when read, so it is 18 too
abbrev pub type_check : ℕ → Result (Unit {0}) Refusal
type_check kind = refuse (eqb (fixed_size kind) 0) (Err Field) (Ok tt)
