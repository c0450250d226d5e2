-- The round trip, from a message to octets and back: writing refuses with 18 and 16 exactly when 01 says, and what it writes is
-- read as the same message with the same tail, with or without padding behind.
use Rattle.std.specs.Prelude.{Result, Ok, Err}
use Prim.Native.Nat.{ℕ, ◌+◌, ◌^◌}
use mathlib.Core.Path.{◌≡◌, refl, sym, ap, subst, ◌∙◌}
use mathlib.Core.List.{List, []}
use mathlib.Core.Bool.{Bool, true, false, not, ◌&&◌}
use native.Mathlib.Omega.{arith}
use borrow.Author.Tests.{lt-ltb, le-ltb, ltb-true, ltb-false, leb-true, leb-false}
use lib.Dec.{ltb, leb}
use lib.ListN.{length, take, drop}
use lib.Seq.{take_at}
use Rattle.refusal.specs.Choice.{refuse}
use Rattle.refusal.specs.Refusal.{code_of}
use Rattle.refusal.proofs.Choice.{goes_on}
use Rattle.refusal.specs.declared.Refusal.TheVariants.{Field, Room}
use Rattle.tlv.specs.Faults.{fault_of}
use Rattle.tlv.specs.declared.walk.Fault.{Fault}
use Rattle.tlv.specs.declared.walk.Fault.TheVariants.{Broken, Misfit}
use Rattle.message.specs.Reading.{check_of, by, read_of}
use Rattle.contents.specs.Parts.{tail_in}
use Rattle.message.specs.declared.fields.Timestamp.{Timestamp}
use Rattle.message.specs.declared.fields.Body.{Body}
use Rattle.message.specs.declared.fields.Body.TheVariants as body
use Rattle.message.specs.declared.fields.Message.{Message}
use Rattle.layout.specs.Layout.{size_of, message_octets}
use Rattle.writer.specs.Writing.{stamp_fits, body_fits, write_check, write_of, written_code, buffer_of}
use Rattle.writer.proofs.Allowed.{allowed}
use Rattle.layout.proofs.Buffer.{append_rest}
use Rattle.roundtrip.specs.Range.{MessageRange}
use Rattle.roundtrip.specs.RoundTrip.{stamp_held, body_held, unfit, WriteWhen, no_field, no_room, fitting}
use Rattle.roundtrip.proofs.Written.{late_stamp, written_check, written_message, written_tail, written_octets}
use Rattle.refusal.specs.declared.Refusal.{Refusal}

below : (a b : ℕ) → ltb a b ≡ not (leb b a)
below a b = by (leb b a) refl
  where
    by : (t : Bool) → leb b a ≡ t → ltb a b ≡ not t
    by true e = le-ltb a b (leb-true b a e)
    by false e = lt-ltb a b (leb-false b a e)

-- a timestamp is checked against its field, and as it is read
stamp_by : (t : Timestamp) → stamp_fits t ≡ stamp_held t && not (leb 1000000000 t.nanoseconds)
unfolding stamp_fits
stamp_by t = by (ltb t.seconds (2 ^ 48)) (leb 1000000000 t.nanoseconds) refl
  where
    by : (a l : Bool) → leb 1000000000 t.nanoseconds ≡ l → (a && ltb t.nanoseconds 1000000000) ≡ ((a && ltb t.nanoseconds (2 ^ 32)) && not l)
    by false l e = refl
    by true true e =
        let h = leb-true 1000000000 t.nanoseconds e in
        rw (le-ltb t.nanoseconds 1000000000 h) (sym (never (ltb t.nanoseconds (2 ^ 32))))
      where
        never : (x : Bool) → (x && false) ≡ false
        never true = refl
        never false = refl
    by true false e =
        let h = leb-false 1000000000 t.nanoseconds e in
        rw (lt-ltb t.nanoseconds 1000000000 h, lt-ltb t.nanoseconds (2 ^ 32) (omega arith))

stamp_split : (b : Body) → body_fits b ≡ body_held b && not (late_stamp b)
stamp_split (body.Sync t) = stamp_by t
stamp_split (body.DelayReq t) = stamp_by t
stamp_split (body.FollowUp t) = stamp_by t
stamp_split (body.DelayResp r) = stamp_by r.receive
stamp_split (body.Announce a) = stamp_by a.origin
stamp_split (body.Signaling p) = refl

split : (a b : Bool) → a && not b ≡ true → (a ≡ true) × (b ≡ false)
split true true e = absurd (let z : ◌≡◌ {A = ℕ} 0 1 = cc in omega arith)
split true false e = (refl, refl)
split false b e = absurd (let z : ◌≡◌ {A = ℕ} 0 1 = cc in omega arith)

module _ (magic : ℕ) (m : Message) (tail : List ℕ) where
  abbrev n : ℕ
  n = size_of m.body + length tail

  -- the checks of writing come down to two
  checked : (room : ℕ) → write_check magic m tail room ≡ refuse (unfit magic m tail) (Err Field) (refuse (ltb room n) (Err Room) (Ok tt))
  unfolding write_check refuse
  checked room = cases (ltb m.header.transport 16) (body_held m.body) (leb n 65535) (late_stamp m.body) (fault_of magic tail) refl refl refl refl refl
    where
      cases : (a f k l : Bool) (o : Result (Unit {0}) Fault) → ltb m.header.transport 16 ≡ a → body_held m.body ≡ f → leb n 65535 ≡ k → late_stamp m.body ≡ l
          → fault_of magic tail ≡ o
          → write_check magic m tail room ≡ refuse (unfit magic m tail) (Err Field) (refuse (ltb room n) (Err Room) (Ok tt))
      cases false f k l o ea ef ek el eo = simp ea
      cases true false k l o ea ef ek el eo = simp (ea, stamp_split m.body, ef)
      cases true true false true o ea ef ek el eo = simp (ea, stamp_split m.body, ef, ek, el)
      cases true true false false o ea ef ek el eo = simp (ea, stamp_split m.body, ef, el, below 65535 n, ek)
      cases true true true true o ea ef ek el eo =
          simp (ea, stamp_split m.body, ef, el, ek, written_check m tail [] (leb-true n 65535 ek) ef magic)
      cases true true true false (Err (Broken p)) ea ef ek el eo =
          simp (ea, stamp_split m.body, ef, el, below 65535 n, ek, written_check m tail [] (leb-true n 65535 ek) ef magic, eo)
      cases true true true false (Err (Misfit p)) ea ef ek el eo =
          simp (ea, stamp_split m.body, ef, el, below 65535 n, ek, written_check m tail [] (leb-true n 65535 ek) ef magic, eo)
      cases true true true false (Ok tt) ea ef ek el eo =
          simp (ea, stamp_split m.body, ef, el, below 65535 n, ek, written_check m tail [] (leb-true n 65535 ek) ef magic, eo)

  -- the number of the answer is that of the checks
  pub write_code : (out : List ℕ) → written_code (write_of magic m tail out) ≡ code_of (write_check magic m tail (length out))
  unfolding write_of
  write_code out = by_code (write_check magic m tail (length out))
    where
      by_code : (o : Result (Unit {0}) Refusal) → written_code (by o Err (Ok n)) ≡ code_of o
      by_code (Ok tt) = refl
      by_code (Err x) = refl

  -- A LINE THAT HOLDS: its number is given. 18 "a value to write doesn't fit its field or would be refused when read, the
  -- length would pass 65,535", then 16
  pub when_write : (out : List ℕ) {k : ℕ} → WriteWhen magic m tail (length out) k → written_code (write_of magic m tail out) ≡ k
  unfolding refuse
  when_write out (no_field e) = write_code out ∙ ap code_of (checked (length out)) ∙ rw e
  when_write out (no_room e h) = write_code out ∙ ap code_of (checked (length out)) ∙ rw (e, lt-ltb (length out) n h)
  when_write out (fitting e h) = write_code out ∙ ap code_of (checked (length out)) ∙ rw (e, le-ltb (length out) n h)

  -- THE NUMBER GIVEN: its line holds
  pub write_told : (out : List ℕ) → WriteWhen magic m tail (length out) (written_code (write_of magic m tail out))
  write_told out =
      let l = line (unfit magic m tail) refl (ltb (length out) n) refl in
      subst (WriteWhen magic m tail (length out)) (sym (when_write out l.1)) l.1
    where
      line : (u : Bool) → unfit magic m tail ≡ u → (r : Bool) → ltb (length out) n ≡ r → (k : ℕ) × WriteWhen magic m tail (length out) k
      line true e r f = (18, no_field e)
      line false e true f = (16, no_room e (ltb-true (length out) n f))
      line false e false f = (0, fitting e (ltb-false (length out) n f))

-- what a message is read as: itself, with its tail
pub record ReadAs (magic : ℕ) (s : List ℕ) (m : Message) (tail : List ℕ) : Type 0 where
  pub message : read_of magic s ≡ Ok m
  pub tail_is : tail_in magic s ≡ tail

-- an answer that counts octets comes of checks that were passed
pub gave : (x : Result (Unit {0}) Refusal) {k l : ℕ} → by x Err (Ok k) ≡ Ok l → (x ≡ Ok tt) × (k ≡ l)
gave (Ok tt) e = (refl, cc)
gave (Err y) e = absurd (let z : ◌≡◌ {A = ℕ} 0 1 = cc in omega arith)

module _ (magic : ℕ) (m : Message) (tail : List ℕ) where
  -- reading accepts what writing allows, whatever stands behind it
  pub accepted_back : (room : ℕ) (rest : List ℕ) → write_check magic m tail room ≡ Ok tt → check_of magic (message_octets m tail rest) ≡ Ok tt
  accepted_back room rest e =
      let a = allowed magic m tail room e in
      let f = split (body_held m.body) (late_stamp m.body) (sym (stamp_split m.body) ∙ a.stamp) in
      written_check m tail rest a.long f.0 magic ∙ rw (f.1, a.tlvs) (goes_on _ _ _ refl)

  -- and reads it as it was; that the fields are in range is what their types say (src/lib.rt)
  pub read_back : MessageRange m → (room : ℕ) (rest : List ℕ) → write_check magic m tail room ≡ Ok tt → ReadAs magic (message_octets m tail rest) m tail
  unfolding read_of tail_in
  read_back r room rest e =
      let a = allowed magic m tail room e in
      let f = split (body_held m.body) (late_stamp m.body) (sym (stamp_split m.body) ∙ a.stamp) in
      let c = accepted_back room rest e in
      record {
        message = rw c (ap Ok (written_message m tail rest a.long f.0 r));
        tail_is = rw c (written_tail m tail rest a.long);
      }

  -- the buffer that writing leaves is read as the message, whole, or cut to the octets that writing counts
  pub buffer_back : MessageRange m → (out : List ℕ) (k : ℕ) → write_of magic m tail out ≡ Ok k
      → ReadAs magic (buffer_of magic m tail out) m tail × ReadAs magic (take k (buffer_of magic m tail out)) m tail
  unfolding write_of buffer_of
  buffer_back r out k e =
      let n = size_of m.body + length tail in
      let g = gave (write_check magic m tail (length out)) e in
      let w = allowed magic m tail (length out) g.0 in
      let front : take k (message_octets m tail (drop n out)) ≡ message_octets m tail [] =
      rw (← append_rest m tail (drop n out), ← g.1)
      (take_at (message_octets m tail []) (drop n out) n (written_octets m tail [] w.long ∙ omega arith)) in
      (rw g.0 (read_back r (length out) (drop n out) g.0), rw (g.0, front) (read_back r (length out) [] g.0))
