-- Reading what was written: the checks find what writing finds, and where writing allows a message it is read again,
-- whatever stands behind it.
use Rattle.std.specs.Prelude.{Err}
use Prim.Native.Nat.{ℕ, ◌+◌, ◌-◌, ◌≤◌}
use mathlib.Core.Path.{◌≡◌, refl}
use mathlib.Core.List.{List, [], ◌++◌}
use mathlib.Core.Bool.{Bool, true, false}
use native.Mathlib.Omega.{arith}
use borrow.Author.Tests.{le-ltb, ne_eqb}
use lib.Dec.{leb}
use lib.ListN.{length, drop, length-append}
use lib.Seq.{take-append_seam}
use Rattle.refusal.specs.Choice.{refuse}
use Rattle.refusal.proofs.Choice.{goes_on}
use Rattle.refusal.specs.declared.Refusal.TheVariants.{Stamp}
use Rattle.octets.specs.Be.{be}
use Rattle.octets.proofs.Laws.{be_octets}
use Rattle.tlv.specs.Faults.{fault_of}
use Rattle.message.specs.Fields.{type_of, version_of, length_of, tail_of, message_of}
use Rattle.message.specs.Reading.{bad_stamp, fault_check, check_of}
use Rattle.message.specs.declared.fields.Timestamp.{Timestamp}
use Rattle.message.specs.declared.fields.Header.{Header}
use Rattle.message.specs.declared.fields.Body.{Body}
use Rattle.message.specs.declared.fields.Body.TheVariants as body
use Rattle.message.specs.declared.fields.Message.{Message}
use Rattle.layout.specs.Layout.{kind_of, size_of, lead_octets, identity_octets, close_octets, stamp_octets, announce_octets, header_octets, body_octets, message_octets}
use Rattle.layout.proofs.Buffer.{least, body_length}
use Rattle.roundtrip.specs.Range.{MessageRange}
use Rattle.roundtrip.specs.RoundTrip.{stamp_held, body_held}
use Rattle.roundtrip.proofs.Back.{held, type_back, length_back, header_back, body_back, drop_fixed}

-- the nanoseconds of a message's timestamp are not below 10^9
abbrev pub late_stamp : Body → Bool
late_stamp (body.Sync t) = leb 1000000000 t.nanoseconds
late_stamp (body.DelayReq t) = leb 1000000000 t.nanoseconds
late_stamp (body.FollowUp t) = leb 1000000000 t.nanoseconds
late_stamp (body.DelayResp r) = leb 1000000000 r.receive.nanoseconds
late_stamp (body.Announce a) = leb 1000000000 a.origin.nanoseconds
late_stamp (body.Signaling p) = false

module _ (h : Header) (b : Body) (n : ℕ) where
  nanoseconds_back : (t : Timestamp) (rest : List ℕ) → stamp_held t ≡ true → be 4 (header_octets h b n (stamp_octets t rest)) 40 ≡ t.nanoseconds
  unfolding lead_octets identity_octets close_octets stamp_octets be
  nanoseconds_back t rest f = be_octets 4 t.nanoseconds [] (held t f).1

-- the check of the timestamp
stamp_check : (h : Header) (b : Body) (n : ℕ) (rest : List ℕ) → body_held b ≡ true → bad_stamp (kind_of b) (header_octets h b n (body_octets b rest)) ≡ late_stamp b
stamp_check h (body.Sync t) n rest f = rw (nanoseconds_back h (body.Sync t) n t rest f)
stamp_check h (body.DelayReq t) n rest f = rw (nanoseconds_back h (body.DelayReq t) n t rest f)
stamp_check h (body.FollowUp t) n rest f = rw (nanoseconds_back h (body.FollowUp t) n t rest f)
stamp_check h (body.DelayResp v) n rest f =
    rw (nanoseconds_back h (body.DelayResp v) n v.receive (identity_octets v.requester rest) f)
stamp_check h (body.Announce a) n rest f =
    rw (nanoseconds_back h (body.Announce a) n a.origin (announce_octets a rest) f)
stamp_check h (body.Signaling p) n rest f = refl

module _ (m : Message) (tail rest : List ℕ) (long : size_of m.body + length tail ≤ 65535) where
  abbrev n : ℕ
  n = size_of m.body + length tail

  abbrev s : List ℕ
  s = message_octets m tail rest

  pub written_version : version_of s ≡ 2
  unfolding message_octets lead_octets
  written_version = refl

  pub written_type : type_of s ≡ kind_of m.body
  unfolding message_octets
  written_type = type_back m.header m.body n (body_octets m.body (tail ++ rest))

  pub written_length : length_of s ≡ n
  unfolding message_octets
  written_length = length_back m.header m.body n (body_octets m.body (tail ++ rest)) (omega arith)

  pub written_octets : length s ≡ n + length rest
  unfolding message_octets lead_octets identity_octets close_octets
  written_octets = omega (arith, body_length m.body (tail ++ rest), length-append tail rest)

  pub written_stamp : body_held m.body ≡ true → bad_stamp (kind_of m.body) s ≡ late_stamp m.body
  unfolding message_octets
  written_stamp f = stamp_check m.header m.body n (tail ++ rest) f

  behind : drop (size_of m.body) s ≡ tail ++ rest
  unfolding message_octets
  behind = drop_fixed m.header m.body n (tail ++ rest)

  pub written_tail : tail_of s ≡ tail
  written_tail =
      let e : n - size_of m.body ≡ length tail = omega arith in
      rw (written_type, written_length, behind, e, take-append_seam)

  -- the checks come down to those of the timestamp and of the tail
  pub written_check : body_held m.body ≡ true → (magic : ℕ) → check_of magic s ≡ refuse (late_stamp m.body) (Err Stamp) (fault_check (size_of m.body) (fault_of magic tail))
  unfolding check_of
  written_check f magic =
      rw (written_tail, written_version, written_type, written_length, written_stamp f, goes_on _ _ _ (le-ltb (length s) 34 (omega (arith, written_octets, least m.body))), goes_on _ _ _ (ne_eqb (size_of m.body) 0 (λ e. omega (arith, least m.body))), goes_on _ _ _ (le-ltb n (size_of m.body) (omega arith)), goes_on _ _ _ (le-ltb (length s) n (omega (arith, written_octets))))
      (goes_on _ _ _ refl)

  -- the message
  pub written_message : body_held m.body ≡ true → MessageRange m → message_of s ≡ m
  unfolding message_octets
  written_message f r =
      λ i. record {
        header = header_back m.header m.body n (body_octets m.body (tail ++ rest)) r.header i;
        body = body_back m.header m.body n (tail ++ rest) f r.body i;
      }
