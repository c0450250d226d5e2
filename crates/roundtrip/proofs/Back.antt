-- What was written is read: the header, what stands behind it, and the tail.
use Prim.Native.Nat.{ℕ, ◌+◌, ◌*◌, ◌/◌, ◌^◌, ◌<◌}
use mathlib.Core.Path.{◌≡◌, refl, ap, ◌∙◌}
use mathlib.Core.List.{List, []}
use mathlib.Core.Bool.{Bool, true, false, ◌&&◌}
use native.Mathlib.Omega.{arith}
use borrow.Author.Tests.{ltb-true}
use lib.ListN.{drop}
use mir.Syntax.{w8, w16, w64}
use mir.Val.{to_z, of_z}
use mir.ValLaws.{to_z-of_z, of_z_fits}
use Rattle.octets.specs.Be.{be}
use Rattle.octets.proofs.Laws.{be_octets}
use Rattle.message.specs.Fields.{type_of, length_of, fixed_size, identity_at, stamp_of, header_of, announce_of, body_of}
use Rattle.identity.specs.declared.PortIdentity.{PortIdentity}
use Rattle.message.specs.declared.fields.Timestamp.{Timestamp}
use Rattle.message.specs.declared.fields.Header.{Header}
use Rattle.message.specs.declared.fields.Announce.{Announce}
use Rattle.message.specs.declared.fields.Body.{Body}
use Rattle.message.specs.declared.fields.Body.TheVariants as body
use Rattle.layout.specs.Layout.{kind_of, size_of, identity_octets, stamp_octets, lead_octets, close_octets, announce_octets, header_octets, body_octets}
use Rattle.layout.proofs.Buffer.{kind_below}
use Rattle.roundtrip.specs.Range.{IdentityRange, HeaderRange, AnnounceRange, BodyRange}
use Rattle.roundtrip.specs.RoundTrip.{stamp_held, body_held}

-- a timestamp that fits its field
pub held : (t : Timestamp) → stamp_held t ≡ true → (t.seconds < 256 ^ 6) × (t.nanoseconds < 256 ^ 4)
held t e = let p = both _ _ e in (ltb-true t.seconds (2 ^ 48) p.0, ltb-true t.nanoseconds (2 ^ 32) p.1)
  where
    both : (a b : Bool) → a && b ≡ true → (a ≡ true) × (b ≡ true)
    both true b h = (refl, h)
    both false b h = absurd (let z : ◌≡◌ {A = ℕ} 0 1 = cc in omega arith)

module _ (h : Header) (b : Body) (n : ℕ) where
  -- the header, before a body and what follows
  abbrev front : List ℕ → List ℕ
  front rest = header_octets h b n rest

  pub type_back : (rest : List ℕ) → type_of (front rest) ≡ kind_of b
  unfolding lead_octets
  type_back rest = omega (arith, kind_below b)

  pub length_back : (rest : List ℕ) → n < 256 ^ 2 → length_of (front rest) ≡ n
  unfolding lead_octets be
  length_back rest f = be_octets 2 n [] f

  pub header_back : (rest : List ℕ) → HeaderRange h → header_of (front rest) ≡ h
  unfolding header_of identity_at lead_octets identity_octets close_octets be
  header_back rest r =
      let t : (h.transport * 16 + kind_of b) / 16 ≡ h.transport = omega (arith, kind_below b) in
      λ i. record {
        transport = t i;
        domain = h.domain;
        flags = be_octets 2 h.flags [] r.flags i;
        correction = (ap (to_z w64) (be_octets 8 (of_z w64 h.correction) [] (of_z_fits w64 h.correction r.correction).fits) ∙ to_z-of_z w64 h.correction r.correction) i;
        source = record { clock = be_octets 8 h.source.clock [] r.source.clock i; port = be_octets 2 h.source.port [] r.source.port i };
        sequence = be_octets 2 h.sequence [] r.sequence i;
        interval = to_z-of_z w8 h.interval r.interval i;
      }

  pub identity_back : (p : PortIdentity) (rest : List ℕ) → IdentityRange p → identity_at (front (identity_octets p rest)) 34 ≡ p
  unfolding identity_at lead_octets identity_octets close_octets be
  identity_back p rest r =
      λ i. record { clock = be_octets 8 p.clock [] r.clock i; port = be_octets 2 p.port [] r.port i }

  pub stamp_back : (t : Timestamp) (rest : List ℕ) → stamp_held t ≡ true → stamp_of (front (stamp_octets t rest)) ≡ t
  unfolding stamp_of lead_octets identity_octets close_octets stamp_octets be
  stamp_back t rest f =
      let h = held t f in
      λ i. record { seconds = be_octets 6 t.seconds [] h.0 i; nanoseconds = be_octets 4 t.nanoseconds [] h.1 i }

  pub requester_back : (t : Timestamp) (p : PortIdentity) (rest : List ℕ) → IdentityRange p → identity_at (front (stamp_octets t (identity_octets p rest))) 44 ≡ p
  unfolding identity_at lead_octets identity_octets close_octets stamp_octets be
  requester_back t p rest r =
      λ i. record { clock = be_octets 8 p.clock [] r.clock i; port = be_octets 2 p.port [] r.port i }

  pub announce_back : (a : Announce) (rest : List ℕ) → stamp_held a.origin ≡ true → AnnounceRange a
      → announce_of (front (stamp_octets a.origin (announce_octets a rest))) ≡ a
  unfolding announce_of lead_octets identity_octets close_octets stamp_octets announce_octets be
  announce_back a rest f r =
      λ i. record {
        origin = stamp_back a.origin (announce_octets a rest) f i;
        utc = (ap (to_z w16) (be_octets 2 (of_z w16 a.utc) [] (of_z_fits w16 a.utc r.utc).fits) ∙ to_z-of_z w16 a.utc r.utc) i;
        priority1 = a.priority1;
        class = a.class;
        accuracy = a.accuracy;
        variance = be_octets 2 a.variance [] r.variance i;
        priority2 = a.priority2;
        grandmaster = be_octets 8 a.grandmaster [] r.grandmaster i;
        steps = be_octets 2 a.steps [] r.steps i;
        timesource = a.timesource;
      }

-- what stands behind the header, by the type
pub body_back : (h : Header) (b : Body) (n : ℕ) (rest : List ℕ) → body_held b ≡ true → BodyRange b → body_of (header_octets h b n (body_octets b rest)) ≡ b
unfolding body_of
body_back h (body.Sync t) n rest f r =
    rw (type_back h (body.Sync t) n (stamp_octets t rest)) (ap body.Sync (stamp_back h (body.Sync t) n t rest f))
body_back h (body.DelayReq t) n rest f r =
    rw (type_back h (body.DelayReq t) n (stamp_octets t rest)) (ap body.DelayReq (stamp_back h (body.DelayReq t) n t rest f))
body_back h (body.FollowUp t) n rest f r =
    rw (type_back h (body.FollowUp t) n (stamp_octets t rest)) (ap body.FollowUp (stamp_back h (body.FollowUp t) n t rest f))
body_back h (body.DelayResp r) n rest f g =
    let v = body.DelayResp r in
    let tail = identity_octets r.requester rest in
    rw (type_back h v n (stamp_octets r.receive tail))
    (λ i. body.DelayResp (record {
      receive = stamp_back h v n r.receive tail f i;
      requester = requester_back h v n r.receive r.requester rest g i;
    }))
body_back h (body.Announce a) n rest f r =
    rw (type_back h (body.Announce a) n (stamp_octets a.origin (announce_octets a rest))) (ap body.Announce (announce_back h (body.Announce a) n a rest f r))
body_back h (body.Signaling p) n rest f r =
    rw (type_back h (body.Signaling p) n (identity_octets p rest)) (ap body.Signaling (identity_back h (body.Signaling p) n p rest r))

-- the tail, whatever stands behind it
pub drop_fixed : (h : Header) (b : Body) (n : ℕ) (rest : List ℕ) → drop (size_of b) (header_octets h b n (body_octets b rest)) ≡ rest
unfolding fixed_size lead_octets identity_octets close_octets stamp_octets announce_octets
drop_fixed h (body.Sync t) n rest = refl
drop_fixed h (body.DelayReq t) n rest = refl
drop_fixed h (body.FollowUp t) n rest = refl
drop_fixed h (body.DelayResp r) n rest = refl
drop_fixed h (body.Announce a) n rest = refl
drop_fixed h (body.Signaling p) n rest = refl
