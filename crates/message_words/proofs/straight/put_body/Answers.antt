-- `straight::put_body` meets its contract: type by type, the first ten octets and what follows them.
use Prim.Native.Nat.{ℕ, ◌+◌, ◌≤◌}
use mathlib.Core.Path.{◌≡◌, ap, sym, ◌∙◌}
use mathlib.Core.List.{List, []}
use native.Mathlib.Omega.{arith}
use lib.ListN.{length}
use Rattle.stores.specs.Stores.{over}
use Rattle.stores.proofs.Buffer.{put_two}
use Rattle.message.specs.Fields.{fixed_size}
use Rattle.message.specs.declared.fields.Timestamp.{Timestamp}
use Rattle.identity.specs.declared.PortIdentity.{PortIdentity}
use Rattle.message.specs.declared.fields.Announce.{Announce}
use Rattle.message.specs.declared.fields.Body.{Body}
use Rattle.layout.specs.Layout.{size_of, stamp_octets, identity_octets, announce_octets, first_octets, more_octets, body_octets}
use Rattle.layout.proofs.Buffer.{least, first_length, first_append}
use Rattle.message_words.specs.Words.{body_of, announce_of}
use Rattle.message_words.proofs.Bodies.{body_sync, body_delay_req, body_follow_up, body_delay_resp, body_announce, body_signaling}
use Rattle.message_words.proofs.straight.put_body.Goals as goal

-- the first ten octets, and what follows them
two-parts : (d : List ℕ) (b : Body) → 34 ≤ length d → {x y o p : List ℕ} → x ≡ first_octets b [] → y ≡ more_octets b []
    → o ≡ over d 34 x → p ≡ over o 44 y → p ≡ over d 34 (body_octets b [])
two-parts d b h ex ey eo ep =
    let e : 44 ≡ 34 + length (first_octets b []) = omega (arith, first_length b) in
    put_two d 34 h (first_octets b []) (more_octets b []) e ex ey eo ep ∙ ap (over d 34) (first_append b (more_octets b []))

pub put_stamp-requires : goal.put_stamp-requires
put_stamp-requires c =
    omega (arith, c.requires, least (body_of c.args.w.now))

pub put_stamp-requires-in-1 : goal.put_stamp-requires-in-1
put_stamp-requires-in-1 c =
    omega (arith, c.requires, least (body_of c.args.w.now))

pub put_stamp-requires-in-8 : goal.put_stamp-requires-in-8
put_stamp-requires-in-8 c =
    omega (arith, c.requires, least (body_of c.args.w.now))

pub put_stamp-requires-in-9 : goal.put_stamp-requires-in-9
put_stamp-requires-in-9 c =
    omega (arith, c.requires, least (body_of c.args.w.now))

pub put_identity-requires : goal.put_identity-requires
unfolding fixed_size
put_identity-requires c =
    omega (arith, c.requires, ap size_of (body_delay_resp c.args.w.now c.in-9.is))

pub put_stamp-requires-in-11 : goal.put_stamp-requires-in-11
put_stamp-requires-in-11 c =
    omega (arith, c.requires, least (body_of c.args.w.now))

pub put_announce-requires : goal.put_announce-requires
unfolding fixed_size
put_announce-requires c =
    omega (arith, c.requires, ap size_of (body_announce c.args.w.now c.in-11.is))

pub put_identity-requires-in_default : goal.put_identity-requires-in_default
put_identity-requires-in_default c =
    omega (arith, c.requires, least (body_of c.args.w.now))

pub returns-in-0 : goal.returns-in-0
returns-in-0 c =
    let s = c.args in rw (body_sync s.w.now c.in-0.is, ← c.stamp_of.ensures) c.put_stamp.ensures

pub returns-in-1 : goal.returns-in-1
returns-in-1 c =
    let s = c.args in rw (body_delay_req s.w.now c.in-1.is, ← c.stamp_of-in-1.ensures) c.put_stamp-in-1.ensures

pub returns-in-8 : goal.returns-in-8
returns-in-8 c =
    let s = c.args in rw (body_follow_up s.w.now c.in-8.is, ← c.stamp_of-in-8.ensures) c.put_stamp-in-8.ensures

pub returns-in-9 : goal.returns-in-9
returns-in-9 c =
    let w = c.args.w.now in
    let b = body_delay_resp w c.in-9.is in
    two-parts c.args.out.now (body_of w) (omega (arith, c.requires, least (body_of w)))
    (ap (λ (x : Timestamp). stamp_octets x []) c.stamp_of-in-9.ensures ∙ sym (ap (λ (x : Body). first_octets x []) b))
    (ap (λ (x : PortIdentity). identity_octets x []) c.identity_at.ensures ∙ sym (ap (λ (x : Body). more_octets x []) b))
    c.put_stamp-in-9.ensures
    c.put_identity.ensures

pub returns-in-11 : goal.returns-in-11
unfolding announce_of
returns-in-11 c =
    let w = c.args.w.now in
    let b = body_announce w c.in-11.is in
    two-parts c.args.out.now (body_of w) (omega (arith, c.requires, least (body_of w)))
    (ap (λ (x : Timestamp). stamp_octets x []) c.stamp_of-in-11.ensures ∙ sym (ap (λ (x : Body). first_octets x []) b))
    (ap (λ (x : Announce). announce_octets x []) c.announce_of.ensures ∙ sym (ap (λ (x : Body). more_octets x []) b))
    c.put_stamp-in-11.ensures
    c.put_announce.ensures

pub returns-in_default : goal.returns-in_default
returns-in_default c =
    let s = c.args in rw (body_signaling s.w.now (λ e. omega arith) (λ e. omega arith) (λ e. omega arith) (λ e. omega arith) (λ e. omega arith), ← c.identity_at-in_default.ensures) c.put_identity-in_default.ensures
