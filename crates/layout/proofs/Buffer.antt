-- Laws of the parts of a message: how long they are, and that put one behind the other they are the message.
use Prim.Native.Nat.{ℕ, ◌+◌, ◌≤◌, ◌<◌}
use mathlib.Core.Path.{◌≡◌, refl, sym, ap, ◌∙◌}
use mathlib.Core.List.{List, [], ◌++◌, append_assoc, append-nil}
use native.Mathlib.Omega.{arith}
use lib.ListN.{length, drop, length-append}
use Rattle.stores.specs.Stores.{over}
use Rattle.stores.proofs.Buffer.{put_two}
use Rattle.message.specs.Fields.{fixed_size}
use Rattle.message.specs.declared.fields.Body.{Body}
use Rattle.message.specs.declared.fields.Body.TheVariants as body
use Rattle.message.specs.declared.fields.Message.{Message}
use Rattle.layout.specs.Layout.{kind_of, size_of, identity_octets, stamp_octets, lead_octets, close_octets, header_octets, announce_octets, first_octets, body_octets, message_octets}

-- the fixed part of every message is 44 octets or more
pub least : (b : Body) → 44 ≤ size_of b
unfolding fixed_size
least (body.Sync t) = omega arith
least (body.DelayReq t) = omega arith
least (body.FollowUp t) = omega arith
least (body.DelayResp r) = omega arith
least (body.Announce a) = omega arith
least (body.Signaling p) = omega arith

pub kind_below : (b : Body) → kind_of b < 16
kind_below (body.Sync t) = omega arith
kind_below (body.DelayReq t) = omega arith
kind_below (body.FollowUp t) = omega arith
kind_below (body.DelayResp r) = omega arith
kind_below (body.Announce a) = omega arith
kind_below (body.Signaling p) = omega arith

-- ten octets come first
pub first_length : (b : Body) → length (first_octets b []) ≡ 10
unfolding stamp_octets identity_octets
first_length (body.Sync t) = refl
first_length (body.DelayReq t) = refl
first_length (body.FollowUp t) = refl
first_length (body.DelayResp r) = refl
first_length (body.Announce a) = refl
first_length (body.Signaling p) = refl

pub first_append : (b : Body) (rest : List ℕ) → first_octets b [] ++ rest ≡ first_octets b rest
unfolding stamp_octets identity_octets
first_append (body.Sync t) rest = refl
first_append (body.DelayReq t) rest = refl
first_append (body.FollowUp t) rest = refl
first_append (body.DelayResp r) rest = refl
first_append (body.Announce a) rest = refl
first_append (body.Signaling p) rest = refl

-- what stands behind the header fills the fixed part
pub body_length : (b : Body) (rest : List ℕ) → 34 + length (body_octets b rest) ≡ size_of b + length rest
unfolding fixed_size stamp_octets identity_octets announce_octets
body_length (body.Sync t) rest = omega arith
body_length (body.DelayReq t) rest = omega arith
body_length (body.FollowUp t) rest = omega arith
body_length (body.DelayResp r) rest = omega arith
body_length (body.Announce a) rest = omega arith
body_length (body.Signaling p) rest = omega arith

pub body_append : (b : Body) (rest : List ℕ) → body_octets b [] ++ rest ≡ body_octets b rest
unfolding stamp_octets identity_octets announce_octets
body_append (body.Sync t) rest = refl
body_append (body.DelayReq t) rest = refl
body_append (body.FollowUp t) rest = refl
body_append (body.DelayResp r) rest = refl
body_append (body.Announce a) rest = refl
body_append (body.Signaling p) rest = refl

-- header, body and tail, put one behind the other
pub assembled : (m : Message) (t d : List ℕ) {n : ℕ} {o p q : List ℕ} → n ≡ size_of m.body
    → o ≡ over d 0 (header_octets m.header m.body (n + length t) [])
    → p ≡ over o 34 (body_octets m.body [])
    → q ≡ over p n t
    → q ≡ message_octets m t (drop (size_of m.body + length t) d)
unfolding lead_octets identity_octets close_octets message_octets
assembled m t d {n} {o} en eo ep eq =
    let b = m.body in
    let l = size_of b + length t in
    let H = header_octets m.header b l [] in
    let B = body_octets b [] in
    let f : 0 + length (H ++ B) ≡ size_of b = omega (arith, body_length b []) in
    let k : 0 + length ((H ++ B) ++ t) ≡ l = omega (arith, f, length-append (H ++ B) t) in
    let e : (B ++ t) ++ drop (0 + length ((H ++ B) ++ t)) d ≡ body_octets b (t ++ drop l d) =
    rw (k, append_assoc B t (drop l d)) (body_append b (t ++ drop l d)) in
    let eh : o ≡ over d 0 H = eo ∙ (λ i. over d 0 (header_octets m.header b (en i + length t) [])) in
    put_two d 0 (omega arith) (H ++ B) t (en ∙ sym f) refl refl (put_two d 0 (omega arith) H B refl refl refl eh ep) eq
    ∙ (λ i. header_octets m.header b l (e i))

-- the message without what stands behind it
pub append_rest : (m : Message) (tail rest : List ℕ) → message_octets m tail [] ++ rest ≡ message_octets m tail rest
unfolding message_octets lead_octets identity_octets close_octets
append_rest m tail rest =
    let b = m.body in
    let e : body_octets b (tail ++ []) ++ rest ≡ body_octets b (tail ++ rest) =
    ap (λ (l : List ℕ). l ++ rest) (sym (body_append b (tail ++ [])))
    ∙ append_assoc (body_octets b []) (tail ++ []) rest
    ∙ ap (λ (l : List ℕ). body_octets b [] ++ l) (ap (λ (l : List ℕ). l ++ rest) (append-nil tail))
    ∙ body_append b (tail ++ rest) in
    λ i. header_octets m.header b (size_of b + length tail) (e i)

-- how many octets a message has
pub message_length : (m : Message) (tail : List ℕ) → length (message_octets m tail []) ≡ size_of m.body + length tail
unfolding message_octets lead_octets identity_octets close_octets
message_length m tail = omega (arith, body_length m.body (tail ++ []), length-append tail [])
