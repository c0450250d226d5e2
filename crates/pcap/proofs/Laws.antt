-- Laws of a file on its way: what is left of it at an octet is the packet that begins there and what is left at its
-- end.
use Prim.Native.Nat.{ℕ, zero, suc, ◌+◌, ◌-◌, ◌≤◌, ◌<◌}
use mathlib.Core.Path.{◌≡◌, refl, sym, ap, ◌∙◌}
use mathlib.Core.List.{List, [], ◌∷◌}
use mathlib.Core.Bool.{Bool, true, false, ◌&&◌, true≢false}
use native.Mathlib.Omega.{arith}
use lib.Dec.{eqb, leb, ltb}
use lib.ListN.{length, take, drop, length-drop}
use lib.Seq.{take_all, drop-drop}
use borrow.Author.Tests.{eq-eqb, ne_eqb, leb-true, ltb-true, lt-leb}
use Rattle.laws.proofs.Bools.{both}
use Rattle.refusal.specs.Choice.{pick}
use Rattle.refusal.specs.Limits.{second_nanos}
use Rattle.pcap.specs.declared.Form.{Form}
use Rattle.pcap.specs.Form.{form_of}
use Rattle.pcap.specs.File.{file_head, is_head, is_ethernet, is_capture_in, is_capture, fraction_of, stored_of, original_of, size_of, is_packet_head, is_packet, rests_from, rests_of, are_packets}

-- ---- PACKETS ONE BEHIND THE OTHER
-- where there are enough steps for the octets, more of them change nothing
rests_enough : (f : Form) (n m : ℕ) (s : List ℕ) → length s ≤ n → length s ≤ m → rests_from n f s ≡ rests_from m f s
unfolding rests_from
rests_enough f zero zero s h k = refl
rests_enough f zero (suc m) s h k = rw (eq-eqb (length s) 0 (omega arith))
rests_enough f (suc n) zero s h k = rw (eq-eqb (length s) 0 (omega arith))
rests_enough f (suc n) (suc m) s h k =
    let d = drop (size_of f s) s in
    let l : length d ≡ length s - size_of f s = length-drop (size_of f s) s in
    ap (λ (rs : List (List ℕ)). pick (eqb (length s) 0) [] (s ∷ rs)) (rests_enough f n m d (omega arith) (omega arith))

-- of no octets there is nothing left
pub rests_end : (f : Form) (s : List ℕ) → length s ≡ 0 → rests_of f s ≡ []
unfolding rests_from
rests_end f s h = rw h

-- of others: all, and what is left behind the first packet
pub rests_more : (f : Form) (s : List ℕ) → 0 < length s → rests_of f s ≡ s ∷ rests_of f (drop (size_of f s) s)
unfolding rests_from
rests_more f s h =
    let d = drop (size_of f s) s in
    let l : length d ≡ length s - size_of f s = length-drop (size_of f s) s in
    let k : length s ≡ suc (length s - 1) = omega arith in
    ap (λ (n : ℕ). rests_from n f s) k
    ∙ rw (ne_eqb (length s) 0 (omega arith))
    (ap (λ (rs : List (List ℕ)). s ∷ rs) (rests_enough f (length s - 1) (length d) d (omega arith) (omega arith)))

-- what is lent of a file from an octet on
pub lent_rest : (s : List ℕ) (at : ℕ) → at ≤ length s → take (length s - at) (drop at s) ≡ drop at s
lent_rest s at h = take_all (length s - at) (drop at s) (omega (arith, length-drop at s))

-- a sound packet has its head, and ends inside
pub packet_inside : (f : Form) (s : List ℕ) → is_packet f s ≡ true → (16 ≤ length s) × (size_of f s ≤ length s)
unfolding is_packet
packet_inside f s e =
    let a = both (leb 16 (length s)) (is_packet_head f s && leb (size_of f s) (length s)) e in
    let b = both (is_packet_head f s) (leb (size_of f s) (length s)) a.1 in
    (leb-true 16 (length s) a.0, leb-true (size_of f s) (length s) b.1)

-- its fraction is below a second
pub packet_fraction : (f : Form) (s : List ℕ) → is_packet f s ≡ true → fraction_of f s < second_nanos
unfolding is_packet is_packet_head
packet_fraction f s e =
    let a = both (leb 16 (length s)) (is_packet_head f s && leb (size_of f s) (length s)) e in
    let b = both (is_packet_head f s) (leb (size_of f s) (length s)) a.1 in
    ltb-true (fraction_of f s) second_nanos (both (ltb (fraction_of f s) second_nanos) (leb (original_of f s) (stored_of f s)) b.0).0

-- nothing left is sound; an unsound packet is not; a sound one is what those behind it are
pub packets_end : (f : Form) (s : List ℕ) (at : ℕ) → length s ≤ at → are_packets f (rests_of f (drop at s)) ≡ true
unfolding are_packets
packets_end f s at h = ap (are_packets f) (rests_end f (drop at s) (omega (arith, length-drop at s)))

module _ (f : Form) (s : List ℕ) (at : ℕ) (h : at < length s) (r : List ℕ) (is : r ≡ drop at s) where
  some_left : 0 < length (drop at s)
  some_left = omega (arith, length-drop at s)

  pub packets_stop : is_packet f r ≡ false → are_packets f (rests_of f (drop at s)) ≡ false
  unfolding are_packets
  packets_stop e = ap (are_packets f) (rests_more f (drop at s) some_left) ∙ rw (← is, e)

  pub packet_ends : is_packet f r ≡ true → (16 ≤ length r) × (at + size_of f r ≤ length s)
  packet_ends e = let k = packet_inside f r e in let l = ap length is in (k.0, omega (arith, length-drop at s))

  pub packets_more : is_packet f r ≡ true → are_packets f (rests_of f (drop (at + size_of f r) s)) ≡ are_packets f (rests_of f (drop at s))
  unfolding are_packets
  packets_more e =
      let d : drop (at + size_of f r) s ≡ drop (size_of f r) (drop at s) = sym (drop-drop (size_of f r) at s) in
      sym (ap (are_packets f) (rests_more f (drop at s) some_left) ∙ rw (← is, e, d, ← is))

-- ---- A WHOLE FILE
-- one that is too short for a head is none; nor is one with another head; else it is what its packets are
pub capture_short : (s : List ℕ) → length s < 24 → is_capture s ≡ false
unfolding is_head
capture_short s h = rw (lt-leb 24 (length s) h)

one_fails : (a b d : Bool) → (a && b) ≡ false → (a && (b && d)) ≡ false
one_fails true true d e = absurd (true≢false e)
one_fails true false d e = refl
one_fails false b d e = refl

module _ (s : List ℕ) (f : Form) (is : f ≡ form_of s) where
  pub capture_head : (is_head f s && is_ethernet f s) ≡ false → is_capture s ≡ false
  capture_head e =
      ap (λ (g : Form). is_capture_in g s) (sym is) ∙ one_fails (is_head f s) (is_ethernet f s) (are_packets f (rests_of f (drop file_head s))) e

  pub capture_rest : (is_head f s && is_ethernet f s) ≡ true → is_capture s ≡ are_packets f (rests_of f (drop file_head s))
  capture_rest e =
      let k = both (is_head f s) (is_ethernet f s) e in
      ap (λ (g : Form). is_capture_in g s) (sym is) ∙ rw (k.0, k.1)
