-- A capture on its way: the frames from an octet on are the one whose packet begins there, and those from its end on.
use Prim.Native.Nat.{ℕ, ◌+◌, ◌-◌, ◌≤◌, ◌<◌}
use mathlib.Core.Path.{◌≡◌, ◌∙◌, sym, ap, subst}
use mathlib.Core.List.{List, [], ◌∷◌, map}
use mathlib.Core.Bool.{true, ◌&&◌}
use native.Mathlib.Omega.{arith}
use lib.Dec.{leb}
use lib.ListN.{length, take, drop, length-drop}
use lib.Seq.{drop-drop}
use borrow.Author.Tests.{leb-true}
use Rattle.laws.proofs.Bools.{both}
use Rattle.pcap.specs.declared.Form.{Form}
use Rattle.pcap.specs.File.{Frame, file_head, is_head, is_ethernet, stored_of, size_of, time_of, is_packet, rests_of, are_packets, is_capture_in, frame_of}
use Rattle.pcap.proofs.Laws.{rests_end, rests_more, packet_inside}

-- the packets from an octet on are sound; their frames
abbrev pub SoundFrom : Form → List ℕ → ℕ → Type 0
SoundFrom f s at = are_packets f (rests_of f (drop at s)) ≡ true

abbrev pub frames_from : Form → List ℕ → ℕ → List Frame
frames_from f s at = map (frame_of f) (rests_of f (drop at s))

-- at the end there is none
pub frames_end : (f : Form) (s : List ℕ) (at : ℕ) → length s ≤ at → frames_from f s at ≡ []
frames_end f s at h = ap (map (frame_of f)) (rests_end f (drop at s) (omega (arith, length-drop at s)))

-- a packet r of n octets begins at an octet, and holds the frame x
pub record Here (f : Form) (s : List ℕ) (at : ℕ) (r : List ℕ) (n : ℕ) (x : Frame) : Type 0 where
  pub size : 16 ≤ n
  pub whole : n ≤ length r
  pub inside : at + n ≤ length s
  pub frames : frames_from f s at ≡ x ∷ frames_from f s (at + n)
  pub sound : SoundFrom f s (at + n)

module _ (f : Form) (s : List ℕ) (at : ℕ) (h : at < length s) (sound : SoundFrom f s at) (r : List ℕ) (is : r ≡ drop at s) where
  rests_are : rests_of f (drop at s) ≡ r ∷ rests_of f (drop (at + size_of f r) s)
  rests_are =
      rests_more f (drop at s) (omega (arith, length-drop at s))
      ∙ ap (λ (d : List ℕ). drop at s ∷ rests_of f d) (drop-drop (size_of f (drop at s)) at s)
      ∙ ap (λ (d : List ℕ). d ∷ rests_of f (drop (at + size_of f d) s)) (sym is)

  packets_are : (is_packet f r ≡ true) × SoundFrom f s (at + size_of f r)
  unfolding are_packets
  packets_are = both (is_packet f r) (are_packets f (rests_of f (drop (at + size_of f r) s))) (ap (are_packets f) (sym rests_are) ∙ sound)

  -- it has its head
  pub head_there : 16 ≤ length r
  head_there = (packet_inside f r packets_are.0).0

  -- and its frame
  pub frame_here : (n t : ℕ) → n ≡ size_of f r → t ≡ time_of f r → Here f s at r n (record { time = t; octets = take (n - 16) (drop 16 r) })
  frame_here n t en et =
      let k = (packet_inside f r packets_are.0).1 in
      let l = ap length is ∙ length-drop at s in
      let m : n - 16 ≡ stored_of f r = omega arith in
      record {
        size = omega arith;
        whole = omega arith;
        inside = omega arith;
        frames = ap (map (frame_of f)) rests_are
            ∙ ap (λ (j : ℕ). frame_of f r ∷ frames_from f s (at + j)) (sym en)
            ∙ (λ i. record { time = sym et i; octets = take (sym m i) (drop 16 r) } ∷ frames_from f s (at + n));
        sound = subst (λ (j : ℕ). SoundFrom f s (at + j)) (sym en) packets_are.1;
      }

-- the packets of a capture are sound, behind its head
pub capture_sound : (f : Form) (s : List ℕ) → is_capture_in f s ≡ true → (24 ≤ length s) × SoundFrom f s 24
unfolding is_head
capture_sound f s e =
    let a = both (is_head f s) (is_ethernet f s && are_packets f (rests_of f (drop file_head s))) e in
    let b = both (is_ethernet f s) (are_packets f (rests_of f (drop file_head s))) a.1 in
    (leb-true 24 (length s) (both (leb file_head (length s)) _ a.0).0, b.1)
