-- READING A FILE GIVES WHAT WAS WRITTEN, in each of the four forms: proved once, over the order of the octets and the unit. So a file in one octet order and the
-- file in the other, written of the same packets, hold the same frames.
use Prim.Native.Nat.{ℕ, zero, suc, ◌+◌, ◌*◌, ◌/◌, ◌%◌, ◌^◌, ◌<◌}
use mathlib.Core.Path.{◌≡◌, refl, sym, ap, subst, ◌∙◌}
use mathlib.Core.Logic.{◌⊎◌, inl, inr}
use mathlib.Core.List.{List, [], ◌∷◌, ◌++◌, map}
use mathlib.Core.Bool.{Bool, true, false, not, ◌&&◌}
use native.Mathlib.Nat.{pow-suc, add-zero, div-lt_iff_lt-mul}
use native.Mathlib.Omega.{arith}
use lib.Dec.{eqb, leb, ltb}
use lib.ListN.{length, get_or, take, drop, length-append}
use lib.Seq.{get_or-drop, drop-drop, take_at, drop_at}
use borrow.Author.Tests.{le-leb, lt-ltb}
use Rattle.refusal.specs.Choice.{pick}
use Rattle.refusal.specs.Limits.{second_nanos}
use Rattle.octets.specs.Be.{be, octets_of}
use Rattle.octets.proofs.Laws.{be_octets, be_drop}
use Rattle.stores.specs.Stores.{low_of}
use Rattle.pcap.specs.declared.Form.{Form}
use Rattle.pcap.specs.Form.{low, number_at, number_octets, form_of}
use Rattle.pcap.specs.File.{is_head, is_ethernet, stored_of, original_of, size_of, is_packet_head, is_packet, rests_of, are_packets, is_capture_in, is_capture, frame_of, frames_in, frames_of}
use Rattle.pcap.specs.Written.{Fields, Packet, magic_of, head_in, packet_in, packets_in, file_in, IsForm, Fits, AllFit, frame_in}
use Rattle.pcap.proofs.Laws.{rests_end, rests_more}

-- ---- A NUMBER, in either order
low_cons : (n x : ℕ) (s : List ℕ) (at : ℕ) → low n (x ∷ s) (suc at) ≡ low n s at
unfolding low
low_cons zero x s at = refl
low_cons (suc n) x s at = ap (λ (v : ℕ). get_or s at 0 + 256 * v) (low_cons n x s (suc at))

low_octets : (n v : ℕ) (rest : List ℕ) → v < 256 ^ n → low n (low_of n v rest) 0 ≡ v
unfolding low
low_octets zero v rest b = omega arith
low_octets (suc n) v rest b =
    let e : low n (low_of n (v / 256) rest) 0 ≡ v / 256 = low_octets n (v / 256) rest ((div-lt_iff_lt-mul (omega arith)).1 (rw pow-suc at b)) in
    rw (low_cons n (v % 256) (low_of n (v / 256) rest) 0, e) (omega arith)

low_drop : (n k : ℕ) (s : List ℕ) (at : ℕ) → low n (drop k s) at ≡ low n s (k + at)
unfolding low
low_drop zero k s at = refl
low_drop (suc n) k s at =
    let e : k + suc at ≡ suc (k + at) = omega arith in
    rw (low_drop n k s (suc at), get_or-drop, e)

drop_low : (n v : ℕ) (rest : List ℕ) → drop n (low_of n v rest) ≡ rest
drop_low zero v rest = refl
drop_low (suc n) v rest = drop_low n (v / 256) rest

drop_octets : (n v : ℕ) (rest : List ℕ) → drop n (octets_of n v rest) ≡ rest
drop_octets zero v rest = refl
drop_octets (suc n) v rest =
    let s = octets_of n (v / 256) (v % 256 ∷ rest) in
    let k : n + 1 ≡ suc n = omega arith in
    ap (λ (m : ℕ). drop m s) (sym k) ∙ sym (drop-drop 1 n s) ∙ ap (drop 1) (drop_octets n (v / 256) (v % 256 ∷ rest))

length_low : (n v : ℕ) (rest : List ℕ) → length (low_of n v rest) ≡ n + length rest
length_low zero v rest = omega arith
length_low (suc n) v rest = omega (arith, length_low n (v / 256) rest)

length_octets : (n v : ℕ) (rest : List ℕ) → length (octets_of n v rest) ≡ n + length rest
length_octets zero v rest = omega arith
length_octets (suc n) v rest = omega (arith, length_octets n (v / 256) (v % 256 ∷ rest))

module _ (n v k : ℕ) (s rest : List ℕ) where
  there : (little : Bool) → drop k s ≡ pick little (low_of n v rest) (octets_of n v rest) → v < 256 ^ n → pick little (low n s k) (be n s k) ≡ v
  there true e b = rw (← add-zero k) (sym (low_drop n k s 0) ∙ ap (λ (t : List ℕ). low n t 0) e ∙ low_octets n v rest b)
  there false e b = rw (← add-zero k) (sym (be_drop n k s 0) ∙ ap (λ (t : List ℕ). be n t 0) e ∙ be_octets n v rest b)

  after : (little : Bool) → drop n (pick little (low_of n v rest) (octets_of n v rest)) ≡ rest
  after true = drop_low n v rest
  after false = drop_octets n v rest

  long : (little : Bool) → length (pick little (low_of n v rest) (octets_of n v rest)) ≡ n + length rest
  long true = length_low n v rest
  long false = length_octets n v rest

module _ (f : Form) where
  -- a number that stands at k is read there, and behind it stands what follows it
  number_there : (n v k : ℕ) (s rest : List ℕ) → drop k s ≡ number_octets f n v rest → v < 256 ^ n → number_at f n s k ≡ v
  number_there n v k s rest = there n v k s rest f.little

  behind : (n v k : ℕ) (s rest : List ℕ) → drop k s ≡ number_octets f n v rest → drop (k + n) s ≡ rest
  behind n v k s rest e = sym (drop-drop n k s) ∙ ap (drop n) e ∙ after n v k s rest f.little

  number_length : (n v : ℕ) (rest : List ℕ) → length (number_octets f n v rest) ≡ n + length rest
  number_length n v rest = long n v 0 rest rest f.little

-- ---- THE HEAD
abbrev form_is : Bool → ℕ → Form
form_is l u = record { little = l; unit = u }

-- the four magics tell the four forms
abbrev Told : Bool → List ℕ → ℕ → Type 0
Told l rest u = form_of (number_octets (form_is l u) 4 (magic_of (form_is l u)) rest) ≡ form_is l u

told : (l : Bool) (u : ℕ) → (u ≡ 1000) ⊎ (u ≡ 1) → (rest : List ℕ) → Told l rest u
unfolding form_of be low
told true u (inl e) rest = subst (Told true rest) (sym e) refl
told true u (inr e) rest = subst (Told true rest) (sym e) refl
told false u (inl e) rest = subst (Told false rest) (sym e) refl
told false u (inr e) rest = subst (Told false rest) (sym e) refl

some_unit : (u : ℕ) → (u ≡ 1000) ⊎ (u ≡ 1) → not (eqb u 0) ≡ true
some_unit u (inl e) = rw e
some_unit u (inr e) = rw e

module _ (f : Form) (h : Fields) (rest : List ℕ) where
  abbrev link : List ℕ
  link = number_octets f 4 1 rest

  abbrev snapshot : List ℕ
  snapshot = number_octets f 4 h.snapshot link

  abbrev accuracy : List ℕ
  accuracy = number_octets f 4 h.accuracy snapshot

  abbrev zone : List ℕ
  zone = number_octets f 4 h.zone accuracy

  abbrev minor : List ℕ
  minor = number_octets f 2 4 zone

  abbrev major : List ℕ
  major = number_octets f 2 2 minor

  abbrev file : List ℕ
  file = number_octets f 4 (magic_of f) major

  at_major : drop 4 file ≡ major
  at_major = behind f 4 (magic_of f) 0 file major refl

  at_minor : drop 6 file ≡ minor
  at_minor = behind f 2 2 4 file minor at_major

  at_zone : drop 8 file ≡ zone
  at_zone = behind f 2 4 6 file zone at_minor

  at_accuracy : drop 12 file ≡ accuracy
  at_accuracy = behind f 4 h.zone 8 file accuracy at_zone

  at_snapshot : drop 16 file ≡ snapshot
  at_snapshot = behind f 4 h.accuracy 12 file snapshot at_accuracy

  at_link : drop 20 file ≡ link
  at_link = behind f 4 h.snapshot 16 file link at_snapshot

  pub head_behind : drop 24 (head_in f h rest) ≡ rest
  head_behind = behind f 4 1 20 file rest at_link

  head_length : length file ≡ 24 + length rest
  head_length =
      omega (
        arith,
        number_length f 4 1 rest,
        number_length f 4 h.snapshot link,
        number_length f 4 h.accuracy snapshot,
        number_length f 4 h.zone accuracy,
        number_length f 2 4 zone,
        number_length f 2 2 minor,
        number_length f 4 (magic_of f) major,
      )

  pub form_back : IsForm f → form_of (head_in f h rest) ≡ f
  form_back is = told f.little f.unit is major

  pub head_back : IsForm f → is_head f (head_in f h rest) ≡ true
  unfolding is_head
  head_back is =
      let l = le-leb 24 (length file) (omega (arith, head_length)) in
      let a = number_there f 2 2 4 file minor at_major (omega arith) in
      let b = number_there f 2 4 6 file zone at_minor (omega arith) in
      λ i. l i && (some_unit f.unit is i && (eqb (a i) 2 && eqb (b i) 4))

  pub link_back : is_ethernet f (head_in f h rest) ≡ true
  link_back = ap (λ (v : ℕ). eqb v 1) (number_there f 4 1 20 file rest at_link (omega arith))

-- ---- A PACKET
module _ (f : Form) (p : Packet) (rest : List ℕ) (fit : Fits f p) where
  abbrev frame : List ℕ
  frame = p.octets ++ rest

  abbrev original : List ℕ
  original = number_octets f 4 p.original frame

  abbrev stored : List ℕ
  stored = number_octets f 4 (length p.octets) original

  abbrev fraction : List ℕ
  fraction = number_octets f 4 p.fraction stored

  abbrev packet : List ℕ
  packet = number_octets f 4 p.seconds fraction

  at_fraction : drop 4 packet ≡ fraction
  at_fraction = behind f 4 p.seconds 0 packet fraction refl

  at_stored : drop 8 packet ≡ stored
  at_stored = behind f 4 p.fraction 4 packet stored at_fraction

  at_original : drop 12 packet ≡ original
  at_original = behind f 4 (length p.octets) 8 packet original at_stored

  at_frame : drop 16 packet ≡ frame
  at_frame = behind f 4 p.original 12 packet frame at_original

  packet_length : length packet ≡ 16 + (length p.octets + length rest)
  packet_length =
      omega (
        arith,
        length-append p.octets rest,
        number_length f 4 p.original frame,
        number_length f 4 (length p.octets) original,
        number_length f 4 p.fraction stored,
        number_length f 4 p.seconds fraction,
      )

  seconds_is : number_at f 4 packet 0 ≡ p.seconds
  seconds_is = number_there f 4 p.seconds 0 packet fraction refl fit.seconds

  fraction_is : number_at f 4 packet 4 ≡ p.fraction
  fraction_is = number_there f 4 p.fraction 4 packet stored at_fraction fit.counts

  stored_is : number_at f 4 packet 8 ≡ length p.octets
  stored_is = number_there f 4 (length p.octets) 8 packet original at_stored fit.stored

  original_is : number_at f 4 packet 12 ≡ p.original
  original_is = number_there f 4 p.original 12 packet frame at_original (omega (arith, fit.original, fit.stored))

  pub packet_back : is_packet f (packet_in f p rest) ≡ true
  unfolding is_packet is_packet_head
  packet_back =
      let l = le-leb 16 (length packet) (omega (arith, packet_length)) in
      let a = ap (λ (v : ℕ). ltb (v * f.unit) second_nanos) fraction_is ∙ lt-ltb (p.fraction * f.unit) second_nanos fit.fraction in
      let b : leb (original_of f packet) (stored_of f packet) ≡ true = (λ i. leb (original_is i) (stored_is i)) ∙ le-leb p.original (length p.octets) fit.original in
      let z : leb (size_of f packet) (length packet) ≡ true = le-leb (size_of f packet) (length packet) (omega (arith, packet_length, stored_is)) in
      λ i. l i && ((a i && b i) && z i)

  pub packet_behind : drop (size_of f (packet_in f p rest)) (packet_in f p rest) ≡ rest
  packet_behind =
      ap (λ (n : ℕ). drop (16 + n) packet) stored_is
      ∙ sym (drop-drop (length p.octets) 16 packet)
      ∙ ap (drop (length p.octets)) at_frame
      ∙ drop_at p.octets rest (length p.octets) refl

  pub frame_back : frame_of f (packet_in f p rest) ≡ frame_in f p
  frame_back =
      let o : take (stored_of f packet) (drop 16 packet) ≡ p.octets =
      (λ i. take (stored_is i) (at_frame i)) ∙ take_at p.octets rest (length p.octets) refl in
      λ i. record { time = seconds_is i * second_nanos + fraction_is i * f.unit; octets = o i }

  some_octets : 0 < length (packet_in f p rest)
  some_octets = omega (arith, packet_length)

-- ---- ALL PACKETS
module _ (f : Form) where
  pub packets_back : (ps : List Packet) → AllFit f ps → are_packets f (rests_of f (packets_in f ps)) ≡ true
  unfolding packets_in are_packets
  packets_back [] fits = ap (are_packets f) (rests_end f [] refl)
  packets_back (p ∷ ps) fits =
      let rest = packets_in f ps in
      let s = packet_in f p rest in
      ap (are_packets f) (rests_more f s (some_octets f p rest fits.0) ∙ ap (λ (l : List ℕ). s ∷ rests_of f l) (packet_behind f p rest fits.0))
      ∙ (λ i. packet_back f p rest fits.0 i && packets_back ps fits.1 i)

  pub frames_back : (ps : List Packet) → AllFit f ps → map (frame_of f) (rests_of f (packets_in f ps)) ≡ map (frame_in f) ps
  unfolding packets_in
  frames_back [] fits = ap (map (frame_of f)) (rests_end f [] refl)
  frames_back (p ∷ ps) fits =
      let rest = packets_in f ps in
      let s = packet_in f p rest in
      ap (map (frame_of f)) (rests_more f s (some_octets f p rest fits.0) ∙ ap (λ (l : List ℕ). s ∷ rests_of f l) (packet_behind f p rest fits.0))
      ∙ (λ i. frame_back f p rest fits.0 i ∷ frames_back ps fits.1 i)

-- ---- A FILE
-- one that was written in a form, of packets that have room in it
module _ (f : Form) (is : IsForm f) (h : Fields) (ps : List Packet) (fits : AllFit f ps) where
  -- it is a capture ..
  pub file_accepted : is_capture (file_in f h ps) ≡ true
  file_accepted =
      ap (λ (g : Form). is_capture_in g (file_in f h ps)) (form_back f h (packets_in f ps) is)
      ∙ (λ i. head_back f h (packets_in f ps) is i && (link_back f h (packets_in f ps) i && are_packets f (rests_of f (head_behind f h (packets_in f ps) i))))
      ∙ packets_back f ps fits

  -- .. and its frames are those of the packets
  pub file_read : frames_of (file_in f h ps) ≡ map (frame_in f) ps
  file_read =
      ap (λ (g : Form). frames_in g (file_in f h ps)) (form_back f h (packets_in f ps) is)
      ∙ ap (λ (l : List ℕ). map (frame_of f) (rests_of f l)) (head_behind f h (packets_in f ps))
      ∙ frames_back f ps fits
