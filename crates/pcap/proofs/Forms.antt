-- WHAT HOLDS FOR BOTH TIME UNITS AND BOTH OCTET ORDERS: the frames of a file do not depend on the order in which its numbers were written; microseconds give
-- whole thousands of nanoseconds; and a capture is in one of the four forms.
use Prim.Native.Nat.{ℕ, ◌+◌, ◌*◌, ◌%◌}
use mathlib.Core.Path.{◌≡◌, refl, sym, ◌∙◌}
use mathlib.Core.Logic.{◌⊎◌}
use mathlib.Core.List.{List, [], ◌∷◌, map}
use mathlib.Core.Bool.{Bool, true, false}
use native.Mathlib.Omega.{arith}
use lib.ListN.{drop}
use Rattle.pcap.specs.declared.Form.{Form}
use Rattle.pcap.specs.Form.{form_of, number_at}
use Rattle.pcap.specs.File.{Frame, file_head, rests_of, is_capture, frame_of, frames_of}
use Rattle.pcap.specs.Written.{Fields, Packet, file_in, IsForm, Fits, AllFit}
use Rattle.pcap.specs.When.{CaptureWhen, short, no_magic, other_major, other_minor, other_link, a_fault, a_capture}
use Rattle.pcap.proofs.ReadBack.{file_accepted, file_read}
use Rattle.pcap.proofs.Exactly.{is_capture_lem}

-- ---- EITHER OCTET ORDER
abbrev in_order : Bool → ℕ → Form
in_order little u = record { little = little; unit = u }

-- a packet that has room in a file of one order has room in one of the other
pub fits_either : (a b : Bool) (u : ℕ) (p : Packet) → Fits (in_order a u) p → Fits (in_order b u) p
fits_either a b u p fit = record { seconds = fit.seconds; counts = fit.counts; fraction = fit.fraction; stored = fit.stored; original = fit.original }

pub all_fit_either : (a b : Bool) (u : ℕ) (ps : List Packet) → AllFit (in_order a u) ps → AllFit (in_order b u) ps
all_fit_either a b u [] fits = tt
all_fit_either a b u (p ∷ ps) fits = (fits_either a b u p fits.0, all_fit_either a b u ps fits.1)

-- of packets that have room, whatever else the two heads say
module _ (u : ℕ) (is : (u ≡ 1000) ⊎ (u ≡ 1)) (ps : List Packet) (fits : AllFit (in_order true u) ps) (h k : Fields) where
  -- the file with the lowest octet first and the file with the highest first are both captures ..
  pub both_captures : (is_capture (file_in (record { little = true; unit = u }) h ps) ≡ true) × (is_capture (file_in (record { little = false; unit = u }) k ps) ≡ true)
  both_captures =
      (file_accepted (in_order true u) is h ps fits, file_accepted (in_order false u) is k ps (all_fit_either true false u ps fits))

  -- .. AND HOLD THE SAME FRAMES
  pub same_frames : frames_of (file_in (record { little = true; unit = u }) h ps) ≡ frames_of (file_in (record { little = false; unit = u }) k ps)
  same_frames = file_read (in_order true u) is h ps fits ∙ sym (file_read (in_order false u) is k ps (all_fit_either true false u ps fits))

-- ---- MICROSECONDS
-- the same of each of several frames
abbrev pub EachFrame : (Frame → Type 0) → List Frame → Type 0
EachFrame P [] = Unit {0}
EachFrame P (x ∷ xs) = P x × EachFrame P xs

-- a whole number of microseconds
abbrev pub IsMicroseconds : Frame → Type 0
IsMicroseconds x = x.time % 1000 ≡ 0

thousands : (seconds counts u : ℕ) → u ≡ 1000 → (seconds * 1000000000 + counts * u) % 1000 ≡ 0
thousands seconds counts u e = rw e (omega arith)

module _ (f : Form) (e : f.unit ≡ 1000) where
  each_micro : (rs : List (List ℕ)) → EachFrame IsMicroseconds (map (frame_of f) rs)
  each_micro [] = tt
  each_micro (r ∷ rs) = (thousands (number_at f 4 r 0) (number_at f 4 r 4) f.unit e, each_micro rs)

-- EVERY TIME OF A FILE IN MICROSECONDS IS A WHOLE NUMBER OF THEM, of any file
pub microseconds : (s : List ℕ) → (form_of s).unit ≡ 1000 → EachFrame IsMicroseconds (frames_of s)
microseconds s e = each_micro (form_of s) e (rests_of (form_of s) (drop file_head s))

-- ---- ONE OF THE FOUR
form_in : {s : List ℕ} {n : ℕ} → CaptureWhen s n → n ≡ 0 → IsForm (form_of s)
form_in (short h) z = absurd (omega arith)
form_in (no_magic a b) z = absurd (omega arith)
form_in (other_major e) z = absurd (omega arith)
form_in (other_minor e) z = absurd (omega arith)
form_in (other_link e) z = absurd (omega arith)
form_in (a_fault w) z = absurd (omega arith)
form_in (a_capture h is j m l w) z = is

-- A CAPTURE'S UNIT IS 1000 OR 1
pub capture_form : (s : List ℕ) → is_capture s ≡ true → IsForm (form_of s)
capture_form s e = form_in (is_capture_lem s e) refl
