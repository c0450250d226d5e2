-- The records of a capture's frames are such as a trace can hold: of a file of octets, their times have eight octets, and their messages are octets.
use Prim.Native.Nat.{ℕ, zero, suc, ◌^◌, ◌<◌}
use mathlib.Core.Path.{◌≡◌}
use mathlib.Core.List.{List, [], ◌∷◌, map}
use mathlib.Core.Bool.{Bool, true, false}
use native.Mathlib.Nat.{pow-suc}
use native.Mathlib.Omega.{arith}
use lib.Dec.{eqb}
use lib.ListN.{length, take, drop}
use Rattle.laws.proofs.Bools.{both, cases}
use Rattle.refusal.specs.Choice.{pick}
use Rattle.octets.specs.Be.{be}
use Rattle.octets.proofs.Laws.{Octets, octets_take, octets_drop, be_bound}
use Rattle.block.specs.Making.{EntryFits, All}
use Rattle.pcap.specs.declared.Form.{Form}
use Rattle.pcap.specs.Form.{low}
use Rattle.pcap.specs.File.{Frame, seconds_of, stored_of, size_of, is_packet, rests_from, are_packets, frame_of, frames_in, is_capture_in}
use Rattle.pcap.proofs.Laws.{packet_fraction}
use Rattle.importing.specs.Importing.{is_ptp, entry_by, taken_of}
use Rattle.importing.proofs.Walk.{capture_sound}

-- ---- OCTETS
low_bound : (n : ℕ) (s : List ℕ) (at : ℕ) → Octets s → low n s at < 256 ^ n
unfolding low
low_bound zero s at o = omega arith
low_bound (suc n) s at o = let h = low_bound n s (suc at) o in let d = o at in rw pow-suc (omega arith)

number_bound : (b : Bool) (n : ℕ) (s : List ℕ) (at : ℕ) → Octets s → pick b (low n s at) (be n s at) < 256 ^ n
number_bound true n s at o = low_bound n s at o
number_bound false n s at o = be_bound n s at o

-- ---- FRAMES
module _ (f : Form) (port : ℕ) (small : port < 256) where
  entry_fits : (s : List ℕ) → Octets s → is_packet f s ≡ true → EntryFits (entry_by port (frame_of f s))
  entry_fits s o p =
      let h : seconds_of f s < 4294967296 = number_bound f.little 4 s 0 o in
      let k = packet_fraction f s p in
      record {
        time = omega arith;
        port = small;
        octets = octets_drop 14 (take (stored_of f s) (drop 16 s)) (octets_take (stored_of f s) (drop 16 s) (octets_drop 16 s o));
      }

  first_fits : (x : Frame) (xs : List Frame) → EntryFits (entry_by port x) → All EntryFits (taken_of port xs) → All EntryFits (taken_of port (x ∷ xs))
  unfolding taken_of
  first_fits x xs h a = cases (is_ptp x.octets) (λ e. rw e (h, a)) (λ e. rw e a)

  rests_fit : (n : ℕ) (s : List ℕ) → Octets s → are_packets f (rests_from n f s) ≡ true → All EntryFits (taken_of port (map (frame_of f) (rests_from n f s)))
  unfolding rests_from are_packets taken_of
  rests_fit zero s o p = tt
  rests_fit (suc n) s o p = by (eqb (length s) 0) p (λ q. rests_fit n (drop (size_of f s) s) (octets_drop (size_of f s) s o) q)
    where
      by : (b : Bool) → are_packets f (pick b [] (s ∷ rests_from n f (drop (size_of f s) s))) ≡ true
          → (are_packets f (rests_from n f (drop (size_of f s) s)) ≡ true → All EntryFits (taken_of port (map (frame_of f) (rests_from n f (drop (size_of f s) s)))))
          → All EntryFits (taken_of port (map (frame_of f) (pick b [] (s ∷ rests_from n f (drop (size_of f s) s)))))
      by true q rest = tt
      by false q rest =
          let k = both (is_packet f s) (are_packets f (rests_from n f (drop (size_of f s) s))) q in
          first_fits (frame_of f s) (map (frame_of f) (rests_from n f (drop (size_of f s) s))) (entry_fits s o k.0) (rest k.1)

-- all records of a capture
pub all_fit : (f : Form) (port : ℕ) (s : List ℕ) → port < 256 → Octets s → is_capture_in f s ≡ true → All EntryFits (taken_of port (frames_in f s))
all_fit f port s h o e = rests_fit f port h (length (drop 24 s)) (drop 24 s) (octets_drop 24 s o) (capture_sound f s e).1
