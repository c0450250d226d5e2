-- Packets one behind the other: how many octets they have, and that those of two runs of records are those of the first and then those of the second.
use Prim.Native.Nat.{ℕ, zero, suc, ◌+◌, ◌*◌, ◌≤◌}
use mathlib.Core.Path.{◌≡◌, refl, sym, ap, ◌∙◌}
use mathlib.Core.List.{List, [], ◌∷◌, ◌++◌, append_assoc}
use mathlib.Core.Bool.{true, ◌&&◌}
use native.Mathlib.Omega.{arith}
use lib.Dec.{leb}
use lib.ListN.{length, drop, length-append, length-drop}
use lib.Seq.{length-take-le}
use borrow.Author.Tests.{leb-true}
use Rattle.laws.proofs.Bools.{both}
use Rattle.octets.proofs.Laws.{Octets}
use Rattle.refusal.specs.Limits.{is_port}
use Rattle.block.specs.Layout.{Entry, count_of, port_at, end_at, length_at, message_at, entries_from, entries_of}
use Rattle.block.specs.Making.{sizes_of}
use Rattle.block.proofs.Made.{sizes_count}
use Rattle.stores.specs.Stores.{over}
use Rattle.stores.proofs.Buffer.{put_two}
use Rattle.judging.specs.Tests.{laid_from, is_laid}
use Rattle.judging.proofs.TestLaws.{laid}
use Rattle.playback.specs.Playback.{blocks_in, entries_of_all, fresh_reader, is_trace}
use Rattle.playback.proofs.Blocks.{AllLaid, all_laid}
use Rattle.pcap.specs.Written.{head_in, packet_in, packets_in, our_form, our_fields}
use Rattle.exporting.specs.Exporting.{packet_for, packet_by, packets_of, capture_of, records_of}
use Rattle.exporting.proofs.Few.{trace_few}

-- ---- ONE PACKET
module _ (t : ℕ) (m : List ℕ) where
  pub packet_length : (rest : List ℕ) → length (packet_in our_form (packet_for t m) rest) ≡ 30 + length m + length rest
  packet_length rest = omega (arith, length-append m rest)

  pub packet_append : (a b : List ℕ) → packet_in our_form (packet_for t m) a ++ b ≡ packet_in our_form (packet_for t m) (a ++ b)
  packet_append a b = rw (append_assoc m a b)

-- ---- SEVERAL
pub packets_append : (es fs : List Entry) → packets_of (es ++ fs) ≡ packets_of es ++ packets_of fs
unfolding packets_in
packets_append [] fs = refl
packets_append (e ∷ es) fs =
    ap (packet_in our_form (packet_by e)) (packets_append es fs) ∙ sym (packet_append e.time e.message (packets_of es) (packets_of fs))

-- each has 19 octets more than its record
pub packets_length : (es : List Entry) → length (packets_of es) ≡ sizes_of es + 19 * length es
unfolding packets_in sizes_of
packets_length [] = refl
packets_length (e ∷ es) = omega (arith, packet_length e.time e.message (packets_of es), packets_length es)

-- ---- THOSE OF A BLOCK
-- the message of a record that ends inside the block
pub message_length : (s : List ℕ) (at : ℕ) → length s ≡ 512 → end_at s at ≤ 512 → length (message_at s at) ≡ length_at s at
message_length s at n h = length-take-le (length_at s at) (drop (at + 11) s) (omega (arith, length-drop (at + 11) s))

-- so many records that are whole have no more octets than are left of the block
entries_size : (n : ℕ) (s : List ℕ) (at : ℕ) → length s ≡ 512 → at ≤ 512 → laid_from n s at ≡ true → (at + sizes_of (entries_from n s at) ≤ 512) × (length (entries_from n s at) ≡ n)
unfolding laid_from entries_from sizes_of
entries_size zero s at l h e = (omega arith, refl)
entries_size (suc n) s at l h e =
    let k = both (leb (end_at s at) 512) (is_port (port_at s at) && laid_from n s (end_at s at)) e in
    let inside : end_at s at ≤ 512 = leb-true _ _ k.0 in
    let more = entries_size n s (end_at s at) l inside (both (is_port (port_at s at)) (laid_from n s (end_at s at)) k.1).1 in
    (omega (arith, message_length s at l inside, more.0), ap suc more.1)

-- THE PACKETS OF A BLOCK have at most 1351 octets
pub block_packets : (s : List ℕ) → is_laid s ≡ true → length (packets_of (entries_of s)) ≤ 1351
block_packets s h =
    let k = laid s h in
    let z = entries_size (count_of s) s 16 k.whole (omega arith) k.records in
    omega (arith, z.0, packets_length (entries_of s), sizes_count (entries_of s))

-- ---- A RECORD MORE
module _ (e : Entry) (es : List Entry) where
  pub packets_left : length (packets_of (e ∷ es)) ≡ 30 + length e.message + length (packets_of es)
  unfolding packets_in
  packets_left = packet_length e.time e.message (packets_of es)

  -- its packet was put, and then those behind it are
  pub packet_put : (o o' : List ℕ) (to : ℕ) → to ≤ length o → o' ≡ over o to (packet_in our_form (packet_for e.time e.message) [])
      → over o' (to + (30 + length e.message)) (packets_of es) ≡ over o to (packets_of (e ∷ es))
  unfolding packets_in
  packet_put o o' to room put =
      let x = packet_in our_form (packet_by e) [] in
      let k : to + (30 + length e.message) ≡ to + length x = omega (arith, packet_length e.time e.message []) in
      put_two o to room x (packets_of es) k refl refl put refl ∙ ap (over o to) (packet_append e.time e.message [] (packets_of es))

-- ---- THOSE OF SEVERAL BLOCKS
module _ (b : List ℕ) (bs : List (List ℕ)) where
  pub blocks_length : length (packets_of (entries_of b ++ entries_of_all bs)) ≡ length (packets_of (entries_of b)) + length (packets_of (entries_of_all bs))
  blocks_length = ap length (packets_append (entries_of b) (entries_of_all bs)) ∙ length-append (packets_of (entries_of b)) (packets_of (entries_of_all bs))

  -- those of one block were put, and then those of the blocks behind it are
  pub block_put : (o o' : List ℕ) (to to' : ℕ) → to ≤ length o → to' ≡ to + length (packets_of (entries_of b)) → o' ≡ over o to (packets_of (entries_of b))
      → over o' to' (packets_of (entries_of_all bs)) ≡ over o to (packets_of (entries_of_all (b ∷ bs)))
  unfolding entries_of_all
  block_put o o' to to' room is put =
      put_two o to room (packets_of (entries_of b)) (packets_of (entries_of_all bs)) is refl refl put refl
      ∙ ap (over o to) (sym (packets_append (entries_of b) (entries_of_all bs)))

-- the head was put, and then the packets are
pub head_put : (o o' : List ℕ) (es : List Entry) → o' ≡ over o 0 (head_in our_form our_fields []) → over o' 24 (packets_of es) ≡ over o 0 (capture_of es)
head_put o o' es put = put_two o 0 (omega arith) (head_in our_form our_fields []) (packets_of es) refl refl refl put refl

-- ALL PACKETS OF A TRACE have so few octets that they can be counted
blocks_light : (bs : List (List ℕ)) → AllLaid bs → length (packets_of (entries_of_all bs)) ≤ 1351 * length bs
unfolding entries_of_all packets_in
blocks_light [] l = omega arith
blocks_light (b ∷ bs) l = omega (arith, block_packets b l.0, blocks_length b bs, blocks_light bs l.1)

pub trace_light : (s : List ℕ) → Octets s → is_trace s ≡ true → length (packets_of (records_of s)) ≤ 5802500816896
trace_light s o trace = omega (arith, blocks_light (blocks_in s) (all_laid fresh_reader (blocks_in s) trace), trace_few s o trace)
