-- Which records can be written, and what their packets weigh: by one record more, and by one block more. And the port that is written.
use Rattle.std.specs.Prelude.{Option, Some, None}
use Prim.Native.Nat.{ℕ, suc, ◌+◌, ◌-◌, ◌/◌, ◌≤◌, ◌<◌}
use mathlib.Core.Path.{◌≡◌, refl, sym, ap, subst, ◌∙◌}
use mathlib.Core.List.{List, [], ◌∷◌, ◌++◌, append-nil}
use mathlib.Core.Bool.{Bool, true, false, ◌&&◌, and_assoc}
use native.Mathlib.Omega.{arith}
use native.Mathlib.Nat.{add-zero, zero-add}
use lib.Dec.{ltb}
use lib.ListN.{length, take, drop, length-take}
use lib.Seq.{get_or-take}
use borrow.Author.Tests.{lt-ltb, le-ltb, ltb-true, ltb-false}
use Rattle.laws.proofs.Bools.{cases}
use Rattle.refusal.specs.Choice.{pick}
use Rattle.refusal.specs.Limits.{second_nanos}
use Rattle.block.specs.Layout.{Entry, count_of, port_at, entries_from, entries_of}
use Rattle.judging.specs.Tests.{is_laid}
use Rattle.judging.proofs.TestLaws.{laid}
use Rattle.playback.specs.Playback.{entries_of_all, blocks_in, fresh_reader, is_trace}
use Rattle.playback.proofs.Blocks.{blocks_end, blocks_first, all_laid, AllLaid}
use Rattle.pcap.specs.Written.{packets_in}
use Rattle.exporting.specs.Exporting.{packets_of, port_of, is_writable, are_writable, weight_of, records_of}
use Rattle.exporting.proofs.Packets.{packet_length, blocks_length}

-- the nanoseconds of 2^32 seconds
pub seconds_fit : (t : ℕ) → ltb t 4294967296000000000 ≡ ltb (t / second_nanos) 4294967296
seconds_fit t =
    cases (ltb t 4294967296000000000)
    (λ y. y ∙ sym (lt-ltb (t / second_nanos) 4294967296 (omega (arith, ltb-true t 4294967296000000000 y))))
    (λ n. n ∙ sym (le-ltb (t / second_nanos) 4294967296 (omega (arith, ltb-false t 4294967296000000000 n))))

-- ---- WHAT IS WEIGHED
-- behind packets of so many octets
abbrev pub weight_by : ℕ → ℕ → List Entry → Option ℕ
weight_by total port es = pick (are_writable port es) (Some (total + length (packets_of es))) None

pub weight_begin : (port : ℕ) (es : List Entry) → weight_by 0 port es ≡ weight_of port es
unfolding weight_of
weight_begin port es = rw zero-add

pub weight_end : (total port : ℕ) → Some total ≡ weight_by total port []
unfolding are_writable packets_in
weight_end total port = rw add-zero

-- the next record cannot be written; or it can, and is weighed
module _ (total port : ℕ) (e : Entry) (es : List Entry) where
  pub weight_stop : is_writable port e ≡ false → None ≡ weight_by total port (e ∷ es)
  unfolding are_writable
  weight_stop f = rw f

  pub weight_more : is_writable port e ≡ true → weight_by (total + (30 + length e.message)) port es ≡ weight_by total port (e ∷ es)
  unfolding are_writable packets_in
  weight_more f =
      let l : total + (30 + length e.message) + length (packets_of es) ≡ total + length (packets_of (e ∷ es)) =
      omega (arith, packet_length e.time e.message (packets_of es)) in
      rw f (ap (λ (m : ℕ). pick (are_writable port es) (Some m) None) l)

-- what was weighed
picked_octets : (b : Bool) (m n : ℕ) → pick b (Some m) None ≡ Some n → (b ≡ true) × (m ≡ n)
picked_octets true m n e = (refl, cc)
picked_octets false m n e = (cc, cc)

picked_none : (b : Bool) (m : ℕ) → pick b (Some m) None ≡ None → b ≡ false
picked_none true m e = cc
picked_none false m e = refl

module _ (port : ℕ) (es : List Entry) where
  pub weighs : (n : ℕ) → weight_of port es ≡ Some n → (are_writable port es ≡ true) × (length (packets_of es) ≡ n)
  unfolding weight_of
  weighs n e = picked_octets (are_writable port es) (length (packets_of es)) n e

  pub weighs_none : weight_of port es ≡ None → are_writable port es ≡ false
  unfolding weight_of
  weighs_none e = picked_none (are_writable port es) (length (packets_of es)) e

-- ---- BLOCK BY BLOCK
pub writable_append : (port : ℕ) (es fs : List Entry) → are_writable port (es ++ fs) ≡ (are_writable port es && are_writable port fs)
unfolding are_writable
writable_append port [] fs = refl
writable_append port (e ∷ es) fs =
    ap (λ (t : Bool). is_writable port e && t) (writable_append port es fs) ∙ sym (and_assoc (is_writable port e) (are_writable port es) (are_writable port fs))

module _ (total port : ℕ) (b : List ℕ) (bs : List (List ℕ)) where
  -- a block cannot be written
  pub block_stop : weight_of port (entries_of b) ≡ None → None ≡ weight_by total port (entries_of_all (b ∷ bs))
  unfolding entries_of_all
  block_stop e = rw (writable_append port (entries_of b) (entries_of_all bs), weighs_none port (entries_of b) e)

  -- it can be, and is weighed
  pub block_more : (n : ℕ) → weight_of port (entries_of b) ≡ Some n → weight_by (total + n) port (entries_of_all bs) ≡ weight_by total port (entries_of_all (b ∷ bs))
  unfolding entries_of_all
  block_more n e =
      let w = weighs port (entries_of b) n e in
      let l : total + n + length (packets_of (entries_of_all bs)) ≡ total + length (packets_of (entries_of b ++ entries_of_all bs)) =
      omega (arith, w.1, blocks_length b bs) in
      rw (writable_append port (entries_of b) (entries_of_all bs), w.0) (ap (λ (m : ℕ). pick (are_writable port (entries_of_all bs)) (Some m) None) l)

-- ---- THE PORT
-- of the first record of a block whose layout is right, before whatever follows
pub first_of : (s : List ℕ) (fs : List Entry) → is_laid s ≡ true → port_at s 16 ≡ port_of (entries_of s ++ fs)
unfolding entries_from
first_of s fs h =
    let k = laid s h in
    let n : count_of s ≡ suc (count_of s - 1) = omega arith in
    rw n

pub first_port : (s : List ℕ) → is_laid s ≡ true → port_at s 16 ≡ port_of (entries_of s)
first_port s h = first_of s [] h ∙ ap port_of (append-nil (entries_of s))

-- of a trace's first record
pub trace_port : (s : List ℕ) → 0 < length s → is_trace s ≡ true → (27 ≤ length s) × (port_at s 16 ≡ port_of (records_of s))
unfolding entries_of_all
trace_port s h trace =
    let b = take 512 s in
    let m = blocks_first s h in
    let l : is_laid b ≡ true = (subst AllLaid m (all_laid fresh_reader (blocks_in s) trace)).0 in
    let k = laid b l in (
      omega (arith, k.whole, length-take 512 s),
      sym (get_or-take 512 s 24 0 (omega arith)) ∙ first_of b (entries_of_all (blocks_in (drop 512 s))) l ∙ ap (λ (bs : List (List ℕ)). port_of (entries_of_all bs)) (sym m),
    )

pub no_port : (s : List ℕ) → length s ≡ 0 → 0 ≡ port_of (records_of s)
unfolding entries_of_all
no_port s h = ap (λ (bs : List (List ℕ)). port_of (entries_of_all bs)) (sym (blocks_end s h))
