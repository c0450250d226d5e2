-- A TRACE IN ONE CALL AND BLOCK BY BLOCK AGREE: some block is refused on the way exactly where the trace is refused with 20 or 22, and where none is, the head
-- and what is put for the blocks are the capture.
use Rattle.std.specs.Prelude.{Result, Ok, Err}
use Prim.Native.Nat.{ℕ, ◌+◌, ◌≤◌, ◌<◌}
use mathlib.Core.Path.{◌≡◌, refl, sym, ap, ◌∙◌}
use mathlib.Core.List.{List, [], ◌∷◌, ◌++◌}
use mathlib.Core.Bool.{Bool, true, false, ◌&&◌, and-false}
use mathlib.Core.Logic.{◌⊎◌, inl, inr}
use native.Mathlib.Omega.{arith}
use lib.Dec.{eqb, ltb}
use lib.ListN.{length, take, drop, length-append, length-drop}
use lib.Seq.{take-append_seam}
use borrow.Author.Tests.{ne_eqb, eqb-false, ltb-true, ltb-false}
use Rattle.laws.proofs.Bools.{both, cases, clash}
use Rattle.refusal.specs.Choice.{pick}
use Rattle.refusal.specs.declared.Refusal.TheVariants.{Block, Export, Room}
use Rattle.refusal.proofs.Limits.{port_bounds}
use Rattle.stores.specs.Stores.{over}
use Rattle.block.specs.Layout.{Entry, count_of, port_at, entries_of}
use Rattle.judging.specs.Tests.{is_laid, reader_after}
use Rattle.judging.specs.declared.Reader.{Reader}
use Rattle.judging.proofs.TestLaws.{laid}
use Rattle.judging.proofs.Passed.{one_laid}
use Rattle.playback.specs.Playback.{accepts, accepts_all, entries_of_all, blocks_in, fresh_reader, is_trace}
use Rattle.playback.proofs.Blocks.{all_laid}
use Rattle.pcap.specs.Written.{packets_in, head_in, our_form, our_fields}
use Rattle.exporting.specs.Exporting.{packets_of, capture_of, port_of, are_writable, records_of, can_write, export_of, lent_by}
use Rattle.exporting.specs.Streaming.{zero_words, is_written, put_by, writes_each, put_each}
use Rattle.exporting.proofs.Packets.{packets_append, block_packets}
use Rattle.exporting.proofs.Writable.{writable_append, first_of, first_port}
use Rattle.exporting.proofs.Exported.{no_room, exported, not_accepted, block_unwritable, block_written}
use Rattle.refusal.specs.declared.Refusal.{Refusal}

-- ---- THE PORT
-- that of the records before, or of the first one here
abbrev port_from : ℕ → List Entry → ℕ
port_from port es = pick (eqb port 0) (port_of es) port

-- a block that is accepted is laid out right
accepted_laid : (r : Reader) (b : List ℕ) → accepts r b ≡ true → is_laid b ≡ true
unfolding accepts_all
accepted_laid r b e = (all_laid r (b ∷ []) (rw e)).0

module _ (b : List ℕ) (l : is_laid b ≡ true) where
  -- its first record is of a port that there is
  first_is : 0 < port_at b 16
  first_is =
      let k = laid b l in
      omega (arith, port_bounds (port_at b 16) (one_laid b 16 (count_of b) (omega arith) k.records).port)

  -- so that what follows does not matter, and behind it there is a port
  port_same : (port : ℕ) (fs : List Entry) → port_from port (entries_of b ++ fs) ≡ port_from port (entries_of b)
  port_same port fs = ap (λ (p : ℕ). pick (eqb port 0) p port) (sym (first_of b fs l) ∙ first_port b l)

  port_there : (port : ℕ) → port_from port (entries_of b) ≡ 0 → ⊥
  port_there port e =
      cases (eqb port 0)
      (λ y. let z : port_at b 16 ≡ 0 = first_port b l ∙ rw y at e in omega (arith, first_is))
      (λ n. eqb-false port 0 n (rw n at e))

-- ---- THE BLOCKS
-- the words of a writer
abbrev words_of : Reader → ℕ → List ℕ
words_of r port = r.next ∷ r.last ∷ port ∷ []

-- a block that is accepted, behind records of a port, and its own: those behind it are judged by the same port
module _ (r : Reader) (port : ℕ) (b : List ℕ) (bs : List (List ℕ)) (y : accepts r b ≡ true) where
  abbrev its : ℕ
  its = port_from port (entries_of b)

  judged_on : are_writable its (entries_of b) ≡ true
      → are_writable (port_from port (entries_of b ++ entries_of_all bs)) (entries_of b ++ entries_of_all bs) ≡ are_writable (port_from its (entries_of_all bs)) (entries_of_all bs)
  judged_on z =
      let l = accepted_laid r b y in
      let stay : port_from its (entries_of_all bs) ≡ its = rw (ne_eqb its 0 (port_there b l port)) in
      ap (λ (p : ℕ). are_writable p (entries_of b ++ entries_of_all bs)) (port_same b l port (entries_of_all bs))
      ∙ writable_append its (entries_of b) (entries_of_all bs)
      ∙ ap (λ (t : Bool). t && are_writable its (entries_of_all bs)) z
      ∙ ap (λ (p : ℕ). are_writable p (entries_of_all bs)) (sym stay)

  judged_not : are_writable its (entries_of b) ≡ false → are_writable (port_from port (entries_of b ++ entries_of_all bs)) (entries_of b ++ entries_of_all bs) ≡ false
  judged_not z =
      ap (λ (p : ℕ). are_writable p (entries_of b ++ entries_of_all bs)) (port_same b (accepted_laid r b y) port (entries_of_all bs))
      ∙ writable_append its (entries_of b) (entries_of_all bs)
      ∙ ap (λ (t : Bool). t && are_writable its (entries_of_all bs)) z

-- none is refused exactly where all are accepted and can be written
writes_is : (r : Reader) (port : ℕ) (bs : List (List ℕ)) → writes_each (words_of r port) bs ≡ (accepts_all r bs && are_writable (port_from port (entries_of_all bs)) (entries_of_all bs))
unfolding accepts_all entries_of_all are_writable
writes_is r port [] = refl
writes_is r port (b ∷ bs) =
    let rs = words_of r port in
    let q = reader_after r b in
    let p = port_from port (entries_of b) in
    let es = entries_of b ++ entries_of_all bs in
    cases (accepts r b)
    (λ y.
    cases (are_writable p (entries_of b))
    (λ z.
    ap (λ (w : Result ℕ Refusal). is_written w && writes_each (lent_by w rs (words_of q p)) bs) (block_written rs b y z)
    ∙ writes_is q p bs
    ∙ sym (λ i. (y i && accepts_all q bs) && judged_on r port b bs y z i))
    (λ n.
    ap (λ (w : Result ℕ Refusal). is_written w && writes_each (lent_by w rs (words_of q p)) bs) (block_unwritable rs b y n)
    ∙ sym (ap (λ (t : Bool). (accepts r b && accepts_all q bs) && t) (judged_not r port b bs y n) ∙ and-false (accepts r b && accepts_all q bs))))
    (λ n.
    ap (λ (w : Result ℕ Refusal). is_written w && writes_each (lent_by w rs (words_of q p)) bs) (not_accepted rs b n)
    ∙ sym (ap (λ (t : Bool). (t && accepts_all q bs) && are_writable (port_from port es) es) n))

-- ---- THE OCTETS
-- as many as were put are those that were put, and what was lent is as long as before
put_there : (out x : List ℕ) → take (length x) (over out 0 x) ≡ x
put_there out x = take-append_seam x (drop (0 + length x) out)

put_long : (out x : List ℕ) → length x ≤ length out → length (over out 0 x) ≡ length out
put_long out x h = omega (arith, length-append x (drop (0 + length x) out), length-drop (0 + length x) out)

puts_is : (r : Reader) (port : ℕ) (out : List ℕ) (bs : List (List ℕ)) → length out ≡ 1351 → accepts_all r bs ≡ true
    → are_writable (port_from port (entries_of_all bs)) (entries_of_all bs) ≡ true → put_each (words_of r port) out bs ≡ packets_of (entries_of_all bs)
unfolding accepts_all entries_of_all packets_in
puts_is r port out [] n a w = refl
puts_is r port out (b ∷ bs) n a w =
    let rs = words_of r port in
    let q = reader_after r b in
    let p = port_from port (entries_of b) in
    let x = packets_of (entries_of b) in
    let o = over out 0 x in
    let k = both (accepts r b) (accepts_all q bs) a in
    let y = k.0 in
    let l = accepted_laid r b y in
    cases (are_writable p (entries_of b))
    (λ z.
    ap (λ (v : Result ℕ Refusal). put_by v (lent_by v out o) ++ put_each (lent_by v rs (words_of q p)) (lent_by v out o) bs) (block_written rs b y z)
    ∙ (λ i. put_there out x i
    ++ puts_is q p o bs (put_long out x (omega (arith, block_packets b l)) ∙ n) k.1 (sym (judged_on r port b bs y z) ∙ w) i)
    ∙ sym (packets_append (entries_of b) (entries_of_all bs)))
    (λ f. clash w (judged_not r port b bs y f))

module _ (s : List ℕ) where
  -- NO BLOCK IS REFUSED ON THE WAY exactly where the trace is refused neither with 20 nor with 22, ..
  pub each_written : writes_each zero_words (blocks_in s) ≡ (is_trace s && can_write s)
  each_written = writes_is fresh_reader 0 (blocks_in s)

  -- .. and then THE HEAD AND WHAT IS PUT FOR THE BLOCKS ARE THE CAPTURE
  pub one_by_one : (out : List ℕ) → length out ≡ 1351 → is_trace s ≡ true → can_write s ≡ true
      → head_in our_form our_fields [] ++ put_each zero_words out (blocks_in s) ≡ capture_of (records_of s)
  one_by_one out n t w = ap (head_in our_form our_fields) (puts_is fresh_reader 0 out (blocks_in s) n t w)

  -- so where the whole is refused with 20 or 22, some block is refused
  pub refused_each : (room : ℕ) → (export_of room s ≡ Err Block) ⊎ (export_of room s ≡ Err Export) → writes_each zero_words (blocks_in s) ≡ false
  refused_each room e =
      cases (writes_each zero_words (blocks_in s))
      (λ y.
      let k = both (is_trace s) (can_write s) (sym each_written ∙ y) in
      cases (ltb room (length (capture_of (records_of s))))
      (λ h. absurd (neither (no_room s room k.0 k.1 (ltb-true _ _ h)) e))
      (λ h. absurd (neither_done (exported s room k.0 k.1 (ltb-false _ _ h)) e)))
      (λ n. n)
    where
      neither : {w : Result ℕ Refusal} → w ≡ Err Room → (w ≡ Err Block) ⊎ (w ≡ Err Export) → ⊥
      neither r (inl e) = let z : ◌≡◌ {A = ℕ} 0 1 = cc in omega arith
      neither r (inr e) = let z : ◌≡◌ {A = ℕ} 0 1 = cc in omega arith

      neither_done : {w : Result ℕ Refusal} {n : ℕ} → w ≡ Ok n → (w ≡ Err Block) ⊎ (w ≡ Err Export) → ⊥
      neither_done r (inl e) = let z : ◌≡◌ {A = ℕ} 0 1 = cc in omega arith
      neither_done r (inr e) = let z : ◌≡◌ {A = ℕ} 0 1 = cc in omega arith
