-- A TRACE HAS FEW BLOCKS: their numbers have four octets and rise strictly, so that an accepted trace has at most 4,294,967,296 blocks of 512 octets.
use Prim.Native.Nat.{ℕ, zero, suc, ◌+◌, ◌≤◌, ◌<◌}
use mathlib.Core.Path.{◌≡◌, refl, ap}
use mathlib.Core.List.{List, [], ◌∷◌}
use mathlib.Core.Bool.{true, not, ◌&&◌}
use native.Mathlib.Omega.{arith}
use lib.ListN.{length, drop}
use borrow.Author.Tests.{leb-true}
use Rattle.laws.proofs.Bools.{both}
use Rattle.octets.proofs.Laws.{Octets, octets_take, octets_drop, be_bound}
use Rattle.block.specs.Layout.{number_of, entries_of}
use Rattle.judging.specs.Tests.{fails_check, is_laid, is_next, is_in_order, reader_after}
use Rattle.judging.specs.declared.Reader.{Reader}
use Rattle.playback.specs.Playback.{accepts, chunks, chunk_count, blocks_in, accepts_all, fresh_reader, is_trace}
use Rattle.playback.proofs.Exactly.{accepts_is}

-- ---- OCTETS
-- every block is octets
abbrev pub AllOctets : List (List ℕ) → Type 0
AllOctets [] = Unit {0}
AllOctets (b ∷ bs) = Octets b × AllOctets bs

chunks_octets : (n : ℕ) (s : List ℕ) → Octets s → AllOctets (chunks n s)
unfolding chunks
chunks_octets zero s o = tt
chunks_octets (suc n) s o = (octets_take 512 s o, chunks_octets n (drop 512 s) (octets_drop 512 s o))

pub blocks_octets : (s : List ℕ) → Octets s → AllOctets (blocks_in s)
blocks_octets s o = chunks_octets (chunk_count (length s)) s o

-- ---- NUMBERS
-- an accepted block has a number that is not below the next one
number_next : (r : Reader) (b : List ℕ) → accepts r b ≡ true → r.next ≤ number_of b
number_next r b e =
    let times = is_in_order r.last (entries_of b) in
    let k = both (not (fails_check b)) (is_laid b && (is_next r.next b && times)) (rw (accepts_is r b) at e) in
    let l = both (is_laid b) (is_next r.next b && times) k.1 in
    leb-true _ _ (both (is_next r.next b) times l.1).0

-- BLOCKS THAT ARE ACCEPTED are no more than there are numbers left
pub accepted_few : (r : Reader) (bs : List (List ℕ)) → AllOctets bs → accepts_all r bs ≡ true → r.next ≤ 4294967296 → r.next + length bs ≤ 4294967296
unfolding accepts_all
accepted_few r [] o e h = omega arith
accepted_few r (b ∷ bs) o e h =
    let k = both (accepts r b) (accepts_all (reader_after r b) bs) e in
    let below : number_of b < 4294967296 = be_bound 4 b 2 o.0 in
    omega (arith, number_next r b k.0, accepted_few (reader_after r b) bs o.1 k.1 (omega arith))

chunks_length : (n : ℕ) (s : List ℕ) → length (chunks n s) ≡ n
unfolding chunks
chunks_length zero s = refl
chunks_length (suc n) s = ap suc (chunks_length n (drop 512 s))

module _ (s : List ℕ) (o : Octets s) (trace : is_trace s ≡ true) where
  -- A TRACE has no more blocks than there are numbers ..
  pub trace_few : length (blocks_in s) ≤ 4294967296
  trace_few = omega (arith, accepted_few fresh_reader (blocks_in s) (blocks_octets s o) trace (omega arith))

  -- .. and no more octets than they have
  pub trace_short : length s ≤ 2199023255552
  trace_short = omega (arith, trace_few, chunks_length (chunk_count (length s)) s)
