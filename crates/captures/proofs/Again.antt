-- A TRACE THAT REPLAY ACCEPTS CAN BE RECORDED AGAIN, whatever its blocks were: no record is refused. Records that are cut anew, each block filled while the next
-- record fits, come to no more blocks than they stood in, so that the numbers are enough for them.
use Rattle.std.specs.Prelude.{Result, Ok}
use Prim.Native.Nat.{ℕ, zero, suc, ◌+◌, ◌-◌, ◌≤◌, ◌<◌}
use mathlib.Core.Path.{◌≡◌, refl, sym, ap, subst, ◌∙◌}
use mathlib.Core.Logic.{◌⊎◌, inl, inr}
use mathlib.Core.List.{List, [], ◌∷◌, ◌++◌}
use mathlib.Core.Bool.{Bool, true, false, not, ◌&&◌}
use native.Mathlib.Omega.{arith}
use lib.Dec.{leb}
use lib.ListN.{length, drop, length-drop}
use lib.Seq.{length-take-le}
use borrow.Author.Tests.{leb-true, le-leb}
use Rattle.laws.proofs.Bools.{both, clash}
use Rattle.refusal.specs.Limits.{is_port}
use Rattle.octets.proofs.Laws.{Octets, be_bound}
use Rattle.block.specs.Layout.{block_octets, records_at, head_octets, Entry, number_of, count_of, time_at, port_at, length_at, entry_at, end_at, entries_from, entries_of}
use Rattle.block.specs.Making.{size_of}
use Rattle.judging.specs.Tests.{fails_check, laid_from, is_laid, is_next, is_in_order, last_of as lastTime, reader_after}
use Rattle.judging.specs.declared.Reader.{Reader}
use Rattle.judging.proofs.TestLaws.{laid}
use Rattle.recording.specs.Recording.{next_of, last_of, end_of, fits, record_check, words_with, words_after, lent_by}
use Rattle.recording.proofs.Refusing.{is_done_lem}
use Rattle.playback.specs.Playback.{accepts, accepts_all, fresh_reader, is_trace, entries_of_all}
use Rattle.playback.proofs.Exactly.{accepts_is}
use Rattle.exporting.specs.Exporting.{records_of}
use Rattle.exporting.proofs.Few.{AllOctets, blocks_octets}
use Rattle.importing.specs.Importing.{or_else, records_check, fresh_words}
use Rattle.refusal.specs.declared.Refusal.{Refusal}

-- ---- WHERE A RECORDING IS, beside the trace whose records it is handed: the trace is in its block j, counted from 1, of whose room x octets are used. The
-- recording has opened no more blocks, and where it has opened as many, its open one is no fuller.
pub record Behind (j x : ℕ) (ws : List ℕ) : Type 0 where
  pub next : next_of ws ≤ j
  pub end : next_of ws ≡ j → end_of ws ≤ records_at + x
  pub begun : 0 < next_of ws → records_at ≤ end_of ws

-- a record of the trace's block is taken, and the recording is still no further
module _ (j x : ℕ) (ws : List ℕ) (e : Entry) (some : 0 < j) (few : j ≤ 4294967296) (b : Behind j x ws)
    (port : is_port e.port ≡ true) (later : last_of ws ≤ e.time) (room : x + size_of e ≤ 496) where
  -- in a block that is as full as the trace's, or less, it has its place
  same_fits : next_of ws ≡ j → fits ws e ≡ true
  same_fits is =
      let k = b.begun (omega arith) in
      let l = b.end is in
      let p = le-leb records_at (end_of ws) k in
      let q = le-leb (end_of ws + (head_octets + length e.message)) block_octets (omega arith) in
      λ i. p i && q i

  new_block : fits ws e ≡ false → next_of ws < j
  new_block f = below (next_of ws) b.next (λ is. clash (same_fits is) f)
    where
      below : (n : ℕ) → n ≤ j → (n ≡ j → ⊥) → n < j
      below n h k = omega (arith, k)

  place : (f : Bool) → fits ws e ≡ f → (fits ws e ≡ true) ⊎ (next_of ws ≤ 4294967295)
  place true f = inl f
  place false f = inr (omega (arith, new_block f))

  pub is_taken : record_check ws e ≡ Ok tt
  is_taken =
      is_done_lem ws e (record { port = port; short = omega arith; later = later; place = place (fits ws e) refl })

  words_are : words_after ws e ≡ words_with ws e
  words_are = ap (λ (o : Result (Unit {0}) Refusal). lent_by o ws (words_with ws e)) is_taken

  behind_by : (f : Bool) → fits ws e ≡ f → Behind j (x + size_of e) (words_with ws e)
  behind_by true f =
      rw f
      (record {
        next = b.next;
        end = λ is. omega (arith, b.end is);
        begun = λ h. omega (arith, b.begun h);
      })
  behind_by false f = rw f (record { next = new_block f; end = λ is. omega arith; begun = λ h. omega arith })

  pub still_behind : Behind j (x + size_of e) (words_after ws e)
  still_behind = subst (Behind j (x + size_of e)) (sym words_are) (behind_by (fits ws e) refl)

  last_by : (f : Bool) → fits ws e ≡ f → last_of (words_with ws e) ≡ e.time
  last_by true f = rw f
  last_by false f = rw f

  pub last_is : last_of (words_after ws e) ≡ e.time
  last_is = ap last_of words_are ∙ last_by (fits ws e) refl

-- ---- A BLOCK
-- all records of a block that is laid out right, and then others
module _ (j : ℕ) (some : 0 < j) (few : j ≤ 4294967296) (s : List ℕ) (whole : length s ≡ block_octets) (rest : List Entry) where
  message_length : (at : ℕ) → end_at s at ≤ block_octets → at + size_of (entry_at s at) ≡ end_at s at
  message_length at h =
      let l = length-drop (at + head_octets) s in
      let k = length-take-le (length_at s at) (drop (at + head_octets) s) (omega arith) in
      omega arith

  -- what is left to do behind them: the others are taken by whatever words are no further than this block, behind its last time
  abbrev Then : ℕ → Type 0
  Then last = (ws : List ℕ) (x : ℕ) → Behind j x ws → last_of ws ≡ last → records_check ws rest ≡ Ok tt

  entries_taken : (n at : ℕ) (ws : List ℕ) → records_at ≤ at → laid_from n s at ≡ true → Behind j (at - records_at) ws
      → (last : ℕ) → last_of ws ≡ last → is_in_order last (entries_from n s at) ≡ true → Then (lastTime last (entries_from n s at))
      → records_check ws (entries_from n s at ++ rest) ≡ Ok tt
  unfolding laid_from entries_from is_in_order lastTime records_check
  entries_taken zero at ws h l b last is order more = more ws (at - records_at) b is
  entries_taken (suc n) at ws h l b last is order more =
      let e = entry_at s at in
      let k = both (leb (end_at s at) block_octets) (is_port (port_at s at) && laid_from n s (end_at s at)) l in
      let m = both (is_port (port_at s at)) (laid_from n s (end_at s at)) k.1 in
      let t = both (leb last (time_at s at)) (is_in_order (time_at s at) (entries_from n s (end_at s at))) order in
      let z = message_length at (leb-true (end_at s at) block_octets k.0) in
      let inside = leb-true (end_at s at) block_octets k.0 in
      let later : last_of ws ≤ time_at s at = omega (arith, leb-true last (time_at s at) t.0) in
      let x = at - records_at in
      let room : x + size_of e ≤ 496 = omega arith in
      let here : x + size_of e ≡ end_at s at - records_at = omega arith in
      let taken = is_taken j x ws e some few b m.0 later room in
      let still = subst (λ (y : ℕ). Behind j y (words_after ws e)) here (still_behind j x ws e some few b m.0 later room) in
      ap (λ (o : Result (Unit {0}) Refusal). or_else o (records_check (words_after ws e) (entries_from n s (end_at s at) ++ rest))) taken
      ∙ entries_taken n (end_at s at) (words_after ws e) (omega arith) m.1 still (time_at s at) (last_is j x ws e some few b m.0 later room) t.1 more

-- ---- ALL BLOCKS
-- the next block of the trace
next_behind : (j x : ℕ) (ws : List ℕ) → Behind j x ws → Behind (suc j) 0 ws
next_behind j x ws b = record { next = omega (arith, b.next); end = λ is. absurd (omega (arith, b.next)); begun = b.begun }

-- what an accepted block is
pub record Passed (r : Reader) (s : List ℕ) : Type 0 where
  pub is_laid_lem : is_laid s ≡ true
  pub is_next_lem : r.next ≤ number_of s
  pub is_timed : is_in_order r.last (entries_of s) ≡ true

pub passed : (r : Reader) (s : List ℕ) → accepts r s ≡ true → Passed r s
passed r s e =
    let times = is_in_order r.last (entries_of s) in
    let k = both (not (fails_check s)) (is_laid s && (is_next r.next s && times)) (rw (accepts_is r s) at e) in
    let l = both (is_laid s) (is_next r.next s && times) k.1 in
    let m = both (is_next r.next s) times l.1 in
    record { is_laid_lem = l.0; is_next_lem = leb-true _ _ m.0; is_timed = m.1 }

blocks_taken : (bs : List (List ℕ)) (r : Reader) (j x : ℕ) (ws : List ℕ) → AllOctets bs → accepts_all r bs ≡ true → j ≤ r.next → Behind j x ws → last_of ws ≡ r.last
    → records_check ws (entries_of_all bs) ≡ Ok tt
unfolding accepts_all entries_of_all records_check
blocks_taken [] r j x ws o e h b is = refl
blocks_taken (s ∷ bs) r j x ws o e h b is =
    let k = both (accepts r s) (accepts_all (reader_after r s) bs) e in
    let p = passed r s k.0 in
    let l = laid s p.is_laid_lem in
    let below : number_of s < 4294967296 = be_bound 4 s 2 o.0 in
    entries_taken (suc j) (omega arith) (omega (arith, p.is_next_lem)) s l.whole (entries_of_all bs) (count_of s) records_at ws (omega arith) l.records
    (next_behind j x ws b) r.last is p.is_timed
    (λ vs y c at. blocks_taken bs (reader_after r s) (suc j) y vs o.1 k.1 (omega (arith, p.is_next_lem)) c at)

-- EVERY RECORD OF A TRACE is taken by a fresh recording
pub taken_again : (s : List ℕ) → Octets s → is_trace s ≡ true → records_check fresh_words (records_of s) ≡ Ok tt
taken_again s o e =
    blocks_taken _ fresh_reader 0 0 fresh_words (blocks_octets s o) e (omega arith)
    (record { next = omega arith; end = λ is. omega arith; begun = λ h. absurd (omega arith) })
    refl
