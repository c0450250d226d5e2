-- A trace on its way: the blocks from an octet on are the one that begins there and those from its end on, and what is left of a block, or of a
-- trace, gives, after what was taken, all that the whole gives.
use Rattle.std.specs.Prelude.{Result, Ok, Err}
use Prim.Native.Nat.{ℕ, suc, ◌≤◌, ◌<◌, min}
use mathlib.Core.Path.{◌≡◌, refl, sym, ap, ◌∙◌}
use mathlib.Core.List.{List, [], ◌∷◌, ◌++◌}
use mathlib.Core.Bool.{Bool, false≢true, true, false, not, ◌&&◌}
use native.Mathlib.Omega.{arith}
use Rattle.std.proofs.lemmas.List.{append-nil, take_at, drop_at}
use lib.ListN.{length-append, length, take, drop, length-drop, drop_of_length-le}
use lib.Seq.{take_all}
use Rattle.laws.proofs.Bools.{both}
use Rattle.refusal.specs.Choice.{refuse}
use Rattle.refusal.specs.declared.Refusal.TheVariants.{Block}
use Rattle.block.specs.Layout.{entries_of}
use Rattle.judging.specs.Tests.{fails_check, is_laid, is_next, is_in_order, reader_after, verdict_of}
use Rattle.judging.specs.declared.Reader.{Reader}
use Rattle.judging.specs.declared.Flaw.{Flaw}
use Rattle.judging.specs.declared.Flaw.TheVariants as verdict
use Rattle.ports.specs.declared.intake.Settings.{Settings}
use Rattle.ports.specs.History.{run}
use Rattle.playback.specs.Playback.{calls_of, is_sound, reader_of, reader_words, accepts, block_check, words_after_block, reader_after_block, chunks, chunk_count, blocks_in, accepts_all, reader_after_all, entries_of_all}
use Rattle.playback.proofs.Streamed.{calls_append}
use Rattle.refusal.specs.declared.Refusal.{Refusal}

-- ---- the blocks of a trace, one after the other
-- where octets are left the next block is 512 of them, or those that there are; where none are there is none
pub blocks_first : (s : List ℕ) → 0 < length s → blocks_in s ≡ take 512 s ∷ blocks_in (drop 512 s)
unfolding chunks
blocks_first s h =
    let e : chunk_count (length s) ≡ suc (chunk_count (length (drop 512 s))) = omega (arith, length-drop 512 s) in
    ap (λ (n : ℕ). chunks n s) e

block_before : (b t : List ℕ) → length b ≡ min 512 (length (b ++ t)) → (take 512 (b ++ t) ≡ b) × (drop 512 (b ++ t) ≡ t)
block_before b [] n =
    let m : length (b ++ []) ≤ 512 = omega (arith, length-append b []) in
    (rw append-nil (take_all 512 b (omega (arith, ap length (append-nil b)))), drop_of_length-le (b ++ []) m)
block_before b (x ∷ t) n =
    let m : length b ≡ 512 = omega (arith, length-append b (x ∷ t)) in
    (take_at b (x ∷ t) 512 m, drop_at b (x ∷ t) 512 m)

-- as it is lent, with those behind it
pub blocks_more : (s b t : List ℕ) (n : ℕ) → n ≡ 512 → (s ≡ b ++ t) × (length b ≡ min n (length s)) × (0 < length s) → blocks_in s ≡ b ∷ blocks_in t
blocks_more s b t n e h =
    let k = block_before b t (omega (arith, ap length h.0)) in
    blocks_first s h.2 ∙ ap (λ (l : List ℕ). take 512 l ∷ blocks_in (drop 512 l)) h.0 ∙ rw (k.0, k.1)

pub blocks_end : (s : List ℕ) → length s ≡ 0 → blocks_in s ≡ []
unfolding chunks
blocks_end [] e = refl
blocks_end (x ∷ s) e = absurd (omega arith)

-- ---- what a block is found to be
module _ (r : Reader) (s : List ℕ) where
  sound_by : (a b c d : Bool) (x q : Reader)
      → refuse a (Err verdict.Check) (refuse (not b) (Err verdict.Layout) (refuse (not c) (Err verdict.Number) (refuse (not d) (Err verdict.Time) (Ok x)))) ≡ Ok q
      → (b ≡ true) × (x ≡ q)
  unfolding refuse
  sound_by true b c d x q e = absurd (let z : ◌≡◌ {A = ℕ} 0 1 = cc in omega arith)
  sound_by false false c d x q e = absurd (let z : ◌≡◌ {A = ℕ} 0 1 = cc in omega arith)
  sound_by false true false d x q e = absurd (let z : ◌≡◌ {A = ℕ} 0 1 = cc in omega arith)
  sound_by false true true false x q e = absurd (let z : ◌≡◌ {A = ℕ} 0 1 = cc in omega arith)
  sound_by false true true true x q e = (refl, cc)

  -- a sound block is laid out right, and its reader goes on behind it
  pub sound_laid : (q : Reader) → verdict_of r s ≡ Ok q → (is_laid s ≡ true) × (reader_after r s ≡ q)
  unfolding verdict_of
  sound_laid q e = sound_by (fails_check s) (is_laid s) (is_next r.next s) (is_in_order r.last (entries_of s)) (reader_after r s) q e

-- a verdict that is none of a sound block
pub unsound : (v : Result Reader Flaw) → ((q : Reader) → v ≡ Ok q → ⊥) → is_sound v ≡ false
unsound (Err x) k = refl
unsound (Ok q) k = absurd (k q refl)

-- ---- looking at all blocks
-- what the blocks that are left give
abbrev pub replay_by : Reader → List (List ℕ) → Result ℕ Refusal
replay_by r bs = refuse (not (accepts_all r bs)) (Err Block) (Ok (reader_after_all r bs).last)

pub look_end : (r : Reader) → replay_by r [] ≡ Ok r.last
unfolding accepts_all reader_after_all refuse
look_end r = refl

pub look_stop : (r : Reader) (b : List ℕ) (bs : List (List ℕ)) → accepts r b ≡ false → replay_by r (b ∷ bs) ≡ Err Block
unfolding accepts_all refuse
look_stop r b bs e = rw e

pub look_more : (r q : Reader) (b : List ℕ) (bs : List (List ℕ)) → verdict_of r b ≡ Ok q → replay_by r (b ∷ bs) ≡ replay_by q bs
unfolding accepts_all reader_after_all
look_more r q b bs e =
    ap (λ (t : Bool). refuse (not (t && accepts_all (reader_after r b) bs)) (Err Block) (Ok (reader_after_all (reader_after r b) bs).last)) (ap is_sound e)
    ∙ ap (λ (k : Reader). replay_by k bs) (sound_laid r b q e).1

-- ---- taking the records of all blocks
abbrev pub AllLaid : List (List ℕ) → Type 0
AllLaid [] = Unit {0}
AllLaid (b ∷ bs) = (is_laid b ≡ true) × AllLaid bs

laid_by : (r : Reader) (s : List ℕ) (v : Result Reader Flaw) → verdict_of r s ≡ v → is_sound v ≡ true → is_laid s ≡ true
laid_by r s (Err flaw) e k = absurd (false≢true k)
laid_by r s (Ok q) e k = (sound_laid r s q e).0

-- blocks that are accepted are laid out right
pub all_laid : (r : Reader) (bs : List (List ℕ)) → accepts_all r bs ≡ true → AllLaid bs
unfolding accepts_all
all_laid r [] e = tt
all_laid r (b ∷ bs) e =
    let k = both (accepts r b) (accepts_all (reader_after r b) bs) e in
    (laid_by r b (verdict_of r b) refl k.0, all_laid (reader_after r b) bs k.1)

-- one block more was taken
pub block_taken : (by : Settings) (ws ws' b : List ℕ) (bs : List (List ℕ)) → ws' ≡ run ws (calls_of by (entries_of b))
    → run ws' (calls_of by (entries_of_all bs)) ≡ run ws (calls_of by (entries_of_all (b ∷ bs)))
unfolding entries_of_all
block_taken by ws ws' b bs e =
    ap (λ (vs : List ℕ). run vs (calls_of by (entries_of_all bs))) e ∙ sym (calls_append by ws (entries_of b) (entries_of_all bs))

-- ---- a block is replayed
module _ (by : Settings) (rs ws s : List ℕ) where
  pub block_refused : accepts (reader_of rs) s ≡ false
      → (Err Block ≡ block_check (reader_of rs) s) × ((ws ≡ words_after_block by (reader_of rs) ws s) × (rs ≡ reader_after_block rs s))
  unfolding refuse
  block_refused e = (rw e, (rw e, rw e))

  pub block_done : (q : Reader) (ws' : List ℕ) → verdict_of (reader_of rs) s ≡ Ok q → ws' ≡ run ws (calls_of by (entries_of s))
      → (Ok tt ≡ block_check (reader_of rs) s) × ((ws' ≡ words_after_block by (reader_of rs) ws s) × (reader_words q ≡ reader_after_block rs s))
  unfolding refuse
  block_done q ws' e took =
      let a : accepts (reader_of rs) s ≡ true = ap is_sound e in
      (rw a, (rw a took, rw a (ap reader_words (sym (sound_laid (reader_of rs) s q e).1))))
