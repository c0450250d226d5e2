-- A TRACE IN ONE CALL AND BLOCK BY BLOCK AGREE: the same blocks are accepted, and where all are, the words are the same.
use Prim.Native.Nat.{ℕ}
use mathlib.Core.Path.{◌≡◌, refl, sym, ap, ◌∙◌}
use mathlib.Core.List.{List, [], ◌∷◌, ◌++◌, map-append}
use mathlib.Core.Bool.{Bool, true, false, ◌&&◌}
use Rattle.laws.proofs.Bools.{both}
use Rattle.refusal.specs.Choice.{pick}
use Rattle.block.specs.Layout.{Entry, entries_of}
use Rattle.judging.specs.Tests.{reader_after}
use Rattle.judging.specs.declared.Reader.{Reader}
use Rattle.ports.specs.declared.intake.Settings.{Settings}
use Rattle.ports.specs.History.{run}
use Rattle.ports.proofs.Follows.{run_append}
use Rattle.playback.specs.Playback.{call_of, calls_of, reader_of, reader_words, accepts, accepts_all, reader_after_all, entries_of_all, blocks_in, fresh_reader, is_trace, cleared, words_after_replay}
use Rattle.playback.specs.Streaming.{zero_reader, accepts_each, words_after_each, reader_after_each}
use Rattle.playback.proofs.Live.{accepted_words}

-- the records of one list, then those of another
pub calls_append : (by : Settings) (ws : List ℕ) (es fs : List Entry) → run ws (calls_of by (es ++ fs)) ≡ run (run ws (calls_of by es)) (calls_of by fs)
calls_append by ws es fs = ap (run ws) (map-append (call_of by) es fs) ∙ run_append ws (calls_of by es) (calls_of by fs)

-- the same blocks are accepted
each_by : (rs b : List ℕ) (bs : List (List ℕ)) → accepts_each (reader_words (reader_after (reader_of rs) b)) bs ≡ accepts_all (reader_after (reader_of rs) b) bs
    → (t : Bool) → (t && accepts_each (pick t (reader_words (reader_after (reader_of rs) b)) rs) bs) ≡ (t && accepts_all (reader_after (reader_of rs) b) bs)
each_by rs b bs h true = h
each_by rs b bs h false = refl

pub each_all : (rs : List ℕ) (bs : List (List ℕ)) → accepts_each rs bs ≡ accepts_all (reader_of rs) bs
unfolding accepts_all
each_all rs [] = refl
each_all rs (b ∷ bs) = each_by rs b bs (each_all (reader_words (reader_after (reader_of rs) b)) bs) (accepts (reader_of rs) b)

-- the words of the clock
each_words : (by : Settings) (r : Reader) (ws : List ℕ) (bs : List (List ℕ)) → accepts_all r bs ≡ true
    → words_after_each by (reader_words r) ws bs ≡ run ws (calls_of by (entries_of_all bs))
unfolding accepts_all entries_of_all
each_words by r ws [] e = refl
each_words by r ws (b ∷ bs) e =
    let k = both (accepts r b) (accepts_all (reader_after r b) bs) e in
    ap (λ (t : Bool). words_after_each by (pick t (reader_words (reader_after r b)) (reader_words r)) (pick t (run ws (calls_of by (entries_of b))) ws) bs) k.0
    ∙ each_words by (reader_after r b) (run ws (calls_of by (entries_of b))) bs k.1
    ∙ sym (calls_append by ws (entries_of b) (entries_of_all bs))

-- the words of the reader
each_reader : (r : Reader) (bs : List (List ℕ)) → accepts_all r bs ≡ true → reader_after_each (reader_words r) bs ≡ reader_words (reader_after_all r bs)
unfolding accepts_all reader_after_all
each_reader r [] e = refl
each_reader r (b ∷ bs) e =
    let k = both (accepts r b) (accepts_all (reader_after r b) bs) e in
    ap (λ (t : Bool). reader_after_each (pick t (reader_words (reader_after r b)) (reader_words r)) bs) k.0 ∙ each_reader (reader_after r b) bs k.1

-- SOME BLOCK IS REFUSED ON THE WAY EXACTLY WHERE THE TRACE IS REFUSED
pub each_accepted : (s : List ℕ) → accepts_each zero_reader (blocks_in s) ≡ is_trace s
each_accepted s = each_all zero_reader (blocks_in s)

-- WHERE NONE IS, THE WORDS ARE THOSE OF THE REPLAY IN ONE CALL, and the reader's are those behind all blocks
pub one_by_one : (by : Settings) (ws s : List ℕ) → is_trace s ≡ true
    → (words_after_each by zero_reader (cleared ws) (blocks_in s) ≡ words_after_replay by ws s)
    × (reader_after_each zero_reader (blocks_in s) ≡ reader_words (reader_after_all fresh_reader (blocks_in s)))
one_by_one by ws s e = (
  each_words by fresh_reader (cleared ws) (blocks_in s) e ∙ sym (accepted_words by ws s e),
  each_reader fresh_reader (blocks_in s) e,
)
