-- A reader that streams gets the trace that the whole file gives.
use Prim.Native.Nat.{ℕ}
use mathlib.Core.Path.{◌≡◌, ◌∙◌, refl, sym, ap}
use mathlib.Core.List.{List, [], ◌∷◌, ◌++◌, append_assoc, flatten}
use mathlib.Core.Bool.{Bool, true, false}
use lib.ListN.{replicate}
use Rattle.refusal.specs.Choice.{pick}
use Rattle.block.specs.Layout.{block_octets, Entry}
use Rattle.block.specs.Making.{sealed}
use Rattle.recording.specs.Recording.{is_open, record_check, out_by, words_after}
use Rattle.traces.specs.Taped.{Tape, taped_with, fresh_tape, kept_by, kept_of, cut, numbered}
use Rattle.traces.proofs.Meaning.{trace_is}
use Rattle.pcap.specs.File.{Frame}
use Rattle.importing.specs.Importing.{frame_recorded, open_behind, words_behind, out_behind, came_out, taken_of, fresh_words, trace_by}
use Rattle.importing.specs.Streamed.{Stream, streamed_with, streamed_all, stream_of, fresh_stream}
use Rattle.importing.proofs.Tapes.{remains}
use Rattle.importing.proofs.Frames.{frame_more, remains_last}

-- the open block at last
last_by : (opened out : List ℕ) (b : Bool) → pick b (out_by b opened out) [] ≡ pick b (sealed opened) []
last_by opened out true = refl
last_by opened out false = refl

-- what was put together, and what a tape still gives
streamed_on : (port : ℕ) (xs : List Frame) (s : Stream) → stream_of (streamed_all port s xs) ≡ s.given ++ remains s.opened s.words (taken_of port xs)
unfolding streamed_all
streamed_on port [] s =
    ap (λ (l : List ℕ). s.given ++ l) (last_by s.opened s.out (is_open s.words) ∙ sym (remains_last s.opened s.words port))
streamed_on port (x ∷ xs) s =
    let c = came_out (frame_recorded s.words port x) (out_behind s.opened s.words port x s.out) in
    let r = remains (open_behind s.opened s.words port x) (words_behind s.words port x) (taken_of port xs) in
    streamed_on port xs (streamed_with port s x)
    ∙ append_assoc s.given c r
    ∙ ap (λ (l : List ℕ). s.given ++ l) (sym (frame_more s.opened s.words s.out port x xs))

-- which records are kept is told by the words alone
kept_by_words : (es : List Entry) (t u : Tape) → t.words ≡ u.words → kept_of t es ≡ kept_of u es
unfolding kept_of
kept_by_words [] t u h = refl
kept_by_words (e ∷ es) t u h =
    let n = kept_by_words es (taped_with t e) (taped_with u e) (ap (λ (ws : List ℕ). words_after ws e) h) in
    λ i. kept_by (record_check (h i) e) e (n i)

-- what the open block held before a fresh recording does not matter
pub any_open : (opened : List ℕ) (es : List Entry) → remains opened fresh_words es ≡ trace_by es
any_open opened es =
    let t : Tape = fresh_tape opened 0 in
    let u : Tape = fresh_tape (replicate block_octets 0) 0 in
    trace_is opened 0 es
    ∙ ap (λ (ks : List Entry). flatten (numbered 0 (cut ks))) (kept_by_words es t u refl)
    ∙ sym (trace_is (replicate block_octets 0) 0 es)

-- THE FRAMES HANDED IN ONE AFTER ANOTHER give the trace of all that are taken, from zeroed words and whatever blocks
pub streamed_is : (opened out : List ℕ) (port : ℕ) (xs : List Frame) → stream_of (streamed_all port (fresh_stream opened out) xs) ≡ trace_by (taken_of port xs)
streamed_is opened out port xs = streamed_on port xs (fresh_stream opened out) ∙ any_open opened (taken_of port xs)
