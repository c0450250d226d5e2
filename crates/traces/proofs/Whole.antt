-- WHAT WAS RECORDED BESIDE A LIVE CLOCK, REPLAYED, GIVES THE LIVE STATE: as long as recording refused none of the messages that the clock accepted, the
-- trace is accepted, and the replay leaves the words of the live clock (02, (iv)).
use Rattle.std.specs.Prelude.{Result, Ok, Err}
use Prim.Native.Nat.{ℕ, ◌≤◌, ◌<◌}
use mathlib.Core.Path.{◌≡◌, ◌∙◌, refl, sym, ap, subst}
use mathlib.Core.List.{List, [], ◌∷◌, ◌++◌, map, flatten}
use mathlib.Core.Bool.{true, ◌&&◌}
use native.Mathlib.Omega.{arith}
use lib.ListN.{length, length-append}
use Rattle.refusal.specs.Refusal.{code_of}
use Rattle.refusal.proofs.Numbers.{answered}
use Rattle.senders.specs.Port.{outcome_of}
use Rattle.block.specs.Layout.{block_octets, Entry, entries_of}
use Rattle.block.specs.Making.{EntryFits, All}
use Rattle.judging.specs.declared.Reader.{Reader}
use Rattle.recording.specs.Recording.{entry_of, record_check}
use Rattle.ports.specs.declared.intake.Settings.{Settings}
use Rattle.ports.specs.Intake.{plan_at}
use Rattle.ports.specs.History.{Call, taking, after, run}
use Rattle.ports.specs.When.{take_number}
use Rattle.ports.specs.Words.{all_words}
use Rattle.ports.proofs.Follows.{refusal_leaves}
use Rattle.playback.specs.Playback.{is_sound, blocks_in, accepts_all, entries_of_all, fresh_reader, is_trace, cleared, words_after_replay}
use Rattle.playback.specs.Live.{Holds, none, asked, recorded, left_out}
use Rattle.playback.proofs.Blocks.{blocks_end, blocks_more}
use Rattle.playback.proofs.Live.{replay_is_live, replay_is_live_on}
use Rattle.traces.specs.Taped.{Tape, taped_with, taped_all, trace_of, fresh_tape, kept_of, cut, numbered, Sounds, end, next}
use Rattle.traces.specs.Whole.{messages_of, trace_beside, KeepsTaken, over, asks, takes}
use Rattle.traces.proofs.Meaning.{not_kept, kept, trace_is}
use Rattle.traces.proofs.Sound.{trace_sound, records_back}
use Rattle.refusal.specs.declared.Refusal.{Refusal}

-- ---- THE RECORDS HOLD THE HISTORY
module _ (by : Settings) (ws : List ℕ) (t : Tape) (p tm : ℕ) (s : List ℕ) (cs : List Call) where
  -- one message: it is kept; or it is not, and then the clock refused it and is as it was
  abbrev e : Entry
  e = entry_of tm p s

  message_holds : (take_number by ws p tm s ≡ 0 → record_check t.words e ≡ Ok tt)
      → Holds by (after ws (taking by p tm s)) cs (kept_of (taped_with t e) (messages_of cs))
      → (r o : Result (Unit {0}) Refusal) → record_check t.words e ≡ r → outcome_of (plan_at by ws p tm s) ≡ o
      → Holds by ws (taking by p tm s ∷ cs) (kept_of t (e ∷ messages_of cs))
  message_holds g h (Ok tt) o d k = rw (kept t e d (messages_of cs)) (recorded h)
  message_holds g h (Err x) (Ok tt) d k = absurd (let n = g (ap code_of k) in let z : ◌≡◌ {A = ℕ} 0 1 = cc in omega arith)
  message_holds g h (Err x) (Err y) d k =
      rw (not_kept t e x d (messages_of cs))
      (left_out (subst (λ (n : ℕ). 0 < n) (sym (ap code_of k)) (answered y))
      (subst (λ (vs : List ℕ). Holds by vs cs (kept_of (taped_with t e) (messages_of cs))) (refusal_leaves ws p tm (plan_at by ws p tm s) y k) h))

-- WHAT A TAPE KEPT holds the history that it ran beside
pub kept_holds : {by : Settings} {ws : List ℕ} {t : Tape} {cs : List Call} → KeepsTaken by ws t cs → Holds by ws cs (kept_of t (messages_of cs))
unfolding messages_of kept_of
kept_holds over = none
kept_holds (asks h) = asked (kept_holds h)
kept_holds {by} {ws} {t} (takes {p} {tm} {s} {cs} g h) =
    message_holds by ws t p tm s cs g (kept_holds h) (record_check t.words (entry_of tm p s)) (outcome_of (plan_at by ws p tm s)) refl refl

-- ---- A TRACE THAT IS SOUND IS ACCEPTED
pub sounds_accepted : {r : Reader} {bs : List (List ℕ)} → Sounds r bs → accepts_all r bs ≡ true
unfolding accepts_all
sounds_accepted end = refl
sounds_accepted (next l v h) = λ i. is_sound (v i) && sounds_accepted h i

-- blocks of 512 octets
abbrev pub AllWhole : List (List ℕ) → Type 0
AllWhole [] = Unit {0}
AllWhole (b ∷ bs) = (length b ≡ block_octets) × AllWhole bs

pub sounds_whole : {r : Reader} {bs : List (List ℕ)} → Sounds r bs → AllWhole bs
sounds_whole end = tt
sounds_whole (next l v h) = (l, sounds_whole h)

-- one behind the other, they are cut where they were joined
pub blocks_of : (bs : List (List ℕ)) → AllWhole bs → blocks_in (flatten bs) ≡ bs
unfolding flatten
blocks_of [] w = blocks_end [] refl
blocks_of (b ∷ bs) w =
    let n = length-append b (flatten bs) in
    blocks_more (b ++ flatten bs) b (flatten bs) 512 refl (refl, omega (arith, n, w.0), omega (arith, n, w.0))
    ∙ ap (λ (cs : List (List ℕ)). b ∷ cs) (blocks_of bs w.1)

-- all records are those of each block, one after another
entries_each : (bs : List (List ℕ)) → entries_of_all bs ≡ flatten (map entries_of bs)
unfolding entries_of_all flatten
entries_each [] = refl
entries_each (b ∷ bs) = ap (λ (es : List Entry). entries_of b ++ es) (entries_each bs)

module _ (opened : List ℕ) (n : ℕ) (es : List Entry) (fits : All EntryFits es) (m : n ≤ 4294967296) where
  abbrev blocks : List (List ℕ)
  blocks = numbered n (cut (kept_of (fresh_tape opened n) es))

  -- its blocks are the ones that recording made
  recorded_blocks : blocks_in (trace_of (taped_all (fresh_tape opened n) es)) ≡ blocks
  recorded_blocks = ap blocks_in (trace_is opened n es) ∙ blocks_of blocks (sounds_whole (trace_sound opened n es fits m))

  -- WHAT RECORDING GAVE, REPLAY ACCEPTS, ..
  pub recorded_accepted : is_trace (trace_of (taped_all (fresh_tape opened n) es)) ≡ true
  recorded_accepted = ap (accepts_all fresh_reader) recorded_blocks ∙ sounds_accepted (trace_sound opened n es fits m)

  -- .. and it reads the records that were kept
  pub recorded_entries : entries_of_all (blocks_in (trace_of (taped_all (fresh_tape opened n) es))) ≡ kept_of (fresh_tape opened n) es
  recorded_entries = ap entries_of_all recorded_blocks ∙ entries_each blocks ∙ records_back opened n es fits

-- ---- WHAT WAS RECORDED IS LIVE
-- a clock that began without records, with its intervals set; a history; and beside it a fresh recording that refused no message that the clock accepted
module _ (by : Settings) (ws : List ℕ) (cs : List Call) (opened : List ℕ) (begun : cleared ws ≡ ws) (keeps : KeepsTaken by ws (fresh_tape opened 0) cs)
    (fits : All EntryFits (messages_of cs)) where
  live_accepted : is_trace (trace_beside opened cs) ≡ true
  live_accepted = recorded_accepted opened 0 (messages_of cs) fits (omega arith)

  live_holds : Holds by ws cs (entries_of_all (blocks_in (trace_beside opened cs)))
  live_holds = subst (Holds by ws cs) (sym (recorded_entries opened 0 (messages_of cs) fits (omega arith))) (kept_holds keeps)

  -- REPLAYED, the trace gives the words of the live clock on any clock with these intervals, ..
  pub recorded_is_live_on : (vs : List ℕ) → cleared vs ≡ ws → words_after_replay by vs (trace_beside opened cs) ≡ run ws cs
  recorded_is_live_on = replay_is_live_on by ws cs (trace_beside opened cs) begun live_accepted live_holds

  -- .. and on the live clock itself, as it is at last
  pub recorded_is_live : length ws ≡ all_words → words_after_replay by (run ws cs) (trace_beside opened cs) ≡ run ws cs
  recorded_is_live = replay_is_live by ws cs (trace_beside opened cs) begun live_accepted live_holds
