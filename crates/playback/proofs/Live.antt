-- A REPLAY IS LIVE: a trace that holds a history gives the words that the history left, and so its records, candidates and decisions, however its
-- blocks were split (02, (iv)). What is refused changes nothing.
use Rattle.std.specs.Prelude.{Result, Ok, Err}
use Prim.Native.Nat.{ℕ, ◌<◌}
use mathlib.Core.Path.{◌≡◌, refl, sym, ap, ◌∙◌}
use mathlib.Core.List.{List}
use mathlib.Core.Bool.{Bool, true, false, not}
use native.Mathlib.Omega.{arith}
use lib.ListN.{length}
use Rattle.refusal.specs.Choice.{pick, refuse}
use Rattle.refusal.specs.Refusal.{code_of}
use Rattle.refusal.specs.declared.Refusal.{Refusal}
use Rattle.refusal.specs.declared.Refusal.TheVariants.{Block}
use Rattle.senders.specs.Port.{outcome_of}
use Rattle.block.specs.Layout.{Entry}
use Rattle.ports.specs.declared.intake.Settings.{Settings}
use Rattle.ports.specs.Intake.{plan_at, state_after}
use Rattle.ports.specs.Asking.{candidate_on, best_on, status_of}
use Rattle.ports.specs.History.{Call, run, fresh}
use Rattle.ports.proofs.Follows.{run_all}
use Rattle.playback.specs.Playback.{calls_of, reader_of, accepts, block_check, words_after_block, reader_after_block, blocks_in, entries_of_all, is_trace, cleared, replay_of, replayed_from, words_after_replay}
use Rattle.playback.specs.Live.{Holds, none, asked, recorded, left_out, SetsNone, SetsOnly}
use Rattle.playback.proofs.Cleared.{cleared_fresh, history_leaves, settings_begin, fresh_length}
use Rattle.senders.specs.declared.Record.{Record}

-- ---- a history and its records
-- what is refused leaves the words
refused_leaves : (ws : List ℕ) (p t : ℕ) (q : Result (ℕ × Record) Refusal) → 0 < code_of (outcome_of q) → state_after ws p t q ≡ ws
refused_leaves ws p t (Err x) h = refl
refused_leaves ws p t (Ok (i, r)) h = absurd (omega arith)

-- THE RECORDS, TAKEN ONE AFTER ANOTHER, GIVE THE WORDS OF THE HISTORY
pub holds_run : {by : Settings} {ws : List ℕ} {cs : List Call} {es : List Entry} → Holds by ws cs es → run ws cs ≡ run ws (calls_of by es)
holds_run none = refl
holds_run (asked h) = holds_run h
holds_run (recorded h) = holds_run h
holds_run {by} {ws} (left_out {p} {t} {s} {cs} refused h) = ap (λ (vs : List ℕ). run vs cs) (refused_leaves ws p t (plan_at by ws p t s) refused) ∙ holds_run h

-- such a history sets no interval
pub holds_sets_none : {by : Settings} {ws : List ℕ} {cs : List Call} {es : List Entry} → Holds by ws cs es → SetsNone cs
holds_sets_none none = tt
holds_sets_none (asked h) = holds_sets_none h
holds_sets_none (recorded h) = holds_sets_none h
holds_sets_none (left_out refused h) = holds_sets_none h

-- ---- a replay
-- a trace that has a last time is accepted
until_by : (b : Bool) (u t : ℕ) → refuse (not b) (Err Block) (Ok u) ≡ Ok t → b ≡ true
unfolding refuse
until_by true u t e = refl
until_by false u t e = absurd (let z : ◌≡◌ {A = ℕ} 0 1 = cc in omega arith)

pub until_accepted : (s : List ℕ) (t : ℕ) → replay_of s ≡ Ok t → is_trace s ≡ true
until_accepted s t e = until_by (is_trace s) _ t e

-- what an accepted trace leaves
pub accepted_words : (by : Settings) (ws s : List ℕ) → is_trace s ≡ true → words_after_replay by ws s ≡ replayed_from by ws s
accepted_words by ws s e = ap (λ (b : Bool). pick b (replayed_from by ws s) ws) e

-- of a clock that began without records, with its intervals set, a history that the trace holds
module _ (by : Settings) (ws : List ℕ) (cs : List Call) (s : List ℕ) (begun : cleared ws ≡ ws) (trace : is_trace s ≡ true)
    (holds : Holds by ws cs (entries_of_all (blocks_in s))) where
  -- A REPLAY GIVES THE WORDS OF THE LIVE CLOCK, on any clock with these intervals, ..
  pub replay_is_live_on : (vs : List ℕ) → cleared vs ≡ ws → words_after_replay by vs s ≡ run ws cs
  replay_is_live_on vs e =
      accepted_words by vs s trace ∙ ap (λ (us : List ℕ). run us (calls_of by (entries_of_all (blocks_in s)))) e ∙ sym (holds_run holds)

  module _ (n : length ws ≡ 1764) where
    -- .. and on the live clock itself, as it is at last
    pub replay_is_live : words_after_replay by (run ws cs) s ≡ run ws cs
    replay_is_live = replay_is_live_on (run ws cs) (history_leaves ws cs n (holds_sets_none holds) ∙ begun)

  -- so every candidate is the one of the live clock, at every time, ..
  pub same_candidates : (vs : List ℕ) → cleared vs ≡ ws → (port slot t : ℕ) → candidate_on (words_after_replay by vs s) port slot t ≡ candidate_on (run ws cs) port slot t
  same_candidates vs e port slot t = ap (λ (us : List ℕ). candidate_on us port slot t) (replay_is_live_on vs e)

  -- .. and every best one, ..
  pub same_best : (vs : List ℕ) → cleared vs ≡ ws → (port t : ℕ) → best_on (words_after_replay by vs s) port t ≡ best_on (run ws cs) port t
  same_best vs e port t = ap (λ (us : List ℕ). best_on us port t) (replay_is_live_on vs e)

  -- .. and last accepted times and intervals, ..
  pub same_status : (vs : List ℕ) → cleared vs ≡ ws → (port : ℕ) → status_of (words_after_replay by vs s) port ≡ status_of (run ws cs) port
  same_status vs e port = ap (λ (us : List ℕ). status_of us port) (replay_is_live_on vs e)

  -- .. and whatever else is made of the words: records, rankings, decisions
  pub same_answers : {A : Type 0} (f : List ℕ → A) (vs : List ℕ) → cleared vs ≡ ws → f (words_after_replay by vs s) ≡ f (run ws cs)
  same_answers f vs e = ap f (replay_is_live_on vs e)

-- OF A FRESH CLOCK whose intervals were set before the first message
pub replay_from_fresh : (by : Settings) (ss cs : List Call) (s : List ℕ) → SetsOnly ss → is_trace s ≡ true → Holds by (run fresh ss) cs (entries_of_all (blocks_in s))
    → words_after_replay by (run (run fresh ss) cs) s ≡ run (run fresh ss) cs
replay_from_fresh by ss cs s k trace holds =
    replay_is_live by (run fresh ss) cs s (settings_begin fresh ss fresh_length cleared_fresh k) trace holds (run_all fresh ss fresh_length)

-- HOWEVER THE BLOCKS WERE SPLIT: accepted traces that hold the same records leave the same words
pub split_no_matter : (by : Settings) (ws r s : List ℕ) → is_trace r ≡ true → is_trace s ≡ true → entries_of_all (blocks_in r) ≡ entries_of_all (blocks_in s)
    → words_after_replay by ws r ≡ words_after_replay by ws s
split_no_matter by ws r s a b e =
    accepted_words by ws r a ∙ ap (λ (es : List Entry). run (cleared ws) (calls_of by es)) e ∙ sym (accepted_words by ws s b)

-- ---- WHAT IS REFUSED CHANGES NOTHING
module _ (by : Settings) (ws s : List ℕ) where
  trace_by_lem : (x : Refusal) (b : Bool) (t : ℕ) (us : List ℕ) → refuse (not b) (Err Block) (Ok t) ≡ Err x → pick b us ws ≡ ws
  unfolding refuse
  trace_by_lem x true t us e = absurd (let z : ◌≡◌ {A = ℕ} 0 1 = cc in omega arith)
  trace_by_lem x false t us e = refl

  pub refused_trace : (x : Refusal) → replay_of s ≡ Err x → words_after_replay by ws s ≡ ws
  refused_trace x e = trace_by_lem x (is_trace s) _ (replayed_from by ws s) e

  module _ (rs : List ℕ) where
    block_by : (x : Refusal) (b : Bool) (us qs : List ℕ) → refuse {A = Result (Unit {0}) Refusal} (not b) (Err Block) (Ok tt) ≡ Err x → (pick b us ws ≡ ws) × (pick b qs rs ≡ rs)
    unfolding refuse
    block_by x true us qs e = absurd (let z : ◌≡◌ {A = ℕ} 0 1 = cc in omega arith)
    block_by x false us qs e = (refl, refl)

    pub refused_block : (x : Refusal) → block_check (reader_of rs) s ≡ Err x → (words_after_block by (reader_of rs) ws s ≡ ws) × (reader_after_block rs s ≡ rs)
    refused_block x e = block_by x (accepts (reader_of rs) s) _ _ e
