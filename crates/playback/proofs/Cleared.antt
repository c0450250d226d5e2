-- Words that are cleared: they hold no record and no time, and the intervals of before, which no history changes that sets none.
use Rattle.std.specs.Prelude.{Result, Ok, Err}
use Prim.Native.Nat.{ℕ, zero, suc, ◌+◌, ◌-◌, ◌*◌, ◌/◌, ◌%◌, ◌≤◌, ◌<◌}
use mathlib.Core.Path.{◌≡◌, refl, sym, ap, ◌∙◌}
use mathlib.Core.List.{List, [], ◌∷◌}
use mathlib.Core.Bool.{Bool, true, false}
use native.Mathlib.Omega.{arith}
use lib.Dec.{eqb}
use lib.IntN.{ℤ}
use lib.ListN.{length, get_or, set, drop, replicate, get_or-replicate}
use lib.Seq.{get_or-take, get_or-drop, get_or-set_same, get_or-set_other, ext_get_or}
use borrow.Author.Count.{below_more}
use borrow.Author.Tests.{eqb-true, eqb-false, ne_eqb}
use Rattle.laws.proofs.Bools.{cases}
use Rattle.refusal.specs.Choice.{pick}
use Rattle.refusal.proofs.Choice.{either}
use Rattle.refusal.proofs.Limits.{port_bounds}
use Rattle.rank.specs.Ranked.{is_port}
use Rattle.senders.specs.declared.Notice.{Notice}
use Rattle.senders.specs.Port.{tab, empty_slot, plan_of}
use Rattle.slots.specs.Words.{record_of, words_of, port_of, put_slot, words_after}
use Rattle.slots.proofs.Laws.{length_tab, get_d_tab, tab_ext, get_d_before}
use Rattle.slots.proofs.Places.{plan_place}
use Rattle.ports.specs.declared.intake.Settings.{Settings}
use Rattle.ports.specs.Words.{own, port_at}
use Rattle.ports.specs.Intake.{admitted_of, plan_by}
use Rattle.ports.specs.Interval.{is_interval, exponent_of}
use Rattle.ports.specs.History.{Call, taking, setting, asking, after, run, fresh}
use Rattle.ports.proofs.Follows.{word_of, port_of_word, own_length, after_all, by_own}
use Rattle.playback.specs.Playback.{cleared_word, cleared}
use Rattle.playback.specs.Live.{SetsNone, SetsOnly}
use Rattle.senders.specs.declared.Record.{Record}
use Rattle.refusal.specs.declared.Refusal.{Refusal}

pub cleared_length : (ws : List ℕ) → length (cleared ws) ≡ 1764
unfolding cleared
cleared_length ws = length_tab 1764 (cleared_word ws)

pub cleared_at : (ws : List ℕ) (i : ℕ) → i < 1764 → get_or (cleared ws) i 0 ≡ cleared_word ws i
unfolding cleared
cleared_at ws i h = get_d_tab 1764 (cleared_word ws) i 0 h

-- words that agree on the intervals are cleared alike
same_intervals : (ws vs : List ℕ) → ((i : ℕ) → i < 1764 → i % 98 ≡ 1 → get_or ws i 0 ≡ get_or vs i 0) → cleared ws ≡ cleared vs
unfolding cleared
same_intervals ws vs same =
    tab_ext 1764 (cleared_word ws) (cleared_word vs)
    (λ i h. cases (eqb (i % 98) 1) (λ e. ap (λ (v : ℕ). pick (eqb (i % 98) 1) v 0) (same i h (eqb-true _ _ e))) (λ e. rw e))

-- WHAT IS CLEARED STAYS SO, and a fresh clock is
pub cleared_twice : (ws : List ℕ) → cleared (cleared ws) ≡ cleared ws
cleared_twice ws = same_intervals (cleared ws) ws (λ i h e. rw (cleared_at ws i h, e))

pub cleared_fresh : cleared fresh ≡ fresh
unfolding cleared
cleared_fresh =
    tab_ext 1764 (cleared_word fresh) (λ i. 0)
    (λ i h. ap (λ (v : ℕ). pick (eqb (i % 98) 1) v 0) (get_d_tab 1764 (λ i. 0) i 0 h) ∙ either (eqb (i % 98) 1) 0)

-- ---- a history that sets no interval leaves them
kept_by : (l : List ℕ) (t : ℕ) (a : Notice) → length l ≡ 98 → (q : Result (ℕ × Record) Refusal) → plan_of (port_of l) t a ≡ q → get_or (words_after l t q) 1 0 ≡ get_or l 1 0
unfolding words_of
kept_by l t a n (Err x) e = refl
kept_by l t a n (Ok (i, r)) e =
    let h : i < 16 = plan_place l t a i r e in
    get_or-set_other (put_slot l i r) 0 1 t 0 (λ z. omega arith) ∙ get_d_before l (words_of r) (2 + 6 * i) 6 refl (omega arith) 1 (omega arith)

own_kept : (l : List ℕ) (t : ℕ) (x : Result Notice Refusal) → length l ≡ 98 → get_or (words_after l t (plan_by (port_of l) t x)) 1 0 ≡ get_or l 1 0
own_kept l t (Err x) n = refl
own_kept l t (Ok a) n = kept_by l t a n (plan_of (port_of l) t a) refl

module _ (ws : List ℕ) (n : length ws ≡ 1764) (by : Settings) (p t : ℕ) (s : List ℕ) where
  exponent_kept : (q : ℕ) → is_port q ≡ true → get_or (own (after ws (taking by p t s)) q) 1 0 ≡ get_or (own ws q) 1 0
  exponent_kept q iq =
      by_own ws n (taking by p t s) (λ (l : List ℕ). get_or l 1 0 ≡ get_or (own ws q) 1 0) q iq
      (λ e. own_kept (own ws q) t (admitted_of by p s) (own_length ws n q iq))
      refl

  taking_leaves : cleared (after ws (taking by p t s)) ≡ cleared ws
  taking_leaves =
      same_intervals (after ws (taking by p t s)) ws
      (λ i h e.
      let ws' = after ws (taking by p t s) in
      let q = i / 98 + 1 in
      word_of ws' i
      ∙ ap (λ (k : ℕ). get_or (own ws' q) k 0) e
      ∙ exponent_kept q (port_of_word i h)
      ∙ sym (word_of ws i ∙ ap (λ (k : ℕ). get_or (own ws q) k 0) e))

-- A HISTORY OF TAKINGS AND QUESTIONS LEAVES THE INTERVALS
pub history_leaves : (ws : List ℕ) (cs : List Call) → length ws ≡ 1764 → SetsNone cs → cleared (run ws cs) ≡ cleared ws
history_leaves ws [] n k = refl
history_leaves ws (taking by p t s ∷ cs) n k =
    history_leaves (after ws (taking by p t s)) cs (after_all ws n (taking by p t s)) k ∙ taking_leaves ws n by p t s
history_leaves ws (setting p e ∷ cs) n k = absurd k
history_leaves ws (asking p ∷ cs) n k = history_leaves ws cs n k

-- ---- what cleared words mean
module _ (ws : List ℕ) (q : ℕ) (iq : is_port q ≡ true) where
  own_at : (k : ℕ) → k < 98 → get_or (own (cleared ws) q) k 0 ≡ pick (eqb k 1) (get_or (own ws q) k 0) 0
  own_at k h =
      let b = 98 * (q - 1) in
      let r = port_bounds q iq in
      let m : (b + k) % 98 ≡ k = omega arith in
      get_or-take 98 (drop b (cleared ws)) k 0 h
      ∙ get_or-drop b (cleared ws) k 0
      ∙ cleared_at ws (b + k) (omega arith)
      ∙ ap (λ (j : ℕ). pick (eqb j 1) (get_or ws (b + k) 0) 0) m
      ∙ ap (λ (v : ℕ). pick (eqb k 1) v 0) (sym (get_or-take 98 (drop b ws) k 0 h ∙ get_or-drop b ws k 0))

  own_word : (k : ℕ) → k < 98 → get_or (own (cleared ws) q) k 0 ≡ get_or (0 ∷ get_or (own ws q) 1 0 ∷ replicate 96 0) k 0
  own_word zero h = own_at 0 h
  own_word (suc zero) h = own_at 1 h
  own_word (suc (suc k)) h =
      own_at (suc (suc k)) h
      ∙ ap (λ (b : Bool). pick b (get_or (own ws q) (suc (suc k)) 0) 0) (ne_eqb (suc (suc k)) 1 (λ e. omega arith))
      ∙ sym (get_or-replicate 96 k 0 0 (omega arith))

  pub cleared_own : own (cleared ws) q ≡ 0 ∷ get_or (own ws q) 1 0 ∷ replicate 96 0
  cleared_own =
      let n = own_length (cleared ws) (cleared_length ws) q iq in
      ext_get_or 0 (own (cleared ws) q) (0 ∷ get_or (own ws q) 1 0 ∷ replicate 96 0) n (λ k h. own_word k (omega arith))

  -- A PORT OF CLEARED WORDS ACCEPTED NOTHING YET, HAS ITS INTERVAL, AND ITS SIXTEEN SLOTS ARE EMPTY
  pub cleared_port : port_at (cleared ws) q ≡ record { last = 0; e = (port_at ws q).e; slots = replicate 16 empty_slot }
  unfolding record_of tab
  cleared_port = ap port_of cleared_own

-- ---- a clock that has its intervals and nothing else
-- every other word of a port's is zero
abbrev Blank : List ℕ → Type 0
Blank l = (k : ℕ) → k < 98 → (k ≡ 1 → ⊥) → get_or l k 0 ≡ 0

module _ (ws : List ℕ) (n : length ws ≡ 1764) where
  cleared_blank : cleared ws ≡ ws → (q : ℕ) → is_port q ≡ true → Blank (own ws q)
  cleared_blank e q iq k h other =
      ap (λ (vs : List ℕ). get_or (own vs q) k 0) (sym e)
      ∙ own_at ws q iq k h
      ∙ ap (λ (b : Bool). pick b (get_or (own ws q) k 0) 0) (ne_eqb k 1 other)

  blank_cleared : ((q : ℕ) → is_port q ≡ true → Blank (own ws q)) → cleared ws ≡ ws
  blank_cleared blank =
      ext_get_or 0 (cleared ws) ws (cleared_length ws ∙ sym n)
      (λ i l.
      let h : i < 1764 = omega (arith, cleared_length ws) in
      cleared_at ws i h
      ∙ cases (eqb (i % 98) 1)
      (λ e. rw e)
      (λ e. rw e (sym (word_of ws i ∙ blank (i / 98 + 1) (port_of_word i h) (i % 98) (omega arith) (eqb-false _ _ e)))))

set_blank : (l : List ℕ) (e : ℕ) (b : Bool) → Blank l → Blank (pick b (set l 1 e) l)
set_blank l e true blank k h other = get_or-set_other l 1 k e 0 other ∙ blank k h other
set_blank l e false blank k h other = blank k h other

setting_keeps : (ws : List ℕ) (p : ℕ) (k : ℤ) → length ws ≡ 1764 → cleared ws ≡ ws → cleared (after ws (setting p k)) ≡ after ws (setting p k)
setting_keeps ws p k n e =
    let c = setting p k in
    blank_cleared (after ws c) (after_all ws n c)
    (λ q iq.
    let blank = cleared_blank ws n e q iq in
    by_own ws n c Blank q iq (λ f. set_blank (own ws q) (exponent_of k) (is_interval k) blank) blank)

-- SETTING INTERVALS ALONE LEAVES IT SO
pub settings_begin : (ws : List ℕ) (cs : List Call) → length ws ≡ 1764 → cleared ws ≡ ws → SetsOnly cs → cleared (run ws cs) ≡ run ws cs
settings_begin ws [] n e k = e
settings_begin ws (taking by p t s ∷ cs) n e k = absurd k
settings_begin ws (setting p j ∷ cs) n e k =
    settings_begin (after ws (setting p j)) cs (after_all ws n (setting p j)) (setting_keeps ws p j n e) k
settings_begin ws (asking p ∷ cs) n e k = settings_begin ws cs n e k

pub fresh_length : length fresh ≡ 1764
fresh_length = length_tab 1764 (λ i. 0)

-- ---- words on their way
-- the first i words are cleared, and the others as they were
pub record Clearing (ws₀ ws : List ℕ) (i : ℕ) : Type 0 where
  pub done : (k : ℕ) → k < i → get_or ws k 0 ≡ cleared_word ws₀ k
  pub left : (k : ℕ) → i ≤ k → get_or ws k 0 ≡ get_or ws₀ k 0

pub clearing_none : (ws : List ℕ) → Clearing ws ws 0
clearing_none ws = record { done = λ k h. absurd (omega arith); left = λ k h. refl }

module _ (ws₀ ws : List ℕ) (i : ℕ) (u : Clearing ws₀ ws i) where
  -- one more: an interval, which stays, ..
  pub clearing_interval : i % 98 ≡ 1 → Clearing ws₀ ws (i + 1)
  clearing_interval e =
      record {
        done = below_more _ i u.done (u.left i (omega arith) ∙ sym (rw e));
        left = λ k h. u.left k (omega arith);
      }

  -- .. or another word
  pub clearing_zero : i < length ws → (i % 98 ≡ 1 → ⊥) → Clearing ws₀ (set ws i 0) (i + 1)
  clearing_zero h other =
      record {
        done =
            below_more _ i
            (λ k l. get_or-set_other ws i k 0 0 (λ e. omega arith) ∙ u.done k l)
            (get_or-set_same ws i 0 0 h ∙ sym (rw (ne_eqb _ _ other)));
        left = λ k l. get_or-set_other ws i k 0 0 (λ e. omega arith) ∙ u.left k (omega arith);
      }

  pub clearing_all : length ws ≡ 1764 → 1764 ≤ i → ws ≡ cleared ws₀
  clearing_all n h =
      ext_get_or 0 ws (cleared ws₀) (n ∙ sym (cleared_length ws₀)) (λ k l. u.done k (omega arith) ∙ sym (cleared_at ws₀ k (omega arith)))
