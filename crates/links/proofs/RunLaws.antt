-- What holds of a port's link after any calls from zeroed words, on any ports: it is the link that the port's own events make of a fresh one, each
-- under the settings last set. So what is proved of such a link (link/proofs/RunLaws.antt) holds of the words.
use Rattle.std.specs.Prelude.{Ok, Err}
use Prim.Native.Nat.{ℕ, ◌+◌, ◌≤◌, ◌<◌}
use mathlib.Core.Path.{◌≡◌, refl, ap, sym, ◌∙◌}
use mathlib.Core.Bool.{Bool, true, false, not, ◌&&◌}
use mathlib.Core.Logic.{◌≢◌}
use mathlib.Core.List.{List, [], ◌∷◌}
use native.Mathlib.Omega.{arith}
use lib.Dec.{eqb, leb, ltb}
use lib.ListN.{length, get_or, set, replicate, length-set, get_or-replicate, length-replicate}
use lib.Seq.{get_or-set_same}
use borrow.Author.Tests.{eqb-true, eqb-false, leb-true, leb-false, lt-ltb}
use Rattle.refusal.specs.Choice.{pick, refuse}
use Rattle.refusal.specs.declared.Refusal.TheVariants.{Port, Field}
use Rattle.link.specs.declared.Settings.{Settings}
use Rattle.link.specs.States.{state_of}
use Rattle.link.specs.declared.Event.{Event}
use Rattle.link.specs.declared.Event.TheVariants.{Timeout}
use Rattle.link.specs.Machine.{is_idle, left, stepped}
use Rattle.link.specs.Heeded.{is_heeded}
use Rattle.link.specs.Run.{Happened, after, since_change, timeouts, Reported}
use Rattle.link.proofs.RunLaws.{retries_are_timeouts, retries_in_idle, three_at_most, fourth_timeout, mode_was_reported}
use Rattle.links.specs.Words.{word_of, link_of, settings_of, IsPort, base, link_at, settings_at, setting_answer, setting_words, step_at, take_answer, take_words}
use Rattle.links.specs.Run.{Call, setting, taking, words_after, unset, last_set, happened, AllTyped}
use Rattle.links.proofs.WordLaws.{port-range, zero_is_fresh, set_elsewhere, take_kept, set_kept, take_leaves_settings, set_leaves_link, take_leaves_others, set_leaves_others}
use Rattle.links.proofs.Left.{Packed, set_refused, take_refused, take_outside, take_leaves}

-- The words stay 72.

same_length : (b : Bool) (ws vs : List ℕ) → length vs ≡ length ws → length (refuse b ws vs) ≡ length ws
unfolding refuse
same_length true ws vs h = refl
same_length false ws vs h = h

pub take_length : (ws : List ℕ) (port : ℕ) (e : Event) → length (take_words ws port e) ≡ length ws
unfolding take_words
take_length ws port e = same_length (not (IsPort port)) ws (set ws (base port) (word_of (step_at ws port e).link)) (simp length-set)

pub set_length : (ws : List ℕ) (port : ℕ) (s : Settings) → length (setting_words ws port s) ≡ length ws
unfolding setting_words
set_length ws port s =
    same_length (not (IsPort port)) ws _ (same_length (ltb 3 s.config) ws _ (simp length-set))

pub words_length : (cs : List Call) → length (words_after cs) ≡ 72
unfolding words_after
words_length [] = length-replicate {A = ℕ} 72 0
words_length (setting port s ∷ older) = set_length (words_after older) port s ∙ words_length older
words_length (taking port e ∷ older) = take_length (words_after older) port e ∙ words_length older

-- A call on another port leaves this port's words, as does one on no port.

module _ (ws : List ℕ) (p q : ℕ) (own : IsPort q ≡ true) (apart : eqb p q ≡ false) where
  not_same : q ≢ p
  not_same e = eqb-false p q apart (sym e)

  take_apart : (e : Event) (j : ℕ) → j < 4 → (known : Bool) → IsPort p ≡ known → get_or (take_words ws p e) (base q + j) 0 ≡ get_or ws (base q + j) 0
  take_apart e j h true k = take_leaves_others p q (port-range p k).0 (port-range q own).0 not_same ws e j h
  take_apart e j h false k = ap (λ (vs : List ℕ). get_or vs (base q + j) 0) (take_refused ws p e Port (take_outside ws p e k))

  set_outside : (s : Settings) → IsPort p ≡ false → setting_answer p s ≡ Err Port
  unfolding setting_answer refuse
  set_outside s k = rw k

  set_apart : (s : Settings) (j : ℕ) → j < 4 → (known : Bool) → IsPort p ≡ known → get_or (setting_words ws p s) (base q + j) 0 ≡ get_or ws (base q + j) 0
  set_apart s j h true k = set_leaves_others p q (port-range p k).0 (port-range q own).0 not_same ws s j h
  set_apart s j h false k = ap (λ (vs : List ℕ). get_or vs (base q + j) 0) (set_refused ws p s Port (set_outside s k))

-- the four words of a port as link and settings
module _ (vs ws : List ℕ) (q : ℕ) (same : (j : ℕ) → j < 4 → get_or vs (base q + j) 0 ≡ get_or ws (base q + j) 0) where
  first : get_or vs (base q) 0 ≡ get_or ws (base q) 0
  first = let z : base q + 0 ≡ base q = omega arith in rw z at (same 0 (omega arith))

  same_link : link_at vs q ≡ link_at ws q
  same_link = ap link_of first

  same_settings : settings_at vs q ≡ settings_at ws q
  same_settings = rw (same 1 (omega arith), same 2 (omega arith), same 3 (omega arith))

-- A port's settings are those last set.

module _ (q : ℕ) (own : IsPort q ≡ true) where
  zero_settings : settings_of 0 0 0 ≡ unset
  unfolding settings_of
  zero_settings = refl

  zeroed : (k : ℕ) → k < 72 → get_or (replicate {A = ℕ} 72 0) k 0 ≡ 0
  zeroed k h = get_or-replicate {A = ℕ} 72 k 0 0 h

  in_range_lem : (j : ℕ) → j < 4 → base q + j < 72
  in_range_lem j h = let r = port-range q own in omega arith

  too_large : (ws : List ℕ) (s : Settings) → leb s.config 3 ≡ false → setting_words ws q s ≡ ws
  unfolding setting_answer refuse
  too_large ws s h = set_refused ws q s Field (rw (own, lt-ltb 3 s.config (leb-false s.config 3 h)))

  setting_by : (p : ℕ) (s : Settings) (ws : List ℕ) (older : Settings) → length ws ≡ 72 → s.retry < 256 → s.period < 4294967296 → settings_at ws q ≡ older →
      (same small : Bool) → eqb p q ≡ same → leb s.config 3 ≡ small →
      settings_at (setting_words ws p s) q ≡ pick (same && small) s older
  setting_by p s ws older full r t ih true true e c =
      rw (eqb-true p q e) (set_kept ws q full own s (leb-true s.config 3 c) r t)
  setting_by p s ws older full r t ih true false e c =
      rw (eqb-true p q e, too_large ws s c) ih
  setting_by p s ws older full r t ih false small e c =
      same_settings (setting_words ws p s) ws q (λ j h. set_apart ws p q own e s j h (IsPort p) refl) ∙ ih

  taking_by : (p : ℕ) (e : Event) (ws : List ℕ) (same : Bool) → eqb p q ≡ same → settings_at (take_words ws p e) q ≡ settings_at ws q
  taking_by p e ws true h = rw (eqb-true p q h) (take_leaves_settings ws q e)
  taking_by p e ws false h = same_settings (take_words ws p e) ws q (λ j k. take_apart ws p q own h e j k (IsPort p) refl)

  pub settings_follow : (cs : List Call) → AllTyped cs → settings_at (words_after cs) q ≡ last_set q cs
  unfolding words_after last_set AllTyped
  settings_follow [] t =
      rw (zeroed (base q + 1) (in_range_lem 1 (omega arith)), zeroed (base q + 2) (in_range_lem 2 (omega arith)), zeroed (base q + 3) (in_range_lem 3 (omega arith)))
      zero_settings
  settings_follow (setting p s ∷ older) t =
      setting_by p s (words_after older) (last_set q older) (words_length older) t.0.0 t.0.1 (settings_follow older t.1) (eqb p q) (leb s.config 3) refl refl
  settings_follow (taking p e ∷ older) t = taking_by p e (words_after older) (eqb p q) refl ∙ settings_follow older t.1

  -- A port's link is that of its own events.

  link_by : (p : ℕ) (e : Event) (ws : List ℕ) (under : Settings) (hs : List Happened) → length ws ≡ 72 → settings_at ws q ≡ under → link_at ws q ≡ after hs →
      (same : Bool) → eqb p q ≡ same → link_at (take_words ws p e) q ≡ after (pick same (record { under = under; event = e } ∷ hs) hs)
  unfolding after
  link_by p e ws under hs full u l true h =
      rw (eqb-true p q h) (take_kept ws q full own e ∙ (λ i. (stepped (u i) (l i) e).link))
  link_by p e ws under hs full u l false h =
      same_link (take_words ws p e) ws q (λ j k. take_apart ws p q own h e j k (IsPort p) refl) ∙ l

  set_by_lem : (p : ℕ) (s : Settings) (ws : List ℕ) (same : Bool) → eqb p q ≡ same → link_at (setting_words ws p s) q ≡ link_at ws q
  set_by_lem p s ws true h = rw (eqb-true p q h) (set_leaves_link ws q s)
  set_by_lem p s ws false h = same_link (setting_words ws p s) ws q (λ j k. set_apart ws p q own h s j k (IsPort p) refl)

  pub link_follows : (cs : List Call) → AllTyped cs → link_at (words_after cs) q ≡ after (happened q cs)
  unfolding words_after happened AllTyped after
  link_follows [] t =
      rw (zeroed (base q) (omega (arith, in_range_lem 0 (omega arith)))) zero_is_fresh
  link_follows (setting p s ∷ older) t = set_by_lem p s (words_after older) (eqb p q) refl ∙ link_follows older t.1
  link_follows (taking p e ∷ older) t =
      link_by p e (words_after older) (last_set q older) (happened q older) (words_length older) (settings_follow older t.1) (link_follows older t.1) (eqb p q) refl

  -- what an event answers is the step of that link
  pub answer_follows : (cs : List Call) (e : Event) → AllTyped cs → take_answer (words_after cs) q e ≡ Ok (stepped (last_set q cs) (after (happened q cs)) e)
  unfolding take_answer refuse
  answer_follows cs e t = rw own (λ i. Ok (stepped (settings_follow cs t i) (link_follows cs t i) e))

  -- Words that grew from zeros have no bits that no link has.

  zero_packed : word_of (link_of 0) ≡ 0
  unfolding word_of link_of state_of
  zero_packed = refl

  kept : (ws : List ℕ) (e : Event) → length ws ≡ 72 → get_or (take_words ws q e) (base q) 0 ≡ word_of (step_at ws q e).link
  unfolding take_words refuse
  kept ws e full = rw own (get_or-set_same ws (base q) (word_of (step_at ws q e).link) 0 (omega (arith, in_range_lem 0 (omega arith))))

  packed_by : (vs ws : List ℕ) → ((j : ℕ) → j < 4 → get_or vs (base q + j) 0 ≡ get_or ws (base q + j) 0) → Packed ws q → Packed vs q
  packed_by vs ws same p = ap word_of (same_link vs ws q same) ∙ p ∙ sym (first vs ws q same)

  set_packed : (p : ℕ) (s : Settings) (ws : List ℕ) → Packed ws q → (same : Bool) → eqb p q ≡ same → Packed (setting_words ws p s) q
  set_packed p s ws h true e =
      rw (eqb-true p q e) (ap word_of (set_leaves_link ws q s) ∙ h ∙ sym (set_elsewhere ws q s (base q) (λ z. omega arith) (λ z. omega arith) (λ z. omega arith)))
  set_packed p s ws h false e = packed_by (setting_words ws p s) ws (λ j k. set_apart ws p q own e s j k (IsPort p) refl) h

  take_packed : (p : ℕ) (e : Event) (ws : List ℕ) → length ws ≡ 72 → Packed ws q → (same : Bool) → eqb p q ≡ same → Packed (take_words ws p e) q
  take_packed p e ws full h true k = rw (eqb-true p q k) (ap word_of (take_kept ws q full own e) ∙ sym (kept ws e full))
  take_packed p e ws full h false k = packed_by (take_words ws p e) ws (λ j m. take_apart ws p q own k e j m (IsPort p) refl) h

  pub packed : (cs : List Call) → Packed (words_after cs) q
  unfolding words_after
  packed [] = let z = zeroed (base q) (omega (arith, in_range_lem 0 (omega arith))) in rw z zero_packed
  packed (setting p s ∷ older) = set_packed p s (words_after older) (packed older) (eqb p q) refl
  packed (taking p e ∷ older) = take_packed p e (words_after older) (words_length older) (packed older) (eqb p q) refl

  -- "ignored and changes nothing": not one of the 72 words
  pub ignored_leaves_words : (cs : List Call) (e : Event) → is_heeded (settings_at (words_after cs) q).config (link_at (words_after cs) q) e ≡ false →
      take_words (words_after cs) q e ≡ words_after cs
  ignored_leaves_words cs e h = take_leaves (words_after cs) q e h (packed cs)

  -- So the laws of a link's run hold of the words.

  module _ (cs : List Call) (t : AllTyped cs) where
    -- "a made-up retry count (tied to timeouts since the last change of state)"
    pub words_count_timeouts : is_idle (link_at (words_after cs) q).state ≡ false → (link_at (words_after cs) q).retries ≡ timeouts (since_change (happened q cs))
    words_count_timeouts i =
        let l = link_follows cs t in
        rw l (retries_are_timeouts (happened q cs) (rw l at i))

    pub words_count_none : is_idle (link_at (words_after cs) q).state ≡ true → (link_at (words_after cs) q).retries ≡ 0
    words_count_none i =
        let l = link_follows cs t in
        rw l (retries_in_idle (happened q cs) (rw l at i))

    pub words_three_at_most : (link_at (words_after cs) q).retries ≤ 3
    words_three_at_most = rw (link_follows cs t) (three_at_most (happened q cs))

    -- "the fourth goes to IDLE with mode off"
    pub words_fourth_timeout : is_idle (link_at (words_after cs) q).state ≡ false → timeouts (since_change (happened q cs)) ≡ 3 →
        step_at (words_after cs) q Timeout ≡ left (link_at (words_after cs) q).role
    words_fourth_timeout i n =
        let l = link_follows cs t in
        rw l (fourth_timeout (settings_at (words_after cs) q) (happened q cs) (rw l at i) n)

    pub words_mode_reported : (link_at (words_after cs) q).mode ≡ true → Reported (happened q cs) ≡ true
    words_mode_reported on = mode_was_reported (happened q cs) (rw (link_follows cs t) at on)
