-- A port's words follow from its own calls: a call writes the words of its own port alone, and what it writes there is decided
-- by them. So a port's state and answers are those of its own calls, whatever happens on the others.
use Rattle.std.specs.Prelude.{Result, Ok, Err}
use mathlib.Core.Path.{◌≡◌, refl, sym, ap, subst, ◌∙◌}
use mathlib.Core.Bool.{Bool, true, false, not, ◌&&◌}
use mathlib.Core.List.{List, [], ◌∷◌, ◌++◌}
use mathlib.Core.Logic.{⊎_elim}
use Prim.Native.Nat.{ℕ, ◌+◌, ◌-◌, ◌*◌, ◌/◌, ◌%◌, ◌≤◌, ◌<◌}
use native.Mathlib.Omega.{arith}
use lib.Dec.{eqb}
use lib.IntN.{ℤ}
use lib.ListN.{length, get_or, set, drop, length-set, length-take, length-drop}
use lib.Seq.{get_or-take, get_or-drop}
use borrow.Author.Tests.{eqb-true, eqb-false, le-leb}
use Rattle.refusal.specs.Choice.{pick, refuse}
use Rattle.refusal.specs.declared.Refusal.{Refusal}
use Rattle.refusal.specs.declared.Refusal.TheVariants.{Port, Field}
use Rattle.rank.specs.Ranked.{is_port}
use Rattle.senders.specs.Port.{outcome_of}
use Rattle.slots.specs.Words.{port_of, words_after}
use Rattle.slots.proofs.Laws.{length_splice, block_same, block_before, block_after}
use Rattle.slots.proofs.Meaning.{ne_split, after_length}
use Rattle.ports.specs.declared.intake.Settings.{Settings}
use Rattle.ports.specs.Words.{own, with, port_at}
use Rattle.ports.specs.Intake.{admitted_of, plan_by, plan_at, state_after}
use Rattle.ports.specs.Interval.{is_interval, exponent_of, interval_set, interval_after}
use Rattle.ports.specs.Asking.{candidate_on, best_on, status_of, looked_at}
use Rattle.ports.specs.History.{Call, taking, setting, asking, port_of_call, after, run, own_calls, own_after, run_own}
use Rattle.ports.proofs.Laws.{port_bounds, with_own, state_of_lem}
use Rattle.senders.specs.declared.Notice.{Notice}
use Rattle.senders.specs.declared.Record.{Record}

-- ---- a refusal leaves every word
pub refusal_leaves : (ws : List ℕ) (port t : ℕ) (q : Result (ℕ × Record) Refusal) (x : Refusal) → outcome_of q ≡ Err x → state_after ws port t q ≡ ws
refusal_leaves ws port t (Err y) x e = refl
refusal_leaves ws port t (Ok (i, r)) x e = absurd (let z : ◌≡◌ {A = ℕ} 0 1 = cc in omega arith)

set_leaves_by : (ws : List ℕ) (port e : ℕ) (x : Refusal) (a b : Bool)
    → refuse {A = Result (Unit {0}) Refusal} (not a) (Err Port) (refuse (not b) (Err Field) (Ok tt)) ≡ Err x
    → pick (a && b) (with ws port (set (own ws port) 1 e)) ws ≡ ws
unfolding refuse
set_leaves_by ws port e x true true h = absurd (let z : ◌≡◌ {A = ℕ} 0 1 = cc in omega arith)
set_leaves_by ws port e x true false h = refl
set_leaves_by ws port e x false b h = refl

pub set_refusal_leaves : (ws : List ℕ) (port : ℕ) (k : ℤ) (x : Refusal) → interval_set port k ≡ Err x → interval_after ws port k ≡ ws
set_refusal_leaves ws port k x e = set_leaves_by ws port (exponent_of k) x (is_port port) (is_interval k) e

-- ---- a part of the words
-- a word stands in the words of its port, which is one of the eighteen
pub word_of : (ws : List ℕ) (i : ℕ) → get_or ws i 0 ≡ get_or (own ws (i / 98 + 1)) (i % 98) 0
word_of ws i =
    let b = 98 * (i / 98 + 1 - 1) in
    let e : i ≡ b + i % 98 = omega arith in
    ap (λ (j : ℕ). get_or ws j 0) e ∙ sym (get_or-take 98 (drop b ws) (i % 98) 0 (omega arith) ∙ get_or-drop b ws (i % 98) 0)

pub port_of_word : (i : ℕ) → i < 1764 → is_port (i / 98 + 1) ≡ true
port_of_word i h = let q = i / 98 + 1 in rw (le-leb 1 q (omega arith), le-leb q 18 (omega arith)) refl

module _ (ws : List ℕ) (n : length ws ≡ 1764) (port : ℕ) (ip : is_port port ≡ true) where
  room : 98 * (port - 1) + 98 ≤ length ws
  room = let b = port_bounds port ip in omega arith

  pub own_length : length (own ws port) ≡ 98
  own_length =
      let b = port_bounds port ip in
      simp (length-take, length-drop) (omega arith)

  module _ (vs : List ℕ) (lv : length vs ≡ 98) where
    with_length_lem : length (with ws port vs) ≡ 1764
    with_length_lem = length_splice ws vs (98 * (port - 1)) 98 lv room ∙ n

    own_with : own (with ws port vs) port ≡ vs
    own_with = block_same ws vs (98 * (port - 1)) 98 lv room

    own_beside : (q : ℕ) → is_port q ≡ true → (q ≡ port → ⊥) → own (with ws port vs) q ≡ own ws q
    own_beside q iq other =
        let b = port_bounds port ip in
        let d = port_bounds q iq in
        ⊎_elim
        (λ (lt : q < port). block_before ws vs (98 * (port - 1)) 98 lv room (98 * (q - 1)) 98 (omega arith))
        (λ (gt : port < q). block_after ws vs (98 * (port - 1)) 98 lv room (98 * (q - 1)) 98 (omega arith))
        (ne_split q port other)

-- ---- a call, on its own words
by_length : (l : List ℕ) (t : ℕ) (x : Result Notice Refusal) → length l ≡ 98 → length (words_after l t (plan_by (port_of l) t x)) ≡ 98
by_length l t (Err x) n = n
by_length l t (Ok a) n = after_length l t a n

set_length : (l : List ℕ) (e : ℕ) (b : Bool) → length l ≡ 98 → length (pick b (set l 1 e) l) ≡ 98
set_length l e true n = length-set l 1 e ∙ n
set_length l e false n = n

pub own_after_length : (l : List ℕ) (c : Call) → length l ≡ 98 → length (own_after l c) ≡ 98
own_after_length l (taking set port t s) n = by_length l t (admitted_of set port s) n
own_after_length l (setting port k) n = set_length l (exponent_of k) (is_interval k) n
own_after_length l (asking port) n = n

interval_with : (ws : List ℕ) (port e : ℕ) (b : Bool) → pick b (with ws port (set (own ws port) 1 e)) ws ≡ with ws port (pick b (set (own ws port) 1 e) (own ws port))
interval_with ws port e true = refl
interval_with ws port e false = sym (with_own ws port)

-- on one of the eighteen, a call puts the port's words anew
after_is : (ws : List ℕ) (c : Call) → is_port (port_of_call c) ≡ true → after ws c ≡ with ws (port_of_call c) (own_after (own ws (port_of_call c)) c)
unfolding plan_at
after_is ws (taking set port t s) h = sym (state_of_lem ws port t (plan_by (port_at ws port) t (admitted_of set port s)))
after_is ws (setting port k) h = rw h (interval_with ws port (exponent_of k) (is_interval k))
after_is ws (asking port) h = sym (with_own ws port)

-- elsewhere it changes nothing
pub after_none : (ws : List ℕ) (c : Call) → is_port (port_of_call c) ≡ false → after ws c ≡ ws
unfolding plan_at admitted_of refuse
after_none ws (taking set port t s) h = rw h
after_none ws (setting port k) h = rw h
after_none ws (asking port) h = refl

module _ (ws : List ℕ) (n : length ws ≡ 1764) (c : Call) where
  length_by : (b : Bool) → is_port (port_of_call c) ≡ b → length (after ws c) ≡ 1764
  length_by true h =
      let p = port_of_call c in
      ap length (after_is ws c h) ∙ with_length_lem ws n p h (own_after (own ws p) c) (own_after_length (own ws p) c (own_length ws n p h))
  length_by false h = ap length (after_none ws c h) ∙ n

  pub after_all : length (after ws c) ≡ 1764
  after_all = length_by (is_port (port_of_call c)) refl

  frame_by : (q : ℕ) → is_port q ≡ true → (q ≡ port_of_call c → ⊥) → (b : Bool) → is_port (port_of_call c) ≡ b → own (after ws c) q ≡ own ws q
  frame_by q iq other true h =
      let p = port_of_call c in
      ap (λ (l : List ℕ). own l q) (after_is ws c h)
      ∙ own_beside ws n p h (own_after (own ws p) c) (own_after_length (own ws p) c (own_length ws n p h)) q iq other
  frame_by q iq other false h = ap (λ (l : List ℕ). own l q) (after_none ws c h)

  -- THE WORDS OF EVERY OTHER PORT ARE UNCHANGED
  pub frame : (q : ℕ) → is_port q ≡ true → (q ≡ port_of_call c → ⊥) → own (after ws c) q ≡ own ws q
  frame q iq other = frame_by q iq other (is_port (port_of_call c)) refl

  its : is_port (port_of_call c) ≡ true → own (after ws c) (port_of_call c) ≡ own_after (own ws (port_of_call c)) c
  its h =
      let p = port_of_call c in
      ap (λ (l : List ℕ). own l p) (after_is ws c h)
      ∙ own_with ws n p h (own_after (own ws p) c) (own_after_length (own ws p) c (own_length ws n p h))

  -- THE WORDS OF ITS OWN PORT FOLLOW FROM THEM AND THE CALL
  pub own_after_lem : (q : ℕ) → is_port q ≡ true → port_of_call c ≡ q → own (after ws c) q ≡ own_after (own ws q) c
  own_after_lem q iq e =
      ap (own (after ws c)) (sym e) ∙ its (ap is_port e ∙ iq) ∙ ap (λ (p : ℕ). own_after (own ws p) c) e

  -- so what its own call brings about and any other call leaves holds after every call
  pub by_own : (P : List ℕ → Type 0) (q : ℕ) → is_port q ≡ true → (port_of_call c ≡ q → P (own_after (own ws q) c)) → P (own ws q) → P (own (after ws c) q)
  by_own P q iq brings before = go (eqb (port_of_call c) q) refl
    where
      go : (b : Bool) → eqb (port_of_call c) q ≡ b → P (own (after ws c) q)
      go true e = let f = eqb-true _ _ e in subst P (sym (own_after_lem q iq f)) (brings f)
      go false e = subst P (sym (frame q iq (λ f. eqb-false _ _ e (sym f)))) before

-- ---- histories
pub run_append : (ws : List ℕ) (cs ds : List Call) → run ws (cs ++ ds) ≡ run (run ws cs) ds
run_append ws [] ds = refl
run_append ws (c ∷ cs) ds = run_append (after ws c) cs ds

pub run_all : (ws : List ℕ) (cs : List Call) → length ws ≡ 1764 → length (run ws cs) ≡ 1764
run_all ws [] n = n
run_all ws (c ∷ cs) n = run_all (after ws c) cs (after_all ws n c)

module _ (q : ℕ) (iq : is_port q ≡ true) where
  step_by : (ws : List ℕ) (n : length ws ≡ 1764) (c : Call) (cs : List Call) (b : Bool) → eqb (port_of_call c) q ≡ b
      → run_own (own (after ws c) q) (own_calls q cs) ≡ run_own (own ws q) (pick b (c ∷ own_calls q cs) (own_calls q cs))
  step_by ws n c cs true e = ap (λ (l : List ℕ). run_own l (own_calls q cs)) (own_after_lem ws n c q iq (eqb-true _ _ e))
  step_by ws n c cs false e = ap (λ (l : List ℕ). run_own l (own_calls q cs)) (frame ws n c q iq (λ f. eqb-false _ _ e (sym f)))

  -- "All answers for a port follow from the settings and that port's own calls.": its words do
  pub follows : (ws : List ℕ) (cs : List Call) → length ws ≡ 1764 → own (run ws cs) q ≡ run_own (own ws q) (own_calls q cs)
  follows ws [] n = refl
  follows ws (c ∷ cs) n = follows (after ws c) cs (after_all ws n c) ∙ step_by ws n c cs (eqb (port_of_call c) q) refl

  module _ (ws vs : List ℕ) (n : length ws ≡ 1764) (m : length vs ≡ 1764) (cs ds : List Call) (same : own ws q ≡ own vs q) (calls : own_calls q cs ≡ own_calls q ds) where
    -- two clocks that agree on the port and on its calls agree on its words, and so on every answer for it
    pub same_words : own (run ws cs) q ≡ own (run vs ds) q
    same_words =
        follows ws cs n
        ∙ ap (λ (l : List ℕ). run_own l (own_calls q cs)) same
        ∙ ap (run_own (own vs q)) calls
        ∙ sym (follows vs ds m)

    pub same_take : (set : Settings) (t : ℕ) (s : List ℕ) → plan_at set (run ws cs) q t s ≡ plan_at set (run vs ds) q t s
    unfolding plan_at
    same_take set t s = ap (λ (l : List ℕ). plan_by (port_of l) t (admitted_of set q s)) same_words

    pub same_candidates : (slot t : ℕ) → candidate_on (run ws cs) q slot t ≡ candidate_on (run vs ds) q slot t
    same_candidates slot t = rw same_words

    pub same_best : (t : ℕ) → best_on (run ws cs) q t ≡ best_on (run vs ds) q t
    same_best t = rw same_words

    pub same_status : status_of (run ws cs) q ≡ status_of (run vs ds) q
    same_status = rw same_words

    pub same_look : (slot : ℕ) → looked_at (run ws cs) q slot ≡ looked_at (run vs ds) q slot
    same_look slot = rw same_words

  -- a flood on other ports leaves this one as it was
  pub untouched : (ws : List ℕ) (cs : List Call) → length ws ≡ 1764 → own_calls q cs ≡ [] → own (run ws cs) q ≡ own ws q
  untouched ws cs n none = follows ws cs n ∙ ap (run_own (own ws q)) none
