-- A burst on its way: the octets of a message as they were lent, and the messages taken one after another.
use Rattle.std.specs.Prelude.{Result}
use mathlib.Core.Path.{◌≡◌, refl, sym, ap, subst, ◌∙◌}
use mathlib.Core.List.{List, [], ◌∷◌, ◌++◌, append-nil}
use Prim.Native.Nat.{ℕ, zero, suc, ◌+◌, ◌-◌, ◌≤◌, ◌<◌, min}
use native.Mathlib.Nat.{zero-min, suc-min-suc, add-sub_cancel_left}
use native.Mathlib.Omega.{arith}
use lib.ListN.{length, get_or, set, take, drop, length-drop, length-set, drop_of_length-le}
use lib.Seq.{take-nil, drop-nil, take_all, drop-cons, drop-set-lt, take-suc-set, append_snoc}
use Rattle.refusal.specs.Refusal.{code_of}
use Rattle.senders.specs.Port.{outcome_of}
use Rattle.slots.specs.Words.{block}
use Rattle.ports.specs.declared.intake.Settings.{Settings}
use Rattle.ports.specs.Intake.{plan_at, state_after}
use Rattle.ports.specs.When.{take_number}
use Rattle.ports.specs.History.{after, run}
use Rattle.bursts.specs.Burst.{port_in, time_in, octets_in, call_of, calls_of, answer_to, answered}
use Rattle.senders.specs.declared.Record.{Record}
use Rattle.refusal.specs.declared.Refusal.{Refusal}

-- ---- the octets that are there
drop_most : (n : ℕ) (l : List ℕ) → drop (min n (length l)) l ≡ drop n l
drop_most zero l = ap (λ (k : ℕ). drop k l) (zero-min (length l))
drop_most (suc n) [] = drop-nil (min (suc n) 0)
drop_most (suc n) (x ∷ xs) = ap (λ (k : ℕ). drop k (x ∷ xs)) (suc-min-suc n (length xs)) ∙ drop_most n xs

take_most : (n : ℕ) (l : List ℕ) → take (min n (length l)) l ≡ take n l
take_most zero l = ap (λ (k : ℕ). take k l) (zero-min (length l))
take_most (suc n) [] = take-nil (min (suc n) 0)
take_most (suc n) (x ∷ xs) = ap (λ (k : ℕ). take k (x ∷ xs)) (suc-min-suc n (length xs)) ∙ ap (λ (l : List ℕ). x ∷ l) (take_most n xs)

-- a part that is cut where the octets end is the one that is named
pub lent_part : (o : List ℕ) (begin count b c : ℕ) → b ≡ min begin (length o) → c ≡ min count (length o - b) → take (b + c - b) (drop b o) ≡ block o begin count
lent_part o begin count b c eb ec =
    ap (λ (k : ℕ). take k (drop b o)) (add-sub_cancel_left b c ∙ ec ∙ ap (min count) (sym (length-drop b o)))
    ∙ take_most count (drop b o)
    ∙ ap (take count) (ap (λ (k : ℕ). drop k o) eb ∙ drop_most begin o)

-- ---- i messages taken: those behind them give what all give
pub record Underway (by : Settings) (o ws₀ : List ℕ) (ms₀ : List (List ℕ)) (ws : List ℕ) (ms : List (List ℕ)) (i : ℕ) : Type 0 where
  pub inside : i ≤ length ms
  pub same_count : length ms ≡ length ms₀
  pub words : run ws (calls_of by o (drop i ms)) ≡ run ws₀ (calls_of by o ms₀)
  pub rows : take i ms ++ answered by o ws (drop i ms) ≡ answered by o ws₀ ms₀

pub none_taken : (by : Settings) (o ws : List ℕ) (ms : List (List ℕ)) → Underway by o ws ms ws ms 0
none_taken by o ws ms = record { inside = omega arith; same_count = refl; words = refl; rows = refl }

-- a message that was taken with its own octets
pub taken_as : (by : Settings) (o ws m s ws' : List ℕ) (a : ℕ) → s ≡ octets_in o m
    → (a ≡ take_number by ws (port_in m) (time_in m) s) × (ws' ≡ state_after ws (port_in m) (time_in m) (plan_at by ws (port_in m) (time_in m) s))
    → (ws' ≡ after ws (call_of by o m)) × (a ≡ answer_to by o ws m)
taken_as by o ws m s ws' a e took =
    let plan = ap (plan_at by ws (port_in m) (time_in m)) e in
    (took.1 ∙ ap (state_after ws (port_in m) (time_in m)) plan, took.0 ∙ ap (λ (q : Result (ℕ × Record) Refusal). code_of (outcome_of q)) plan)

module _ (by : Settings) (o ws₀ : List ℕ) (ms₀ : List (List ℕ)) (ws : List ℕ) (ms : List (List ℕ)) (i : ℕ) (u : Underway by o ws₀ ms₀ ws ms i) where
  one : i < length ms
      → Underway by o ws₀ ms₀ (after ws (call_of by o (get_or ms i []))) (set ms i (set (get_or ms i []) 4 (answer_to by o ws (get_or ms i [])))) (suc i)
  one h =
      let m = get_or ms i [] in
      let m' = set m 4 (answer_to by o ws m) in
      let ws' = after ws (call_of by o m) in
      let behind : drop (suc i) (set ms i m') ≡ drop (suc i) ms = drop-set-lt (suc i) ms i m' (omega arith) in
      let cut : drop i ms ≡ m ∷ drop (suc i) ms = drop-cons ms i [] h in
      record {
        inside = omega (arith, length-set ms i m');
        same_count = length-set ms i m' ∙ u.same_count;
        words = ap (λ (r : List (List ℕ)). run ws' (calls_of by o r)) behind ∙ ap (λ (r : List (List ℕ)). run ws (calls_of by o r)) (sym cut) ∙ u.words;
        rows =
            ap (λ (r : List (List ℕ)). take (suc i) (set ms i m') ++ answered by o ws' r) behind
            ∙ ap (λ (r : List (List ℕ)). r ++ answered by o ws' (drop (suc i) ms)) (take-suc-set ms i m' h)
            ∙ append_snoc (take i ms) m' (answered by o ws' (drop (suc i) ms))
            ∙ ap (λ (r : List (List ℕ)). take i ms ++ answered by o ws r) (sym cut)
            ∙ u.rows;
      }

  -- one more, with the words that its call leaves and the answer that it gives
  pub one_taken : (ws' : List ℕ) (a : ℕ) → i < length ms → (ws' ≡ after ws (call_of by o (get_or ms i []))) × (a ≡ answer_to by o ws (get_or ms i []))
      → Underway by o ws₀ ms₀ ws' (set ms i (set (get_or ms i []) 4 a)) (i + 1)
  one_taken ws' a h e =
      let next : suc i ≡ i + 1 = omega arith in
      subst (λ (vs : List ℕ). Underway by o ws₀ ms₀ vs (set ms i (set (get_or ms i []) 4 a)) (i + 1)) (sym e.0)
      (subst (λ (b : ℕ). Underway by o ws₀ ms₀ (after ws (call_of by o (get_or ms i []))) (set ms i (set (get_or ms i []) 4 b)) (i + 1)) (sym e.1)
      (subst (Underway by o ws₀ ms₀ (after ws (call_of by o (get_or ms i []))) (set ms i (set (get_or ms i []) 4 (answer_to by o ws (get_or ms i []))))) next (one h)))

  pub all_taken : length ms ≤ i → (ws ≡ run ws₀ (calls_of by o ms₀)) × (ms ≡ answered by o ws₀ ms₀)
  all_taken h =
      let none : drop i ms ≡ [] = drop_of_length-le ms h in (
        ap (λ (r : List (List ℕ)). run ws (calls_of by o r)) (sym none) ∙ u.words,
        sym (append-nil ms)
            ∙ ap (λ (r : List (List ℕ)). r ++ []) (sym (take_all i ms h))
            ∙ ap (λ (r : List (List ℕ)). take i ms ++ answered by o ws r) (sym none)
            ∙ u.rows,
      )
