-- A BURST IS ITS MESSAGES TAKEN ONE AFTER ANOTHER, so what holds of histories holds across it: it may be split anywhere, nobody is pushed
-- out by it, a port's answers follow from the port's own messages, and messages of different ports may change places.
use Rattle.std.specs.Prelude.{Result, Ok, Err}
use mathlib.Core.Path.{◌≡◌, refl, sym, ap, subst, ◌∙◌}
use mathlib.Core.Bool.{Bool, true, false}
use mathlib.Core.List.{List, [], ◌∷◌, ◌++◌}
use Prim.Native.Nat.{ℕ, zero, suc, ◌+◌, ◌-◌, ◌/◌, ◌%◌, ◌≤◌, ◌<◌}
use native.Mathlib.Omega.{arith}
use lib.Dec.{eqb, ltb, leb}
use lib.ListN.{length, get_or, set, length-append}
use lib.Seq.{get_or-set_other, ext_get_or}
use borrow.Author.Tests.{eqb-true, eqb-false, ltb-true, ltb-false, lt-ltb, le-ltb}
use Rattle.refusal.specs.Limits.{port_count}
use Rattle.refusal.specs.Choice.{pick, refuse}
use Rattle.refusal.specs.Refusal.{code_of}
use Rattle.refusal.specs.declared.Refusal.TheVariants.{Many}
use Rattle.identity.specs.declared.PortIdentity.{PortIdentity}
use Rattle.rank.specs.Ranked.{is_port}
use Rattle.senders.specs.Port.{outcome_of}
use Rattle.senders.specs.History.{Receipt}
use Rattle.senders.proofs.Steady.{HasRecord}
use Rattle.words.specs.Words.{port_of}
use Rattle.ports.specs.declared.intake.Settings.{Settings}
use Rattle.ports.specs.Words.{own, port_at}
use Rattle.ports.specs.Intake.{admitted_of, plan_at, state_after}
use Rattle.ports.specs.When.{take_number}
use Rattle.ports.specs.History.{Call, port_of_call, after, run, own_calls, own_after, run_own, fresh, OctetCalls}
use Rattle.ports.specs.Staying.{IsPlaceOf, StaysLive}
use Rattle.ports.specs.Accepted.{accepted_on, SteadyOn}
use Rattle.bursts.specs.Burst.{port_in, time_in, octets_in, call_of, calls_of, answer_to, answered, is_many, burst_check, burst_words, burst_rows, BurstWhen, many, done, Step, one, burst, steps, calls_in, own_rows, own_number, own_answered, swap_at, port_word_at, AlikeIn}
use Rattle.ports.proofs.Follows.{word_of, port_of_word, after_none, after_all, frame, own_after_lem, run_append, follows, same_words}
use Rattle.ports.proofs.Ignored.{plan_same}
use Rattle.ports.proofs.Staying.{keeps_place}
use Rattle.ports.proofs.Accepted.{place_by_history}
use Rattle.senders.specs.declared.Record.{Record}
use Rattle.refusal.specs.declared.Refusal.{Refusal}

-- ---- refused exactly when
-- 17 WHERE IT HOLDS MORE THAN 288 MESSAGES, WHATEVER THEY ARE, ELSE 0: the number given has its line ..
pub burst_told : (ms : List (List ℕ)) → BurstWhen ms (code_of (burst_check ms))
unfolding refuse
burst_told ms = go (is_many ms) refl
  where
    go : (b : Bool) → is_many ms ≡ b → BurstWhen ms (code_of (refuse b (Err Many) (Ok tt)))
    go true e = many (ltb-true 288 (length ms) e)
    go false e = done (ltb-false 288 (length ms) e)

-- .. and a line that holds is the number given
pub when_burst : (ms : List (List ℕ)) (n : ℕ) → BurstWhen ms n → code_of (burst_check ms) ≡ n
unfolding refuse
when_burst ms n (many h) = rw (lt-ltb 288 (length ms) h) refl
when_burst ms n (done h) = rw (le-ltb 288 (length ms) h) refl

-- ---- split anywhere
fits : (ms : List (List ℕ)) (n : ℕ) → length ms ≤ n → n ≤ 288 → is_many ms ≡ false
fits ms n h k = le-ltb 288 (length ms) (omega arith)

module _ (by : Settings) (o : List ℕ) where
  words_append : (ws : List ℕ) (xs ys : List (List ℕ)) → run ws (calls_of by o (xs ++ ys)) ≡ run (run ws (calls_of by o xs)) (calls_of by o ys)
  words_append ws [] ys = refl
  words_append ws (x ∷ xs) ys = words_append (after ws (call_of by o x)) xs ys

  rows_append : (ws : List ℕ) (xs ys : List (List ℕ)) → answered by o ws (xs ++ ys) ≡ answered by o ws xs ++ answered by o (run ws (calls_of by o xs)) ys
  rows_append ws [] ys = refl
  rows_append ws (x ∷ xs) ys = ap (λ (r : List (List ℕ)). set x 4 (answer_to by o ws x) ∷ r) (rows_append (after ws (call_of by o x)) xs ys)

  module _ (ws : List ℕ) (xs ys : List (List ℕ)) (whole : is_many (xs ++ ys) ≡ false) where
    first_fits : is_many xs ≡ false
    first_fits = fits xs (length (xs ++ ys)) (omega (arith, length-append xs ys)) (ltb-false 288 (length (xs ++ ys)) whole)

    second_fits : is_many ys ≡ false
    second_fits = fits ys (length (xs ++ ys)) (omega (arith, length-append xs ys)) (ltb-false 288 (length (xs ++ ys)) whole)

    -- A BURST SPLIT IN TWO GIVES THE SAME STATE ..
    pub split_words : burst_words by o ws (xs ++ ys) ≡ burst_words by o (burst_words by o ws xs) ys
    split_words = rw (whole, first_fits, second_fits) (words_append ws xs ys)

    -- .. AND THE SAME ANSWERS
    pub split_rows : burst_rows by o ws (xs ++ ys) ≡ burst_rows by o ws xs ++ burst_rows by o (burst_words by o ws xs) ys
    split_rows = rw (whole, first_fits, second_fits) (rows_append ws xs ys)

-- ---- a history
step_is : (ws : List ℕ) (cs ds : List Call) (b : Bool) → run (pick b ws (run ws cs)) ds ≡ run ws (pick b [] cs ++ ds)
step_is ws cs ds true = refl
step_is ws cs ds false = sym (run_append ws cs ds)

-- CALLS WITH BURSTS AMONG THEM ARE A HISTORY
pub as_history : (ws : List ℕ) (es : List Step) → steps ws es ≡ run ws (calls_in es)
as_history ws [] = refl
as_history ws (one c ∷ es) = as_history (after ws c) es
as_history ws (burst by o ms ∷ es) = as_history (burst_words by o ws ms) es ∙ step_is ws (calls_of by o ms) (calls_in es) (is_many ms)

module _ (q : ℕ) (iq : is_port q ≡ true) (es : List Step) where
  -- a port's words follow from that port's own messages and calls
  pub words_follow : (ws : List ℕ) → length ws ≡ 1764 → own (steps ws es) q ≡ run_own (own ws q) (own_calls q (calls_in es))
  words_follow ws n = ap (λ (l : List ℕ). own l q) (as_history ws es) ∙ follows q iq ws (calls_in es) n

  -- NOBODY IS PUSHED OUT: a sender that stays live keeps its place ..
  pub place_kept : (ws : List ℕ) (i : ℕ) (x : PortIdentity) → length ws ≡ 1764 → OctetCalls (calls_in es) → StaysLive ws q i (calls_in es) → IsPlaceOf ws q i x
      → IsPlaceOf (steps ws es) q i x
  place_kept ws i x n octets lives its =
      subst (λ (l : List ℕ). IsPlaceOf l q i x) (sym (as_history ws es)) (keeps_place q i iq x ws (calls_in es) n octets lives its)

  -- .. and whose latest accepted Announce lies within W of the port's last accepted time has its record
  pub place_by_bursts : OctetCalls (calls_in es) → (w : ℕ) → SteadyOn q (calls_in es) w
      → (x : PortIdentity) (n : Receipt) (l : List Receipt) → accepted_on q (calls_in es) x ≡ n ∷ l → (port_at (steps fresh es) q).last - n.at ≤ w
      → HasRecord x (port_at (steps fresh es) q)
  place_by_bursts octets w steady x n l e =
      subst (λ (ws : List ℕ). (port_at ws q).last - n.at ≤ w → HasRecord x (port_at ws q)) (sym (as_history fresh es)) (place_by_history q iq (calls_in es) octets w steady x n l e)

-- ---- "All answers for a port follow from the settings and that port's own calls."
same_port : (m : List ℕ) (a : ℕ) → port_in (set m 4 a) ≡ port_in m
same_port m a = ap port_of (get_or-set_other m 4 0 a 0 (λ e. absurd (omega arith)))

module _ (by : Settings) (o : List ℕ) (q : ℕ) (iq : is_port q ≡ true) where
  own_number_lem : (ws m : List ℕ) → port_in m ≡ q → answer_to by o ws m ≡ own_number by o q (own ws q) m
  unfolding plan_at
  own_number_lem ws m e = ap (λ (p : ℕ). take_number by ws p (time_in m) (octets_in o m)) e

  row_on : (ws : List ℕ) → length ws ≡ 1764 → (m : List ℕ) (ms rest : List (List ℕ)) → rest ≡ own_answered by o q (own (after ws (call_of by o m)) q) (own_rows q ms)
      → (b : Bool) → eqb (port_in m) q ≡ b
      → pick b (set m 4 (answer_to by o ws m) ∷ rest) rest ≡ own_answered by o q (own ws q) (pick b (m ∷ own_rows q ms) (own_rows q ms))
  row_on ws n m ms rest behind true e =
      let f = eqb-true _ _ e in
      ap (λ (r : List (List ℕ)). set m 4 (answer_to by o ws m) ∷ r)
      (behind ∙ ap (λ (l : List ℕ). own_answered by o q l (own_rows q ms)) (own_after_lem ws n (call_of by o m) q iq f))
      ∙ ap (λ (a : ℕ). set m 4 a ∷ own_answered by o q (own_after (own ws q) (call_of by o m)) (own_rows q ms)) (own_number_lem ws m f)
  row_on ws n m ms rest behind false e =
      behind ∙ ap (λ (l : List ℕ). own_answered by o q l (own_rows q ms)) (frame ws n (call_of by o m) q iq (λ f. eqb-false _ _ e (sym f)))

  own_rows_lem : (ws : List ℕ) → length ws ≡ 1764 → (ms : List (List ℕ)) → own_rows q (answered by o ws ms) ≡ own_answered by o q (own ws q) (own_rows q ms)
  own_rows_lem ws n [] = refl
  own_rows_lem ws n (m ∷ ms) =
      let rest = own_rows q (answered by o (after ws (call_of by o m)) ms) in
      ap (λ (p : ℕ). pick (eqb p q) (set m 4 (answer_to by o ws m) ∷ rest) rest) (same_port m (answer_to by o ws m))
      ∙ row_on ws n m ms rest (own_rows_lem (after ws (call_of by o m)) (after_all ws n (call_of by o m)) ms) (eqb (port_in m) q) refl

  -- TWO CLOCKS THAT AGREE ON A PORT, AND TWO BURSTS THAT AGREE ON ITS MESSAGES, GIVE THESE THE SAME ANSWERS, whatever arrives on other ports
  pub answers_follow : (ws vs : List ℕ) → length ws ≡ 1764 → length vs ≡ 1764 → (xs ys : List (List ℕ)) → own ws q ≡ own vs q → own_rows q xs ≡ own_rows q ys
      → own_rows q (answered by o ws xs) ≡ own_rows q (answered by o vs ys)
  answers_follow ws vs n k xs ys same rows =
      own_rows_lem ws n xs
      ∙ ap (λ (l : List ℕ). own_answered by o q l (own_rows q xs)) same
      ∙ ap (own_answered by o q (own vs q)) rows
      ∙ sym (own_rows_lem vs k ys)

-- ---- messages of different ports change places
-- words that agree on every port are the same
same_by_ports : (ws vs : List ℕ) → length ws ≡ 1764 → length vs ≡ 1764 → ((q : ℕ) → is_port q ≡ true → own ws q ≡ own vs q) → ws ≡ vs
same_by_ports ws vs n k same = ext_get_or 0 ws vs (n ∙ sym k) (λ i h. spot i (omega arith))
  where
    spot : (i : ℕ) → i < 1764 → get_or ws i 0 ≡ get_or vs i 0
    spot i h = word_of ws i ∙ ap (λ (l : List ℕ). get_or l (i % 98) 0) (same (i / 98 + 1) (port_of_word i h)) ∙ sym (word_of vs i)

calls_swap : (q : ℕ) (c d : Call) → (port_of_call c ≡ port_of_call d → ⊥) → (a b : Bool) → eqb (port_of_call c) q ≡ a → eqb (port_of_call d) q ≡ b
    → pick a (c ∷ pick b (d ∷ []) []) (pick b (d ∷ []) []) ≡ pick b (d ∷ pick a (c ∷ []) []) (pick a (c ∷ []) [])
calls_swap q c d other true true e f = absurd (other (eqb-true _ _ e ∙ sym (eqb-true _ _ f)))
calls_swap q c d other true false e f = refl
calls_swap q c d other false true e f = refl
calls_swap q c d other false false e f = refl

-- two calls on different ports
calls_commute : (ws : List ℕ) → length ws ≡ 1764 → (c d : Call) → (port_of_call c ≡ port_of_call d → ⊥) → after (after ws c) d ≡ after (after ws d) c
calls_commute ws n c d other =
    same_by_ports (after (after ws c) d) (after (after ws d) c) (after_all (after ws c) (after_all ws n c) d) (after_all (after ws d) (after_all ws n d) c)
    (λ q iq. same_words q iq ws ws n n (c ∷ d ∷ []) (d ∷ c ∷ []) refl (calls_swap q c d other (eqb (port_of_call c) q) (eqb (port_of_call d) q) refl refl))

-- two different words that name one port name none
no_port : (w v : ℕ) → (w ≡ v → ⊥) → port_of w ≡ port_of v → is_port (port_of w) ≡ false
no_port w v other = go (leb w port_count) (leb v port_count)
  where
    go : (a b : Bool) → pick a w 0 ≡ pick b v 0 → is_port (pick a w 0) ≡ false
    go true true e = absurd (other e)
    go true false e = ap is_port e
    go false b e = refl

module _ (by : Settings) (o : List ℕ) where
  -- what is no port is answered alike by any words
  number_none : (ws vs m : List ℕ) → is_port (port_in m) ≡ false → answer_to by o ws m ≡ answer_to by o vs m
  unfolding plan_at admitted_of refuse
  number_none ws vs m h = rw h

  module _ (ws : List ℕ) (n : length ws ≡ 1764) (a b : List ℕ) (other : get_or a 0 0 ≡ get_or b 0 0 → ⊥) where
    apart : port_in a ≡ port_in b → is_port (port_in a) ≡ false
    apart = no_port (get_or a 0 0) (get_or b 0 0) other

    both : (x : Bool) → eqb (port_in a) (port_in b) ≡ x → after (after ws (call_of by o a)) (call_of by o b) ≡ after (after ws (call_of by o b)) (call_of by o a)
    both true e =
        let same = eqb-true _ _ e in
        let na = apart same in
        let nb : is_port (port_in b) ≡ false = ap is_port (sym same) ∙ na in
        after_none (after ws (call_of by o a)) (call_of by o b) nb
        ∙ after_none ws (call_of by o a) na
        ∙ sym (after_none (after ws (call_of by o b)) (call_of by o a) na ∙ after_none ws (call_of by o b) nb)
    both false e = calls_commute ws n (call_of by o a) (call_of by o b) (eqb-false _ _ e)

    pair_words_lem : after (after ws (call_of by o a)) (call_of by o b) ≡ after (after ws (call_of by o b)) (call_of by o a)
    pair_words_lem = both (eqb (port_in a) (port_in b)) refl

    beside : (x : Bool) → is_port (port_in b) ≡ x → (y : Bool) → eqb (port_in a) (port_in b) ≡ y → answer_to by o (after ws (call_of by o a)) b ≡ answer_to by o ws b
    unfolding plan_at
    beside false h y e = number_none (after ws (call_of by o a)) ws b h
    beside true h true e =
        let same : port_in a ≡ port_in b = eqb-true (port_in a) (port_in b) e in
        let k : ◌≡◌ {A = ℕ} 1 0 = ap (λ (t : Bool). pick t 1 0) (sym h ∙ ap is_port (sym same) ∙ apart same) in
        absurd (omega arith)
    beside true h false e =
        ap (λ (l : List ℕ). own_number by o (port_in b) l b) (frame ws n (call_of by o a) (port_in b) h (λ f. eqb-false _ _ e (sym f)))

    -- the second is answered as if the first had not been there
    pair_answer : answer_to by o (after ws (call_of by o a)) b ≡ answer_to by o ws b
    pair_answer = beside (is_port (port_in b)) refl (eqb (port_in a) (port_in b)) refl

  swap_words : (i : ℕ) (ws : List ℕ) → length ws ≡ 1764 → (ms : List (List ℕ)) → (port_word_at i ms ≡ port_word_at (suc i) ms → ⊥)
      → run ws (calls_of by o (swap_at i ms)) ≡ run ws (calls_of by o ms)
  swap_words i ws n [] other = refl
  swap_words zero ws n (a ∷ []) other = refl
  swap_words zero ws n (a ∷ b ∷ ms) other = ap (λ (l : List ℕ). run l (calls_of by o ms)) (sym (pair_words_lem ws n a b other))
  swap_words (suc i) ws n (a ∷ ms) other = swap_words i (after ws (call_of by o a)) (after_all ws n (call_of by o a)) ms other

  swap_rows : (i : ℕ) (ws : List ℕ) → length ws ≡ 1764 → (ms : List (List ℕ)) → (port_word_at i ms ≡ port_word_at (suc i) ms → ⊥)
      → answered by o ws (swap_at i ms) ≡ swap_at i (answered by o ws ms)
  swap_rows i ws n [] other = refl
  swap_rows zero ws n (a ∷ []) other = refl
  swap_rows zero ws n (a ∷ b ∷ ms) other =
      let its = sym (pair_answer ws n a b other) in
      let first = pair_answer ws n b a (λ e. other (sym e)) in
      let words = sym (pair_words_lem ws n a b other) in
      λ j. set b 4 (its j) ∷ set a 4 (first j) ∷ answered by o (words j) ms
  swap_rows (suc i) ws n (a ∷ ms) other =
      ap (λ (r : List (List ℕ)). set a 4 (answer_to by o ws a) ∷ r) (swap_rows i (after ws (call_of by o a)) (after_all ws n (call_of by o a)) ms other)

  swap_length : (i : ℕ) (ms : List (List ℕ)) → length (swap_at i ms) ≡ length ms
  swap_length i [] = refl
  swap_length zero (a ∷ []) = refl
  swap_length zero (a ∷ b ∷ ms) = refl
  swap_length (suc i) (a ∷ ms) = ap suc (swap_length i ms)

  module _ (ws : List ℕ) (n : length ws ≡ 1764) (ms : List (List ℕ)) (i : ℕ) (other : port_word_at i ms ≡ port_word_at (suc i) ms → ⊥) where
    words_by_lem : (b : Bool) → pick b ws (run ws (calls_of by o (swap_at i ms))) ≡ pick b ws (run ws (calls_of by o ms))
    words_by_lem true = refl
    words_by_lem false = swap_words i ws n ms other

    rows_by : (b : Bool) → pick b (swap_at i ms) (answered by o ws (swap_at i ms)) ≡ swap_at i (pick b ms (answered by o ws ms))
    rows_by true = refl
    rows_by false = swap_rows i ws n ms other

    -- TWO MESSAGES OF DIFFERENT PORTS THAT STAND NEXT TO EACH OTHER MAY CHANGE PLACES: the state is the same, ..
    pub swapped_words : burst_words by o ws (swap_at i ms) ≡ burst_words by o ws ms
    swapped_words = ap (λ (k : ℕ). pick (ltb 288 k) ws (run ws (calls_of by o (swap_at i ms)))) (swap_length i ms) ∙ words_by_lem (is_many ms)

    -- .. and each has the answer that it had
    pub swapped_rows : burst_rows by o ws (swap_at i ms) ≡ swap_at i (burst_rows by o ws ms)
    swapped_rows = ap (λ (k : ℕ). pick (ltb 288 k) (swap_at i ms) (answered by o ws (swap_at i ms))) (swap_length i ms) ∙ rows_by (is_many ms)

-- ---- ignored means ignored
module _ (by : Settings) (o p : List ℕ) where
  alike_both : (ws : List ℕ) (ms : List (List ℕ)) → AlikeIn o p ms → (run ws (calls_of by o ms) ≡ run ws (calls_of by p ms)) × (answered by o ws ms ≡ answered by p ws ms)
  alike_both ws [] l = (refl, refl)
  alike_both ws (m ∷ ms) l =
      let plan = plan_same by (port_in m) (octets_in o m) (octets_in p m) l.0 ws (time_in m) in
      let words = ap (state_after ws (port_in m) (time_in m)) plan in
      let behind = alike_both (after ws (call_of by o m)) ms l.1 in (
        behind.0 ∙ ap (λ (vs : List ℕ). run vs (calls_of by p ms)) words,
        ap (λ (r : List (List ℕ)). set m 4 (answer_to by o ws m) ∷ r) (behind.1 ∙ ap (λ (vs : List ℕ). answered by p vs ms) words)
            ∙ ap (λ (q : Result (ℕ × Record) Refusal). set m 4 (code_of (outcome_of q)) ∷ answered by p (after ws (call_of by p m)) ms) plan,
      )

  -- messages that differ only in reserved fields, controlField and padding leave the same words and have the same answers
  pub burst_same : (ws : List ℕ) (ms : List (List ℕ)) → AlikeIn o p ms → (burst_words by o ws ms ≡ burst_words by p ws ms) × (burst_rows by o ws ms ≡ burst_rows by p ws ms)
  burst_same ws ms l =
      let b = alike_both ws ms l in
      (ap (pick (is_many ms) ws) b.0, ap (pick (is_many ms) ms) b.1)
