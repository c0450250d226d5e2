-- How `sink` goes down the slots: what is done, then what is left to do; and the used slots one after the other.
use Prim.Native.Nat.{ℕ, suc, ◌+◌, ◌≤◌, ◌<◌, min}
use mathlib.Core.Path.{◌≡◌, sym, ap, ◌∙◌}
use mathlib.Core.List.{List, [], ◌∷◌, ◌++◌}
use mathlib.Core.Bool.{true, false}
use native.Mathlib.Omega.{arith}
use native.Mathlib.Numerals.{add-one}
use lib.Dec.{eqb, leb}
use borrow.Author.Tests.{leb-true, leb-false}
use lib.ListN.{length, take, drop, set, get_or, length-append, length-set, length-take, take-append-drop, drop_of_length-le}
use lib.Seq.{take-suc-set, take_all, take-append-le, take-set-lt, take-take, drop-set-lt, drop-drop, drop-cons, append_snoc, get_or-take, set_split, length-take-le}
use Rattle.refusal.specs.Choice.{pick}
use Rattle.rank.specs.declared.Candidate.{Candidate}
use Rattle.rank.specs.declared.Ranked.{Ranked}
use Rattle.rank.specs.Order.{earlier_of}
use Rattle.rank.specs.Best.{sink}
use Rattle.rank.specs.Ranked.{receiver_of, laid, unpack, sink_of}
use Rattle.rank.proofs.Best.{cases}

-- at a place with y on it: which of the two stays, and which goes on
abbrev pub stays : Candidate → Candidate → Candidate
stays x y = pick (earlier_of x y) x y

abbrev pub goes : Candidate → Candidate → Candidate
goes x y = pick (earlier_of x y) y x

sink_at : (p : ℕ) (x y : Candidate) (ys : List Candidate)
    → sink earlier_of receiver_of p x (y ∷ ys)
    ≡ stays x y ∷ pick (eqb y.port p) ys (sink earlier_of receiver_of p (goes x y) ys)
sink_at p x y ys = cases (earlier_of x y) (λ e. simp e) (λ e. simp e)

-- the invariant: i of the n used slots are gone through, x goes on, and whole is what comes of it
pub record Down (p n : ℕ) (whole first slots : List Candidate) (x : Candidate) (i : ℕ) : Type 0 where
  pub inside : i ≤ n
  pub four : n ≤ 4
  pub size : length slots ≡ 4
  pub past : drop n slots ≡ drop n first
  pub rest : take i slots ++ sink earlier_of receiver_of p x (drop i (take n slots)) ≡ whole

-- the list W in the first slots, as `laid` has it
packed : (n : ℕ) (l first slots : List Candidate) → length l ≡ n → n ≤ 4 → slots ≡ l ++ drop n first
    → ◌≡◌ {A = Ranked} (record { len = n; slots = slots }) (laid (take 4 l) first)
packed n l first slots e h q =
    let t : take 4 l ≡ l = take_all 4 l (omega arith) in
    rw (t, e) (λ i. record { len = n; slots = q i })

module _ (p n : ℕ) (whole first slots : List Candidate) (x : Candidate) (i : ℕ) (inv : Down p n whole first slots x i) where
  module _ (d : Candidate) (h : i < n) where
    abbrev y : Candidate
    y = get_or slots i d

    abbrev next : List Candidate
    next = set slots i (stays x y)

    here_in : i < length (take n slots)
    here_in = omega (arith, length-take n slots, inv.size, inv.four)

    later : drop (suc i) (take n next) ≡ drop (suc i) (take n slots)
    later = rw (take-set-lt n slots i (stays x y)) (drop-set-lt (suc i) (take n slots) i (stays x y) (omega arith))

    whole_at : take (suc i) next ++ pick (eqb y.port p) (drop (suc i) (take n next)) (sink earlier_of receiver_of p (goes x y) (drop (suc i) (take n next))) ≡ whole
    whole_at =
        let dl : drop i (take n slots) ≡ y ∷ drop (suc i) (take n slots) =
        drop-cons (take n slots) i d here_in ∙ ap (λ (z : Candidate). z ∷ drop (suc i) (take n slots)) (get_or-take n slots i d h) in
        let l = drop (suc i) (take n slots) in
        let tail = pick (eqb y.port p) l (sink earlier_of receiver_of p (goes x y) l) in
        rw later
        (ap (λ (k : List Candidate). k ++ tail) (take-suc-set slots i (stays x y) (omega (arith, inv.size, inv.four)))
        ∙ append_snoc (take i slots) (stays x y) tail
        ∙ ap (λ (k : List Candidate). take i slots ++ k) (sym (sink_at p x y l) ∙ ap (sink earlier_of receiver_of p x) (sym dl))
        ∙ inv.rest)

    past_at : drop n next ≡ drop n first
    past_at = drop-set-lt n slots i (stays x y) h ∙ inv.past

    size_at_lem : length next ≡ 4
    size_at_lem = length-set slots i (stays x y) ∙ inv.size

    -- a place of another port: one goes on
    pub down_on : (eqb y.port p ≡ false) → Down p n whole first next (goes x y) (i + 1)
    down_on e =
        record {
          inside = omega arith;
          four = inv.four;
          size = size_at_lem;
          past = past_at;
          rest = rw (add-one i) (simp e at whole_at);
        }

    -- the place of the candidate's own port: the later one is left out
    pub down_spent : (eqb y.port p ≡ true) → ◌≡◌ {A = Ranked} (record { len = n; slots = next }) (laid (take 4 whole) first)
    down_spent e =
        let s : take (suc i) next ++ drop (suc i) (take n next) ≡ whole = simp e at whole_at in
        let w : take n next ≡ whole =
        sym (take-append-drop (suc i) (take n next))
        ∙ ap (λ (l : List Candidate). l ++ drop (suc i) (take n next)) (take-take (suc i) n next (omega arith))
        ∙ s in
        packed n whole first next (ap length (sym w) ∙ length-take-le n next (omega (arith, size_at_lem, inv.four))) inv.four
        (sym (take-append-drop n next) ∙ ap (λ (l : List Candidate). l ++ drop n next) w ∙ ap (λ (l : List Candidate). whole ++ l) past_at)

  -- past the used slots: what is kept, and the one that still goes on
  module _ (h : n ≤ i) where
    ended : take n slots ++ (x ∷ []) ≡ whole
    ended =
        let e : i ≡ n = omega (arith, inv.inside) in
        let z : drop n (take n slots) ≡ [] = drop_of_length-le (take n slots) {i = n} (omega (arith, length-take n slots)) in
        rw (e, z) at inv.rest

    kept : length (take n slots) ≡ n
    kept = length-take-le n slots (omega (arith, inv.size, inv.four))

    pub down_dropped : 4 ≤ n → ◌≡◌ {A = Ranked} (record { len = n; slots = slots }) (laid (take 4 whole) first)
    down_dropped m =
        rw (← ended, take-append-le 4 (take n slots) (x ∷ []) (omega (arith, kept)))
        (packed n (take n slots) first slots kept inv.four
        (sym (take-append-drop n slots) ∙ ap (λ (l : List Candidate). take n slots ++ l) inv.past))

    pub down_grown : n < 4 → ◌≡◌ {A = Ranked} (record { len = n + 1; slots = set slots n x }) (laid (take 4 whole) first)
    down_grown m =
        let past1 : drop (suc n) slots ≡ drop (n + 1) first =
        rw (← add-one n) (sym (drop-drop 1 n slots) ∙ ap (drop 1) inv.past ∙ drop-drop 1 n first) in
        packed (n + 1) whole first (set slots n x)
        (ap length (sym ended) ∙ length-append (take n slots) (x ∷ []) ∙ ap (λ (l : ℕ). l + 1) kept)
        (omega arith)
        (set_split slots n x (omega (arith, inv.size)) ∙ rw past1 (sym (append_snoc (take n slots) x (drop (n + 1) first))) ∙ ap (λ (l : List Candidate). l ++ drop (n + 1) first) ended)

-- a length past the slots
pub take_min : (k : ℕ) (l : List Candidate) → length l ≡ 4 → take (min k 4) l ≡ take k l
take_min k l e =
    cases (leb k 4)
    (λ t. let h = leb-true k 4 t in let m : min k 4 ≡ k = omega arith in rw m)
    (λ t. let h = leb-false k 4 t in take_all (min k 4) l (omega arith) ∙ sym (take_all k l (omega arith)))

pub to_spec : (r : Ranked) (c : Candidate) (n : ℕ) → length r.slots ≡ 4 → n ≡ min r.len 4
    → laid (take 4 (sink earlier_of receiver_of c.port c (take n r.slots))) r.slots ≡ sink_of r c
to_spec r c n e h = rw (h, take_min r.len r.slots e)

-- the used slots from i on: one and the rest, or none
pub here : (r : Ranked) (i : ℕ) (d : Candidate) → length r.slots ≡ 4 → i < min r.len 4
    → drop i (unpack r) ≡ get_or r.slots i d ∷ drop (i + 1) (unpack r)
here r i d e h =
    rw (add-one i)
    (drop-cons (unpack r) i d (omega (arith, length-take r.len r.slots))
    ∙ ap (λ (z : Candidate). z ∷ drop (suc i) (unpack r)) (get_or-take r.len r.slots i d (omega arith)))

pub none : (r : Ranked) (i : ℕ) → length r.slots ≡ 4 → min r.len 4 ≤ i → drop i (unpack r) ≡ []
none r i e h = drop_of_length-le (unpack r) {i = i} (omega (arith, length-take r.len r.slots))
