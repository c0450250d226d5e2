-- The check of a block: by its other words there is exactly one, a block that is closed has it, and a change of one word goes unseen exactly
-- where 0 and 65,535 stand for one another in a word that is not the check.
use Prim.Native.Nat.{ℕ, zero, suc, ◌+◌, ◌-◌, ◌*◌, ◌%◌, ◌<◌, ◌≤◌}
use mathlib.Core.Path.{◌≡◌, ◌∙◌, refl, sym, ap}
use mathlib.Core.Logic.{◌↔◌}
use mathlib.Core.List.{List, append_assoc}
use mathlib.Core.Bool.{Bool, true, false, not}
use native.Mathlib.Omega.{arith}
use native.Mathlib.Nat.{add_assoc, add-zero, zero-add, suc-add}
use lib.ListN.{length, take, drop}
use lib.Dec.{eqb}
use lib.Seq.{take_at, drop_at, drop-drop, length-take-le}
use borrow.Author.Tests.{eqb-true, eqb-false, eq-eqb, ne_eqb, not-true}
use Rattle.laws.proofs.Bools.{both, cases}
use Rattle.octets.specs.Be.{be, octets_of}
use Rattle.octets.proofs.Laws.{Octets, be_bound, be_octets, be_drop, be_take}
use Rattle.block.specs.Layout.{block_octets, check_of}
use Rattle.block.specs.Check.{sum_from, sum_of, is_checked, check_for, word_at, with_word, Unseen, same, raised, lowered}
use Rattle.block.specs.Making.{sealed}

-- ---- sums of words: of one word more, of two runs, behind place k and before it
sum_suc : (n : ℕ) (s : List ℕ) (at : ℕ) → sum_from (suc n) s at ≡ be 2 s at + sum_from n s (at + 2)
unfolding sum_from
sum_suc n s at = refl

pub sum_split : (m n : ℕ) (s : List ℕ) (at : ℕ) → sum_from (m + n) s at ≡ sum_from m s at + sum_from n s (at + 2 * m)
unfolding sum_from
sum_split zero n s at = rw (zero-add n, add-zero, zero-add (sum_from n s at))
sum_split (suc m) n s at =
    let e : at + 2 * suc m ≡ at + 2 + 2 * m = omega arith in
    rw (suc-add, e, sum_split m n s (at + 2), ← add_assoc)

sum_drop : (n k : ℕ) (s : List ℕ) (at : ℕ) → sum_from n (drop k s) at ≡ sum_from n s (k + at)
unfolding sum_from
sum_drop zero k s at = refl
sum_drop (suc n) k s at = rw (be_drop, sum_drop n k s (at + 2), add_assoc)

sum_take : (n k : ℕ) (s : List ℕ) (at : ℕ) → at + 2 * n ≤ k → sum_from n (take k s) at ≡ sum_from n s at
unfolding sum_from
sum_take zero k s at h = refl
sum_take (suc n) k s at h = rw (be_take 2 k s at (omega arith), sum_take n k s (at + 2) (omega arith))

-- ---- the one check
-- as many words as a block has: the check and the others
all : (s : List ℕ) → sum_of s ≡ check_of s + sum_from 255 s 2
all s = sum_suc 255 s 0

-- "1 to 65,535"; "a multiple of 65,535"
is_checked_lem : (s : List ℕ) → (is_checked s ≡ true) ↔ ((0 < check_of s) × (sum_of s % 65535 ≡ 0))
unfolding is_checked
is_checked_lem s = (
  λ e.
      let b = both (not (eqb (check_of s) 0)) (eqb (sum_of s % 65535) 0) e in
      let n : check_of s ≡ 0 → ⊥ = eqb-false _ _ (not-true _ b.0) in
      (omega arith, eqb-true _ _ b.1),
  λ h. rw (ne_eqb (check_of s) 0 (λ z. omega arith), eq-eqb (sum_of s % 65535) 0 h.1),
)

-- the check that a block is to have passes, whatever the block
pub check_exists : (s : List ℕ) → check_of s ≡ check_for s → is_checked s ≡ true
check_exists s e = (is_checked_lem s).1 (omega arith, rw all (omega arith))

-- and no other does
pub check_only : (s : List ℕ) → Octets s → is_checked s ≡ true → check_of s ≡ check_for s
check_only s o e =
    let h = (is_checked_lem s).0 e in
    omega (arith, all s, be_bound 2 s 0 o)

-- it is found by what all words leave, w among them, which stands in its place
pub check_by_all : (s : List ℕ) {w r : ℕ} → w ≤ 65535 → w ≡ check_of s → r ≡ sum_of s % 65535 → 65535 - (r + 65535 - w) % 65535 ≡ check_for s
check_by_all s h e f = omega (arith, all s)

-- a block that is closed has it
pub sealed_checked : (s : List ℕ) → is_checked (sealed s) ≡ true
unfolding sealed
sealed_checked s =
    let t = octets_of 2 (check_for s) (drop 2 s) in
    let c : check_of t ≡ check_for s = be_octets 2 (check_for s) (drop 2 s) (omega arith) in
    let v : sum_from 255 t 2 ≡ sum_from 255 s 2 = sym (sum_drop 255 2 t 0) ∙ sum_drop 255 2 s 0 in
    check_exists t (c ∙ ap (λ (v : ℕ). 65535 - v % 65535) (sym v))

-- ---- one word changed
-- the first word is the check
first_word : (t : List ℕ) (k : ℕ) → k ≡ 0 → word_at t k ≡ check_of t
first_word t k z = ap (word_at t) z

-- so a word that is 0 is not the first of a block that is checked
not_first : (t : List ℕ) (k : ℕ) → 0 < check_of t → word_at t k ≡ 0 → 0 < k
not_first t k p z = cases (eqb k 0) (λ e. absurd (omega (arith, first_word t k (eqb-true k 0 e)))) (λ e. omega (arith, eqb-false k 0 e))

-- the words before it, the word and those behind it
parts : (t : List ℕ) (k : ℕ) → k < 256 → sum_of t ≡ sum_from k t 0 + (word_at t k + sum_from (255 - k) t (2 * k + 2))
parts t k h =
    let e : 256 ≡ k + suc (255 - k) = omega arith in
    ap (λ (n : ℕ). sum_from n t 0) e ∙ sum_split k (suc (255 - k)) t 0 ∙ rw (zero-add, sum_suc (255 - k) t (2 * k))

module _ (s : List ℕ) (size : length s ≡ block_octets) (k w : ℕ) (place : k < 256) (word : w < 65536) where
  changed : List ℕ
  changed = with_word s k w

  front : length (take (2 * k) s) ≡ 2 * k
  front = length-take-le (2 * k) s (omega arith)

  before : take (2 * k) changed ≡ take (2 * k) s
  unfolding changed
  before = rw append_assoc (take_at (take (2 * k) s) _ (2 * k) front)

  from : drop (2 * k) changed ≡ octets_of 2 w (drop (2 * k + 2) s)
  unfolding changed
  from = rw append_assoc (drop_at (take (2 * k) s) _ (2 * k) front)

  behind : drop (2 * k + 2) changed ≡ drop (2 * k + 2) s
  behind = sym (drop-drop 2 (2 * k) changed) ∙ ap (drop 2) from

  -- the word is the new one
  now_there : word_at changed k ≡ w
  now_there = ap (be 2 changed) (sym (add-zero (2 * k))) ∙ sym (be_drop 2 (2 * k) changed 0) ∙ ap (λ (l : List ℕ). be 2 l 0) from ∙ be_octets 2 w (drop (2 * k + 2) s) word

  -- the others are left: those before it and those behind it
  left_before : sum_from k changed 0 ≡ sum_from k s 0
  left_before = sym (sum_take k (2 * k) changed 0 (omega arith)) ∙ ap (λ (l : List ℕ). sum_from k l 0) before ∙ sum_take k (2 * k) s 0 (omega arith)

  left_behind : (n : ℕ) → sum_from n changed (2 * k + 2) ≡ sum_from n s (2 * k + 2)
  left_behind n =
      let e = ap (λ (l : List ℕ). sum_from n l 0) behind in
      rw (sum_drop n (2 * k + 2) changed 0, sum_drop n (2 * k + 2) s 0, add-zero) at e

  -- the sum changes by as much as the word
  moved : sum_of changed + word_at s k ≡ sum_of s + w
  moved = omega (arith, parts changed k place, parts s k place, left_before, left_behind (255 - k), now_there)

  -- another word than the first leaves the check
  check_left : 0 < k → check_of changed ≡ check_of s
  check_left h = sym (be_take 2 (2 * k) changed 0 (omega arith)) ∙ ap (λ (l : List ℕ). be 2 l 0) before ∙ be_take 2 (2 * k) s 0 (omega arith)

  module _ (o : Octets s) (checked : is_checked s ≡ true) where
    was : (0 < check_of s) × (sum_of s % 65535 ≡ 0)
    was = (is_checked_lem s).0 checked

    old : word_at s k < 65536
    old = be_bound 2 s (2 * k) o

    goes_unseen : is_checked changed ≡ true → Unseen k (word_at s k) w
    goes_unseen e = by (eqb w (word_at s k)) (eqb w 0) refl refl
      where
        by : (a b : Bool) → eqb w (word_at s k) ≡ a → eqb w 0 ≡ b → Unseen k (word_at s k) w
        by true b p q = same (eqb-true _ _ p)
        by false true p q =
            let n : w ≡ word_at s k → ⊥ = eqb-false _ _ p in
            let z : w ≡ 0 = eqb-true _ _ q in
            let is = (is_checked_lem changed).0 e in
            lowered (not_first changed k is.0 (now_there ∙ z)) (omega (arith, was, old, moved)) z
        by false false p q =
            let n : w ≡ word_at s k → ⊥ = eqb-false _ _ p in
            let m : w ≡ 0 → ⊥ = eqb-false _ _ q in
            let is = (is_checked_lem changed).0 e in
            let z : word_at s k ≡ 0 = omega (arith, was, old, moved) in
            raised (not_first s k was.0 z) z (omega (arith, was, moved))

    -- the check is left where it is not that word, and where it is, it is the same
    check_there : Unseen k (word_at s k) w → 0 < check_of changed
    check_there u = cases (eqb k 0) (λ e. first (eqb-true k 0 e) u) (λ e. omega (arith, was, check_left (omega (arith, eqb-false k 0 e))))
      where
        first : k ≡ 0 → Unseen k (word_at s k) w → 0 < check_of changed
        first z (same e) = omega (arith, was, e, now_there, first_word s k z, first_word changed k z)
        first z (raised h v e) = absurd (omega arith)
        first z (lowered h v e) = absurd (omega arith)

    multiple : Unseen k (word_at s k) w → sum_of changed % 65535 ≡ 0
    multiple (same e) = omega (arith, was, moved)
    multiple (raised h v e) = omega (arith, was, moved)
    multiple (lowered h v e) = omega (arith, was, moved)

    -- what the check does not see
    pub unseen_exactly : (is_checked (with_word s k w) ≡ true) ↔ Unseen k (word_at s k) w
    unfolding changed
    unseen_exactly = (goes_unseen, λ u. (is_checked_lem changed).1 (check_there u, multiple u))

    -- any other change of a word breaks it
    pub changed_word : (Unseen k (word_at s k) w → ⊥) → is_checked (with_word s k w) ≡ false
    changed_word n = cases (is_checked (with_word s k w)) (λ t. absurd (n (unseen_exactly.0 t))) (λ f. f)
