-- Rank order in the words: the five keys of the quality lie in one word, highest first, and compare as one number.
use mathlib.Core.Path.{◌≡◌, refl, sym, ap, ◌∙◌}
use mathlib.Core.Bool.{Bool, true, false}
use mathlib.Core.List.{List}
use mathlib.Core.Logic.{⊎_elim}
use Prim.Native.Nat.{ℕ, ◌/◌, ◌%◌, ◌<◌}
use native.Mathlib.Omega.{arith}
use lib.Dec.{eqb, ltb}
use lib.ListN.{get_or}
use borrow.Author.Tests.{eqb-true, eqb-false, eq-eqb, ne_eqb, lt-ltb, le-ltb}
use Rattle.refusal.specs.Choice.{pick}
use Rattle.rank.specs.Order.{earlier_of}
use Rattle.senders.specs.Record.{candidate_of}
use Rattle.slots.specs.Words.{of_six, before_in}
use Rattle.slots.specs.Places.{above_in}
use Rattle.slots.proofs.Meaning.{ne_split}

-- one key: equal, lower or higher
module _ (a b : ℕ) (rest t : Bool) (equal : a ≡ b → rest ≡ t) (lower : a < b → true ≡ t) (higher : b < a → false ≡ t) where
  key_by : (e : Bool) → eqb a b ≡ e → pick e rest (ltb a b) ≡ t
  key_by true h = equal (eqb-true a b h)
  key_by false h =
      ⊎_elim
      (λ (l : a < b). lt-ltb a b l ∙ lower l)
      (λ (l : b < a). le-ltb a b (omega arith) ∙ higher l)
      (ne_split a b (eqb-false a b h))

  key : pick (eqb a b) rest (ltb a b) ≡ t
  key = key_by (eqb a b) refl

-- two keys as one number: u of a and b, v of c and d
pub record Joined (u v a b c d : ℕ) : Type 0 where
  pub same : a ≡ c → b ≡ d → u ≡ v
  pub high_lower : a < c → u < v
  pub high_higher : c < a → v < u
  pub low_lower : a ≡ c → b < d → u < v
  pub low_higher : a ≡ c → d < b → v < u

module _ (u v a b c d : ℕ) (j : Joined u v a b c d) (rest : Bool) where
  abbrev one : Bool
  one = pick (eqb u v) rest (ltb u v)

  is_lower : u < v → true ≡ one
  is_lower l = sym (rw (ne_eqb u v (λ e. omega arith), lt-ltb u v l))

  is_higher : v < u → false ≡ one
  is_higher l = sym (rw (ne_eqb u v (λ e. omega arith), le-ltb u v (omega arith)))

  join : pick (eqb a c) (pick (eqb b d) rest (ltb b d)) (ltb a c) ≡ one
  join =
      key a c _ one
      (λ e. key b d rest one (λ f. sym (rw (eq-eqb u v (j.same e f)))) (λ l. is_lower (j.low_lower e l)) (λ l. is_higher (j.low_higher e l)))
      (λ l. is_lower (j.high_lower l))
      (λ l. is_higher (j.high_higher l))

-- the number down to a key, of that down to the key before it
module _ (x y : ℕ) where
  to_class : x < 0x10000000000000000 → y < 0x10000000000000000
      → Joined (x / 0x1000000000000) (y / 0x1000000000000) (x / 0x100000000000000 % 0x100) (x / 0x1000000000000 % 0x100) (y / 0x100000000000000 % 0x100) (y / 0x1000000000000 % 0x100)
  to_class hx hy =
      record { same = λ e f. omega arith; high_lower = λ l. omega arith; high_higher = λ l. omega arith; low_lower = λ e l. omega arith; low_higher = λ e l. omega arith }

  to_accuracy : Joined (x / 0x10000000000) (y / 0x10000000000) (x / 0x1000000000000) (x / 0x10000000000 % 0x100) (y / 0x1000000000000) (y / 0x10000000000 % 0x100)
  to_accuracy =
      record { same = λ e f. omega arith; high_lower = λ l. omega arith; high_higher = λ l. omega arith; low_lower = λ e l. omega arith; low_higher = λ e l. omega arith }

  to_variance : Joined (x / 0x1000000) (y / 0x1000000) (x / 0x10000000000) (x / 0x1000000 % 0x10000) (y / 0x10000000000) (y / 0x1000000 % 0x10000)
  to_variance =
      record { same = λ e f. omega arith; high_lower = λ l. omega arith; high_higher = λ l. omega arith; low_lower = λ e l. omega arith; low_higher = λ e l. omega arith }

  to_priority2 : Joined (x / 0x10000) (y / 0x10000) (x / 0x1000000) (x / 0x10000 % 0x100) (y / 0x1000000) (y / 0x10000 % 0x100)
  to_priority2 =
      record { same = λ e f. omega arith; high_lower = λ l. omega arith; high_higher = λ l. omega arith; low_lower = λ e l. omega arith; low_higher = λ e l. omega arith }

-- priority1, class, accuracy, variance and priority2 of two words, and what follows where they are equal
abbrev five : ℕ → ℕ → Bool → Bool
five x y rest =
    pick (eqb (x / 0x100000000000000 % 0x100) (y / 0x100000000000000 % 0x100))
    (pick (eqb (x / 0x1000000000000 % 0x100) (y / 0x1000000000000 % 0x100))
    (pick (eqb (x / 0x10000000000 % 0x100) (y / 0x10000000000 % 0x100))
    (pick (eqb (x / 0x1000000 % 0x10000) (y / 0x1000000 % 0x10000))
    (pick (eqb (x / 0x10000 % 0x100) (y / 0x10000 % 0x100)) rest (ltb (x / 0x10000 % 0x100) (y / 0x10000 % 0x100)))
    (ltb (x / 0x1000000 % 0x10000) (y / 0x1000000 % 0x10000)))
    (ltb (x / 0x10000000000 % 0x100) (y / 0x10000000000 % 0x100)))
    (ltb (x / 0x1000000000000 % 0x100) (y / 0x1000000000000 % 0x100)))
    (ltb (x / 0x100000000000000 % 0x100) (y / 0x100000000000000 % 0x100))

-- the five as one number
five_one : (x y : ℕ) → x < 0x10000000000000000 → y < 0x10000000000000000 → (rest : Bool)
    → five x y rest ≡ pick (eqb (x / 0x10000) (y / 0x10000)) rest (ltb (x / 0x10000) (y / 0x10000))
five_one x y hx hy rest =
    join _ _ _ _ _ _ (to_class x y hx hy) _
    ∙ join _ _ _ _ _ _ (to_accuracy x y) _
    ∙ join _ _ _ _ _ _ (to_variance x y) _
    ∙ join _ _ _ _ _ _ (to_priority2 x y) rest

-- the last key, and the port that both are on
last_key : (a b : ℕ) → pick (eqb a b) false (ltb a b) ≡ ltb a b
last_key a b = key a b false (ltb a b) (λ e. sym (le-ltb a b (omega arith))) (λ l. sym (lt-ltb a b l)) (λ l. sym (le-ltb a b (omega arith)))

one_port : (port a b : ℕ) → pick (eqb port port) (pick (eqb a b) false (ltb a b)) (ltb port port) ≡ ltb a b
one_port port a b = rw (eq-eqb port port refl) (last_key a b)

-- RANK ORDER OF TWO RECORDS ON ONE PORT IS THAT OF THEIR WORDS
pub earlier_words : (port : ℕ) (a b : List ℕ) → get_or a 5 0 < 0x10000000000000000 → get_or b 5 0 < 0x10000000000000000
    → before_in a b ≡ earlier_of (candidate_of port (of_six a)) (candidate_of port (of_six b))
earlier_words port a b ha hb =
    let x = get_or a 5 0 in
    let y = get_or b 5 0 in
    let K : Bool → Bool =
    λ z.
    pick (eqb (get_or a 4 0) (get_or b 4 0))
    (pick (eqb (x % 0x10000) (y % 0x10000))
    (pick (eqb (get_or a 0 0) (get_or b 0 0))
    (pick (eqb (get_or a 1 0 % 0x10000) (get_or b 1 0 % 0x10000)) z (ltb (get_or a 1 0 % 0x10000) (get_or b 1 0 % 0x10000)))
    (ltb (get_or a 0 0) (get_or b 0 0)))
    (ltb (x % 0x10000) (y % 0x10000)))
    (ltb (get_or a 4 0) (get_or b 4 0)) in
    ap (λ (z : Bool). pick (eqb (x / 0x10000) (y / 0x10000)) (K z) (ltb (x / 0x10000) (y / 0x10000)))
    (sym (one_port port (get_or a 1 0 / 0x100000000 % 0x10000) (get_or b 1 0 / 0x100000000 % 0x10000)))
    ∙ sym (five_one x y ha hb (K _))

-- two ports, the second lower: it stands first where all before it is equal
two_ports : (p q a b x y : ℕ) → q < p → pick (eqb a b) (pick (eqb p q) (pick (eqb x y) false (ltb x y)) (ltb p q)) (ltb a b) ≡ ltb a b
two_ports p q a b x y h = rw (ne_eqb p q (λ e. omega arith), le-ltb p q (omega arith)) (last_key a b)

-- RANK ORDER OF A RECORD ON ONE PORT AND A RECORD ON A PORT BELOW IT IS THAT OF THE KEYS BEFORE THE PORT
pub above_words : (p q : ℕ) (a b : List ℕ) → q < p → get_or a 5 0 < 0x10000000000000000 → get_or b 5 0 < 0x10000000000000000
    → above_in a b ≡ earlier_of (candidate_of p (of_six a)) (candidate_of q (of_six b))
above_words p q a b h ha hb =
    let x = get_or a 5 0 in
    let y = get_or b 5 0 in
    let K : Bool → Bool =
    λ z.
    pick (eqb (get_or a 4 0) (get_or b 4 0))
    (pick (eqb (x % 0x10000) (y % 0x10000))
    (pick (eqb (get_or a 0 0) (get_or b 0 0))
    z
    (ltb (get_or a 0 0) (get_or b 0 0)))
    (ltb (x % 0x10000) (y % 0x10000)))
    (ltb (get_or a 4 0) (get_or b 4 0)) in
    ap (λ (z : Bool). pick (eqb (x / 0x10000) (y / 0x10000)) (K z) (ltb (x / 0x10000) (y / 0x10000)))
    (sym (two_ports p q (get_or a 1 0 % 0x10000) (get_or b 1 0 % 0x10000) (get_or a 1 0 / 0x100000000 % 0x10000) (get_or b 1 0 / 0x100000000 % 0x10000) h))
    ∙ sym (five_one x y ha hb (K _))
