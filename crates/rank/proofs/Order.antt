-- Rank order is a strict total order: lexicographic order is one on lists of one length, and a candidate is its keys.
use Prim.Native.Nat.{ℕ, ◌<◌}
use mathlib.Core.Path.{◌≡◌, refl, sym, ◌∙◌}
use mathlib.Core.List.{List, [], ◌∷◌, ◌++◌}
use mathlib.Core.Bool.{Bool, true, false}
use lib.Dec.{eqb, ltb}
use lib.ListN.{length, get_or}
use native.Mathlib.Omega.{arith}
use borrow.Author.Tests.{eqb-true, eqb-false, eq-eqb, ne_eqb, ltb-true, ltb-false, lt-ltb, le-ltb}
use Rattle.refusal.specs.Choice.{pick}
use Rattle.rank.specs.declared.Candidate.{Candidate}
use Rattle.rank.specs.Order.{lex, same, keys_of, earlier_of}
use Rattle.rank.proofs.Best.{Strict, cases}

-- the second step of two, given first
pub to : {A : Type 0} {x y z : A} → y ≡ z → x ≡ y → x ≡ z
to f e = e ∙ f

-- the last key: where it is equal, nothing is earlier
pub last : (x y : ℕ) → pick (eqb x y) false (ltb x y) ≡ ltb x y
last x y =
    cases (eqb x y)
    (λ e. let h = eqb-true x y e in simp (e, le-ltb x y (omega arith)))
    (λ e. simp e)

-- the first keys decide, or where they are the same the others
pub lex_append : (xs ys : List ℕ) (l m : List ℕ) → length xs ≡ length ys
    → lex (xs ++ l) (ys ++ m) ≡ pick (same xs ys) (lex l m) (lex xs ys)
lex_append [] [] l m h = refl
lex_append [] (y ∷ ys) l m h = absurd (omega arith)
lex_append (x ∷ xs) [] l m h = absurd (omega arith)
lex_append (x ∷ xs) (y ∷ ys) l m h =
    cases (eqb x y) (λ e. simp e (lex_append xs ys l m (omega arith))) (λ e. simp e)

before : (x y : ℕ) (r : Bool) → x < y → pick (eqb x y) r (ltb x y) ≡ true
before x y r h = simp (ne_eqb x y (λ e. omega arith), lt-ltb x y h)

after : (x y : ℕ) (r : Bool) → y < x → pick (eqb x y) r (ltb x y) ≡ false
after x y r h = simp (ne_eqb x y (λ e. omega arith), le-ltb x y (omega arith))

pub lex_asym : (a b : List ℕ) → lex a b ≡ true → lex b a ≡ false
lex_asym [] b h = cc
lex_asym (x ∷ xs) [] h = refl
lex_asym (x ∷ xs) (y ∷ ys) h =
    cases (eqb x y)
    (λ e. let i = lex_asym xs ys (simp e at h) in simp (eq-eqb y x (sym (eqb-true x y e)), i))
    (λ e. after y x (lex ys xs) (ltb-true x y (simp e at h)))

lex_trans : (a b c : List ℕ) → lex a b ≡ true → lex b c ≡ true → lex a c ≡ true
lex_trans [] b c h k = cc
lex_trans (x ∷ xs) [] c h k = cc
lex_trans (x ∷ xs) (y ∷ ys) [] h k = cc
lex_trans (x ∷ xs) (y ∷ ys) (z ∷ zs) h k =
    cases (eqb x y)
    (λ e.
    cases (eqb y z)
    (λ f.
    let i = lex_trans xs ys zs (simp e at h) (simp f at k) in
    simp (eq-eqb x z (eqb-true x y e ∙ eqb-true y z f), i))
    (λ f. before x z (lex xs zs) (let p = eqb-true x y e in let q = ltb-true y z (simp f at k) in omega arith)))
    (λ e.
    let p = ltb-true x y (simp e at h) in
    cases (eqb y z)
    (λ f. before x z (lex xs zs) (let q = eqb-true y z f in omega arith))
    (λ f. before x z (lex xs zs) (let q = ltb-true y z (simp f at k) in omega arith)))

pub lex_tri : (a b : List ℕ) → length a ≡ length b → lex a b ≡ false → lex b a ≡ false → a ≡ b
lex_tri [] [] l h k = refl
lex_tri [] (y ∷ ys) l h k = absurd (omega arith)
lex_tri (x ∷ xs) [] l h k = absurd (omega arith)
lex_tri (x ∷ xs) (y ∷ ys) l h k =
    cases (eqb x y)
    (λ e.
    let p = eqb-true x y e in
    let i = lex_tri xs ys (omega arith) (simp e at h) (simp (eq-eqb y x (sym p)) at k) in
    cc)
    (λ e.
    let n = eqb-false x y e in
    let p = ltb-false x y (simp e at h) in
    let q = ltb-false y x (simp (ne_eqb y x (λ m. n (sym m))) at k) in
    absurd (omega arith))

-- EQUAL KEYS ARE EQUAL CANDIDATES: a candidate holds nothing else
pub same_keys : (a b : Candidate) → keys_of a ≡ keys_of b → a ≡ b
same_keys a b e =
    λ i.
    record {
      grandmaster =
          record {
            priority1 = get_or (e i) 0 0;
            class = get_or (e i) 1 0;
            accuracy = get_or (e i) 2 0;
            variance = get_or (e i) 3 0;
            priority2 = get_or (e i) 4 0;
            identity = get_or (e i) 5 0;
          };
      steps = get_or (e i) 6 0;
      sender = record { clock = get_or (e i) 7 0; port = get_or (e i) 8 0 };
      port = get_or (e i) 9 0;
      wrflags = get_or (e i) 10 0;
    }

-- RANK ORDER IS A STRICT TOTAL ORDER
pub ordered : Strict earlier_of
ordered =
    record {
      asym = λ x y h. lex_asym (keys_of x) (keys_of y) h;
      trans = λ x y z h k. lex_trans (keys_of x) (keys_of y) (keys_of z) h k;
      tri = λ x y h k. same_keys x y (lex_tri (keys_of x) (keys_of y) refl h k);
    }
