-- The derived `<` of identities, grandmasters and candidates is lexicographic order on their keys.
use Rattle.std.specs.Prelude.{Option, Some, None}
use Prim.Native.Nat.{ℕ}
use mathlib.Core.Path.{◌≡◌, refl, sym, ap, ◌∙◌}
use mathlib.Core.Bool.{Bool}
use mathlib.Core.List.{List, [], ◌∷◌}
use native.Mathlib.Omega.{arith}
use lib.Dec.{eqb, ltb}
use lib.ListN.{length}
use borrow.Author.Tests.{eqb-true, eqb-false, eq-eqb, ne_eqb, ltb-true, ltb-false, lt-ltb, le-ltb}
use Rattle.std.specs.Ordering.{nat_cmp, is_lt, is_some_and, ordering_then, partial_ordering_then}
use Rattle.std.specs.declared.cmp.Ordering.{Ordering}
use Rattle.std.specs.declared.cmp.Ordering.TheVariants.{Less, Equal, Greater}
use Rattle.refusal.specs.Choice.{pick}
use Rattle.identity.specs.declared.PortIdentity.{PortIdentity}
use Rattle.rank.specs.Order.{identity_of, lex}
use Rattle.rank.proofs.Best.{cases}

-- key by key
abbrev pub compared : List ℕ → List ℕ → Option Ordering
compared [] ys = Some Equal
compared (x ∷ xs) [] = Some Equal
compared (x ∷ xs) (y ∷ ys) = partial_ordering_then (Some (nat_cmp x y)) (compared xs ys)

pub compared_lex : (xs ys : List ℕ) → is_some_and is_lt (compared xs ys) ≡ lex xs ys
compared_lex [] ys = refl
compared_lex (x ∷ xs) [] = refl
compared_lex (x ∷ xs) (y ∷ ys) =
    cases (ltb x y)
    (λ e. let h = ltb-true x y e in simp (e, ne_eqb x y (λ q. omega arith)))
    (λ e. cases (eqb x y) (λ q. simp (e, q) (compared_lex xs ys)) (λ q. simp (e, q)))

-- the keys of a part, then the others
pub then_then : (o p q : Option Ordering) → partial_ordering_then (partial_ordering_then o p) q ≡ partial_ordering_then o (partial_ordering_then p q)
then_then None p q = refl
then_then (Some Less) p q = refl
then_then (Some Equal) p q = refl
then_then (Some Greater) p q = refl

pub then_equal : (o : Option Ordering) → partial_ordering_then o (Some Equal) ≡ o
then_equal None = refl
then_equal (Some Less) = refl
then_equal (Some Equal) = refl
then_equal (Some Greater) = refl

-- BY `cmp`: one of three, as two tests by the keys pick it
abbrev pub by_order : {A : Type 0} → Ordering → A → A → A → A
by_order Less l e g = l
by_order Equal l e g = e
by_order Greater l e g = g

abbrev pub two_tests : {A : Type 0} → Bool → Bool → A → A → A → A
two_tests before after l e g = pick before l (pick after g e)

abbrev pub total : List ℕ → List ℕ → Ordering
total [] ys = Equal
total (x ∷ xs) [] = Equal
total (x ∷ xs) (y ∷ ys) = ordering_then (nat_cmp x y) (total xs ys)

pub by_number : {A : Type 0} (x y : ℕ) (l e g : A) → by_order (nat_cmp x y) l e g ≡ two_tests (ltb x y) (ltb y x) l e g
by_number x y l e g =
    cases (ltb x y)
    (λ p. simp p)
    (λ p.
    let h = ltb-false x y p in
    cases (eqb x y)
    (λ q. let k = eqb-true x y q in simp (p, q, le-ltb y x (omega arith)))
    (λ q. let k = eqb-false x y q in simp (p, q, lt-ltb y x (omega arith))))

pub by_keys : {A : Type 0} (xs ys : List ℕ) (l e g : A) → length xs ≡ length ys → by_order (total xs ys) l e g ≡ two_tests (lex xs ys) (lex ys xs) l e g
by_keys [] [] l e g n = refl
by_keys [] (y ∷ ys) l e g n = absurd (omega arith)
by_keys (x ∷ xs) [] l e g n = absurd (omega arith)
by_keys (x ∷ xs) (y ∷ ys) l e g n =
    cases (ltb x y)
    (λ p. let h = ltb-true x y p in simp (p, ne_eqb x y (λ q. omega arith)))
    (λ p.
    let h = ltb-false x y p in
    cases (eqb x y)
    (λ q. let k = eqb-true x y q in simp (p, q, eq-eqb y x (sym k)) (by_keys xs ys l e g (omega arith)))
    (λ q. let k = eqb-false x y q in simp (p, q, ne_eqb y x (λ r. k (sym r)), lt-ltb y x (omega arith))))

pub by_both : {A : Type 0} (o p : Ordering) (l e g : A) → by_order (ordering_then o p) l e g ≡ by_order o l (by_order p l e g) g
by_both Less p l e g = refl
by_both Equal p l e g = refl
by_both Greater p l e g = refl

pub by_identity : {A : Type 0} (i j : PortIdentity) (l e g : A)
    → by_order (ordering_then (nat_cmp i.clock j.clock) (nat_cmp i.port j.port)) l e g ≡ two_tests (lex (identity_of i) (identity_of j)) (lex (identity_of j) (identity_of i)) l e g
by_identity i j l e g =
    ap (λ (o : Ordering). by_order (ordering_then (nat_cmp i.clock j.clock) o) l e g) (sym (then_end (nat_cmp i.port j.port)))
    ∙ by_keys (identity_of i) (identity_of j) l e g refl
  where
    then_end : (o : Ordering) → ordering_then o Equal ≡ o
    then_end Less = refl
    then_end Equal = refl
    then_end Greater = refl
