-- Which of two sets is called A does not matter: with the sets changing places the answer does too.
use Prim.Native.Nat.{ℕ}
use mathlib.Core.Path.{◌≡◌, refl, sym, ap}
use mathlib.Core.List.{List}
use mathlib.Core.Bool.{true, false}
use native.Mathlib.Omega.{arith}
use lib.Dec.{ltb, eqb}
use lib.ListN.{get_or}
use borrow.Author.Tests.{ltb-true, le-ltb, eqb-true, eqb-false, eq-eqb, ne_eqb}
use Rattle.rank.specs.Order.{identity_of, grade_of, lex}
use Rattle.rank.proofs.Best.{cases}
use Rattle.rank.proofs.Order.{lex_asym, lex_tri}
use Rattle.decide.specs.declared.DataSet.{DataSet}
use Rattle.decide.specs.declared.Comparison.{Comparison}
use Rattle.decide.specs.declared.Comparison.TheVariants.{ABetter, BBetter, ABetterByTopology, BBetterByTopology, Error1, Error2}
use Rattle.decide.specs.Comparing.{mirror_of, different_of, fewer_of, even_of, same_of, compare_of}

mirror_twice : (x : Comparison) → mirror_of (mirror_of x) ≡ x
mirror_twice ABetter = refl
mirror_twice BBetter = refl
mirror_twice ABetterByTopology = refl
mirror_twice BBetterByTopology = refl
mirror_twice Error1 = refl
mirror_twice Error2 = refl

ltb_asym : (x y : ℕ) → ltb x y ≡ true → ltb y x ≡ false
ltb_asym x y h = let k = ltb-true x y h in le-ltb y x (omega arith)

even_mirror : (a b : DataSet) → even_of b a ≡ mirror_of (even_of a b)
unfolding even_of
even_mirror a b =
    let i = identity_of a.sender in
    let j = identity_of b.sender in
    let x = a.receiver.port in
    let y = b.receiver.port in
    cases (lex i j)
    (λ h. rw (h, lex_asym i j h))
    (λ h.
    cases (lex j i)
    (λ k. rw (h, k))
    (λ k.
    cases (ltb x y)
    (λ p. rw (h, k, p, ltb_asym x y p))
    (λ p. cases (ltb y x) (λ q. rw (h, k, p, q)) (λ q. rw (h, k, p, q)))))

same_mirror : (a b : DataSet) → same_of b a ≡ mirror_of (same_of a b)
unfolding same_of
same_mirror a b =
    let s = a.steps in
    let t = b.steps in
    cases (ltb s t)
    (λ h. rw (h, ltb_asym s t h))
    (λ h.
    cases (ltb t s)
    (λ k. rw (h, k) (sym (mirror_twice (fewer_of b a))))
    (λ k. rw (h, k) (even_mirror a b)))

different_mirror : (a b : DataSet) → (a.grandmaster.identity ≡ b.grandmaster.identity → ⊥) → different_of b a ≡ mirror_of (different_of a b)
unfolding different_of
different_mirror a b ne =
    let g = grade_of a.grandmaster in
    let h = grade_of b.grandmaster in
    cases (lex g h)
    (λ p. rw (p, lex_asym g h p))
    (λ p.
    cases (lex h g)
    (λ q. rw (p, q))
    (λ q. absurd (ne (ap (λ (l : List ℕ). get_or l 5 0) (lex_tri g h refl p q)))))

pub mirrored : (a b : DataSet) → compare_of b a ≡ mirror_of (compare_of a b)
unfolding compare_of
mirrored a b =
    let x = a.grandmaster.identity in
    let y = b.grandmaster.identity in
    cases (eqb x y)
    (λ e. rw (e, eq-eqb y x (sym (eqb-true x y e))) (same_mirror a b))
    (λ e. let ne = eqb-false x y e in rw (e, ne_eqb y x (λ k. ne (sym k))) (different_mirror a b ne))
