-- Rank order and comparison agree on the first nine keys; and where they do not, the comparison can go in a circle.
use Prim.Native.Nat.{ℕ, ◌+◌, ◌<◌}
use mathlib.Core.Path.{◌≡◌, refl, sym, ap, ap₂, ◌∙◌, subst}
use mathlib.Core.List.{List, [], ◌∷◌, ◌++◌}
use mathlib.Core.Bool.{Bool, true, false}
use native.Mathlib.Omega.{arith}
use lib.Dec.{ltb, leb, eqb}
use lib.ListN.{length, get_or}
use borrow.Author.Tests.{ltb-true, ltb-false, eqb-true, eqb-false, eq-eqb}
use Rattle.laws.proofs.Bools.{clash}
use Rattle.refusal.specs.Choice.{pick}
use Rattle.identity.specs.declared.PortIdentity.{PortIdentity}
use Rattle.rank.specs.declared.Candidate.{Candidate}
use Rattle.rank.specs.Order.{identity_of, grade_of, lex, same, keys_of, earlier_of}
use Rattle.rank.proofs.Best.{cases}
use Rattle.rank.proofs.Merging.{both}
use Rattle.rank.proofs.Order.{last, lex_append, lex_asym, lex_tri}
use Rattle.decide.specs.declared.DataSet.{DataSet}
use Rattle.decide.specs.declared.Comparison.{Comparison}
use Rattle.decide.specs.declared.Comparison.TheVariants.{ABetter, BBetter, ABetterByTopology, BBetterByTopology, Error1, Error2}
use Rattle.decide.specs.Comparing.{mirror_of, different_of, fewer_of, even_of, same_of, compare_of, nine_of}
use Rattle.decide.specs.Deciding.{beats_of, set_of}

-- "where sets of one grandmaster have equal quality fields and no set with steps above 0 has sender equal to receiver"
pub record Sound (a b : DataSet) : Type 0 where
  pub quality : a.grandmaster.identity ≡ b.grandmaster.identity → a.grandmaster ≡ b.grandmaster
  pub apart_a : 0 < a.steps → a.sender ≡ a.receiver → ⊥
  pub apart_b : 0 < b.steps → b.sender ≡ b.receiver → ⊥

-- who wins by rank order, as one of four cases
pub data Winner : Type 0 where
  first : Winner
  second : Winner
  equal : Winner
  nobody : Winner

-- of the comparison: error-2 is equality, error-1 nobody's
abbrev pub winner : Comparison → Winner
winner ABetter = first
winner BBetter = second
winner ABetterByTopology = first
winner BBetterByTopology = second
winner Error1 = nobody
winner Error2 = equal

-- of rank order on nine keys
abbrev pub by_rank : List ℕ → List ℕ → Winner
by_rank k l = pick (lex k l) first (pick (lex l k) second equal)

same_refl : (xs : List ℕ) → same xs xs ≡ true
same_refl [] = refl
same_refl (x ∷ xs) = rw (eq-eqb x x refl) (same_refl xs)

same_true : (xs ys : List ℕ) → same xs ys ≡ true → xs ≡ ys
same_true [] [] h = refl
same_true [] (y ∷ ys) h = cc
same_true (x ∷ xs) [] h = cc
same_true (x ∷ xs) (y ∷ ys) h =
    let b = both (eqb x y) (same xs ys) h in
    ap₂ ◌∷◌ (eqb-true x y b.0) (same_true xs ys b.1)

-- first keys that differ decide
front : (xs ys l m : List ℕ) → length xs ≡ length ys → (xs ≡ ys → ⊥) → by_rank (xs ++ l) (ys ++ m) ≡ pick (lex xs ys) first second
front xs ys l m n ne =
    let d : same xs ys ≡ false = cases (same xs ys) (λ h. absurd (ne (same_true xs ys h))) (λ h. h) in
    let e : same ys xs ≡ false = cases (same ys xs) (λ h. absurd (ne (sym (same_true ys xs h)))) (λ h. h) in
    let p : lex (xs ++ l) (ys ++ m) ≡ lex xs ys = lex_append xs ys l m n ∙ rw d in
    let q : lex (ys ++ m) (xs ++ l) ≡ lex ys xs = lex_append ys xs m l (sym n) ∙ rw e in
    ap₂ (λ (s t : Bool). pick s first (pick t second equal)) p q
    ∙ cases (lex xs ys)
    (λ h. rw h)
    (λ h. cases (lex ys xs) (λ k. rw (h, k)) (λ k. absurd (ne (lex_tri xs ys n h k))))

-- first keys that are equal leave it to the others
behind : (xs ys l m : List ℕ) → xs ≡ ys → by_rank (xs ++ l) (ys ++ m) ≡ by_rank l m
behind xs ys l m h =
    rw (sym h)
    (let p : lex (xs ++ l) (xs ++ m) ≡ lex l m = lex_append xs xs l m refl ∙ rw (same_refl xs) in
    let q : lex (xs ++ m) (xs ++ l) ≡ lex m l = lex_append xs xs m l refl ∙ rw (same_refl xs) in
    ap₂ (λ (s t : Bool). pick s first (pick t second equal)) p q)

not_self : (xs ys : List ℕ) → lex xs ys ≡ true → xs ≡ ys → ⊥
not_self xs ys h e =
    let k : lex xs xs ≡ true = subst (λ (z : List ℕ). lex xs z ≡ true) (sym e) h in clash k (lex_asym xs xs k)

same_identity : (i j : PortIdentity) → identity_of i ≡ identity_of j → i ≡ j
same_identity i j e = λ k. record { clock = get_or (e k) 0 0; port = get_or (e k) 1 0 }

-- the set with fewer steps wins
fewer_wins : (a b : DataSet) → (b.sender ≡ b.receiver → ⊥) → winner (fewer_of a b) ≡ first
unfolding fewer_of
fewer_wins a b apart =
    let r = identity_of b.receiver in
    let s = identity_of b.sender in
    cases (leb (a.steps + 2) b.steps)
    (λ e. rw e)
    (λ e.
    cases (lex r s)
    (λ f. rw (e, f))
    (λ f.
    cases (lex s r)
    (λ g. rw (e, f, g))
    (λ g. absurd (apart (same_identity b.sender b.receiver (sym (lex_tri r s refl f g)))))))

mirrored : (x : Comparison) → winner x ≡ first → winner (mirror_of x) ≡ second
mirrored ABetter h = refl
mirrored BBetter h = cc
mirrored ABetterByTopology h = refl
mirrored BBetterByTopology h = cc
mirrored Error1 h = cc
mirrored Error2 h = cc

-- the keys past the steps, and past the grandmaster
abbrev sent : DataSet → List ℕ
sent a = identity_of a.sender ++ (a.receiver.port ∷ [])

abbrev past : DataSet → List ℕ
past a = (a.steps ∷ []) ++ sent a

even_agrees : (a b : DataSet) → winner (even_of a b) ≡ by_rank (sent a) (sent b)
unfolding even_of
even_agrees a b =
    let i = identity_of a.sender in
    let j = identity_of b.sender in
    let l = a.receiver.port ∷ [] in
    let m = b.receiver.port ∷ [] in
    cases (lex i j)
    (λ h. rw h (sym (front i j l m refl (not_self i j h) ∙ rw h)))
    (λ h.
    cases (lex j i)
    (λ k. rw (h, k) (sym (front i j l m refl (λ e. not_self j i k (sym e)) ∙ rw h)))
    (λ k.
    rw (h, k)
    (ports a.receiver.port b.receiver.port ∙ sym (behind i j l m (lex_tri i j refl h k)))))
  where
    ports : (x y : ℕ) → winner (pick (ltb x y) ABetterByTopology (pick (ltb y x) BBetterByTopology Error2)) ≡ by_rank (x ∷ []) (y ∷ [])
    ports x y =
        rw (last x y, last y x)
        (cases (ltb x y) (λ h. rw h) (λ h. cases (ltb y x) (λ k. rw (h, k)) (λ k. rw (h, k))))

same_agrees : (a b : DataSet) → Sound a b → winner (same_of a b) ≡ by_rank (past a) (past b)
unfolding same_of
same_agrees a b sound =
    let s = a.steps in
    let t = b.steps in
    cases (ltb s t)
    (λ h.
    let k = ltb-true s t h in
    let o : same_of a b ≡ fewer_of a b = rw h in
    ap winner o ∙ fewer_wins a b (sound.apart_b (omega arith)) ∙ sym (by_steps s t (λ e. omega arith) ∙ rw (last s t, h)))
    (λ h.
    cases (ltb t s)
    (λ k.
    let q = ltb-true t s k in
    let o : same_of a b ≡ mirror_of (fewer_of b a) = rw (h, k) in
    ap winner o
    ∙ mirrored (fewer_of b a) (fewer_wins b a (sound.apart_a (omega arith)))
    ∙ sym (by_steps s t (λ e. omega arith) ∙ rw (last s t, h)))
    (λ k.
    let p = ltb-false s t h in
    let q = ltb-false t s k in
    let e : s ≡ t = omega arith in
    let o : same_of a b ≡ even_of a b = rw (h, k) in
    ap winner o ∙ even_agrees a b ∙ sym (behind (s ∷ []) (t ∷ []) (sent a) (sent b) (ap (λ (x : ℕ). x ∷ []) e))))
  where
    by_steps : (s t : ℕ) → (s ≡ t → ⊥) → by_rank ((s ∷ []) ++ sent a) ((t ∷ []) ++ sent b) ≡ pick (lex (s ∷ []) (t ∷ [])) first second
    by_steps s t ne = front (s ∷ []) (t ∷ []) (sent a) (sent b) refl (λ e. ne (ap (λ (x : List ℕ). get_or x 0 0) e))

different_agrees : (a b : DataSet) → winner (different_of a b) ≡ pick (lex (grade_of a.grandmaster) (grade_of b.grandmaster)) first second
unfolding different_of
different_agrees a b = cases (lex (grade_of a.grandmaster) (grade_of b.grandmaster)) (λ h. rw h) (λ h. rw h)

-- THE TWO AGREE on every pair of such sets
pub agree : (a b : DataSet) → Sound a b → winner (compare_of a b) ≡ by_rank (nine_of a) (nine_of b)
unfolding compare_of
agree a b sound =
    let g = grade_of a.grandmaster in
    let h = grade_of b.grandmaster in
    cases (eqb a.grandmaster.identity b.grandmaster.identity)
    (λ e.
    let o : compare_of a b ≡ same_of a b = rw e in
    ap winner o
    ∙ same_agrees a b sound
    ∙ sym (behind g h (past a) (past b) (ap grade_of (sound.quality (eqb-true a.grandmaster.identity b.grandmaster.identity e)))))
    (λ e.
    let ne = eqb-false a.grandmaster.identity b.grandmaster.identity e in
    let o : compare_of a b ≡ different_of a b = rw e in
    ap winner o ∙ different_agrees a b ∙ sym (front g h (past a) (past b) refl (λ k. ne (ap (λ (x : List ℕ). get_or x 5 0) k))))

first_beats : (x : Comparison) → winner x ≡ first → beats_of x ≡ true
first_beats ABetter h = refl
first_beats BBetter h = cc
first_beats ABetterByTopology h = refl
first_beats BBetterByTopology h = cc
first_beats Error1 h = cc
first_beats Error2 h = cc

second_beats : (x : Comparison) → winner x ≡ second → beats_of (mirror_of x) ≡ true
second_beats ABetter h = cc
second_beats BBetter h = refl
second_beats ABetterByTopology h = cc
second_beats BBetterByTopology h = refl
second_beats Error1 h = cc
second_beats Error2 h = cc

equal_error_2 : (x : Comparison) → winner x ≡ equal → x ≡ Error2
equal_error_2 ABetter h = cc
equal_error_2 BBetter h = cc
equal_error_2 ABetterByTopology h = cc
equal_error_2 BBetterByTopology h = cc
equal_error_2 Error1 h = cc
equal_error_2 Error2 h = refl

-- rank order on lists of one length: equal exactly at equality, and always somebody's or equal
rank_equal : (k l : List ℕ) → length k ≡ length l → by_rank k l ≡ equal → k ≡ l
rank_equal k l n h =
    cases (lex k l)
    (λ e. let z : first ≡ equal = rw e at h in cc)
    (λ e. cases (lex l k) (λ f. let z : second ≡ equal = rw (e, f) at h in cc) (λ f. lex_tri k l n e f))

rank_somebody : (k l : List ℕ) → by_rank k l ≡ nobody → ⊥
rank_somebody k l h =
    cases (lex k l)
    (λ e. let z : first ≡ nobody = rw e at h in let y : ◌≡◌ {A = ℕ} 0 1 = cc in omega arith)
    (λ e.
    cases (lex l k)
    (λ f. let z : second ≡ nobody = rw (e, f) at h in let y : ◌≡◌ {A = ℕ} 0 1 = cc in omega arith)
    (λ f. let z : equal ≡ nobody = rw (e, f) at h in let y : ◌≡◌ {A = ℕ} 0 1 = cc in omega arith))

rank_same : (k l : List ℕ) → k ≡ l → by_rank k l ≡ equal
rank_same k l e =
    let i : lex k k ≡ false = cases (lex k k) (λ h. lex_asym k k h) (λ h. h) in
    rw (sym e, i)

module _ (a b : DataSet) (sound : Sound a b) where
  -- "the earlier one wins"
  pub earlier_wins : lex (nine_of a) (nine_of b) ≡ true → beats_of (compare_of a b) ≡ true
  earlier_wins h = first_beats (compare_of a b) (agree a b sound ∙ rw h)

  pub later_loses : lex (nine_of b) (nine_of a) ≡ true → beats_of (mirror_of (compare_of a b)) ≡ true
  later_loses h = second_beats (compare_of a b) (agree a b sound ∙ rw (lex_asym (nine_of b) (nine_of a) h, h))

  -- "error-2 comes exactly at equality of nine keys"
  pub error_2_is_equal : compare_of a b ≡ Error2 → nine_of a ≡ nine_of b
  error_2_is_equal h = rank_equal (nine_of a) (nine_of b) refl (sym (agree a b sound) ∙ ap winner h)

  pub equal_is_error_2 : nine_of a ≡ nine_of b → compare_of a b ≡ Error2
  equal_is_error_2 h = equal_error_2 (compare_of a b) (agree a b sound ∙ rank_same (nine_of a) (nine_of b) h)

  -- "and error-1 never"
  pub error_1_never : compare_of a b ≡ Error1 → ⊥
  error_1_never h = rank_somebody (nine_of a) (nine_of b) (sym (agree a b sound) ∙ ap winner h)

-- THE SAME OF CANDIDATES: their keys are the nine of their sets, and wrFlags
module _ (clock : ℕ) (a b : Candidate) where
  abbrev A : DataSet
  A = set_of a clock a.port

  abbrev B : DataSet
  B = set_of b clock b.port

  pub nine_of_ten : keys_of a ≡ nine_of A ++ (a.wrflags ∷ [])
  nine_of_ten = refl

  -- the candidate that rank order puts first wins, unless they differ in wrFlags alone
  pub candidates_agree : Sound A B → (nine_of A ≡ nine_of B → ⊥) → earlier_of a b ≡ true → beats_of (compare_of A B) ≡ true
  candidates_agree sound ne h =
      let d : same (nine_of A) (nine_of B) ≡ false = cases (same (nine_of A) (nine_of B)) (λ e. absurd (ne (same_true (nine_of A) (nine_of B) e))) (λ e. e) in
      let o : earlier_of a b ≡ lex (nine_of A) (nine_of B) = lex_append (nine_of A) (nine_of B) (a.wrflags ∷ []) (b.wrflags ∷ []) refl ∙ rw d in
      earlier_wins A B sound (sym o ∙ h)
