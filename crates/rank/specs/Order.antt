-- Rank order (01, "Comparing and ranking").
use Rattle.std.specs.Prelude.{ℕ, List, [], ◌∷◌, ◌++◌, Bool, true, false, ◌&&◌, ltb, eqb}
use Rattle.refusal.specs.Choice.{pick}
use Rattle.identity.specs.declared.PortIdentity.{PortIdentity}
use Rattle.rank.specs.declared.Grandmaster.{Grandmaster}
use Rattle.rank.specs.declared.Candidate.{Candidate}

-- "Identities are ten octets, clock then port."
abbrev pub identity_of : PortIdentity → List ℕ
identity_of i = i.clock ∷ i.port ∷ []

-- "priority1, class, accuracy, variance, priority2, grandmasterIdentity"
abbrev pub grade_of : Grandmaster → List ℕ
grade_of g = g.priority1 ∷ g.class ∷ g.accuracy ∷ g.variance ∷ g.priority2 ∷ g.identity ∷ []

-- "A candidate .. has ten keys and holds nothing else: .." (the sender is two numbers of the list)
abbrev pub keys_of : Candidate → List ℕ
keys_of c =
    grade_of c.grandmaster
    ++ (c.steps ∷ [])
    ++ identity_of c.sender
    ++ (c.port ∷ [])
    ++ (c.wrflags ∷ [])

-- "lexicographic": at the first number that differs, the lower
abbrev pub lex : List ℕ → List ℕ → Bool
lex [] ys = false
lex (x ∷ xs) [] = false
lex (x ∷ xs) (y ∷ ys) = pick (eqb x y) (lex xs ys) (ltb x y)

-- the same numbers
abbrev pub same : List ℕ → List ℕ → Bool
same [] [] = true
same [] (y ∷ ys) = false
same (x ∷ xs) [] = false
same (x ∷ xs) (y ∷ ys) = eqb x y && same xs ys

-- "Rank order is lexicographic over them."
abbrev pub earlier_of : Candidate → Candidate → Bool
earlier_of a b = lex (keys_of a) (keys_of b)
