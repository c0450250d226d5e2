-- The comparison of data sets (01, "Comparing and ranking": IEEE 1588-2008, figures 27 and 28).
use Rattle.std.specs.Prelude.{ℕ, ◌+◌, List, [], ◌∷◌, ◌++◌, ltb, leb, eqb}
use Rattle.refusal.specs.Choice.{pick}
use Rattle.rank.specs.Order.{identity_of, grade_of, lex}
use Rattle.decide.specs.declared.DataSet.{DataSet}
use Rattle.decide.specs.declared.Comparison.{Comparison}
use Rattle.decide.specs.declared.Comparison.TheVariants.{ABetter, BBetter, ABetterByTopology, BBetterByTopology, Error1, Error2}

-- the answer with A and B changing places
abbrev pub mirror_of : Comparison → Comparison
mirror_of ABetter = BBetter
mirror_of BBetter = ABetter
mirror_of ABetterByTopology = BBetterByTopology
mirror_of BBetterByTopology = ABetterByTopology
mirror_of Error1 = Error1
mirror_of Error2 = Error2

-- "Different grandmasters: priority1, class, accuracy, variance, priority2, grandmasterIdentity; lower wins."
unfoldable pub different_of : DataSet → DataSet → Comparison
different_of a b = pick (lex (grade_of a.grandmaster) (grade_of b.grandmaster)) ABetter BBetter

-- "with R and S the receiver and sender of the set with more steps, "better" if R < S, "by topology" if R > S, error-1 if equal"
abbrev pub by_one_of : List ℕ → List ℕ → Comparison
by_one_of r s = pick (lex r s) ABetter (pick (lex s r) ABetterByTopology Error1)

-- A has fewer steps: "steps differing by two or more, lower wins. Differing by one: lower wins; .."
unfoldable pub fewer_of : DataSet → DataSet → Comparison
fewer_of a b = pick (leb (a.steps + 2) b.steps) ABetter (by_one_of (identity_of b.receiver) (identity_of b.sender))

-- "Equal steps: lower sender, then lower receiver port number, wins by topology; else error-2."
unfoldable pub even_of : DataSet → DataSet → Comparison
even_of a b =
    pick (lex (identity_of a.sender) (identity_of b.sender)) ABetterByTopology
    (pick (lex (identity_of b.sender) (identity_of a.sender)) BBetterByTopology
    (pick (ltb a.receiver.port b.receiver.port) ABetterByTopology
    (pick (ltb b.receiver.port a.receiver.port) BBetterByTopology
    Error2)))

-- "Same grandmaster: .."
unfoldable pub same_of : DataSet → DataSet → Comparison
same_of a b =
    pick (ltb a.steps b.steps) (fewer_of a b)
    (pick (ltb b.steps a.steps) (mirror_of (fewer_of b a))
    (even_of a b))

-- "The comparison is that of IEEE 1588-2008, figures 27 and 28, with six answers"
unfoldable pub compare_of : DataSet → DataSet → Comparison
compare_of a b = pick (eqb a.grandmaster.identity b.grandmaster.identity) (same_of a b) (different_of a b)

-- the first nine keys of rank order, in a data set
abbrev pub nine_of : DataSet → List ℕ
nine_of a = grade_of a.grandmaster ++ (a.steps ∷ []) ++ identity_of a.sender ++ (a.receiver.port ∷ [])
