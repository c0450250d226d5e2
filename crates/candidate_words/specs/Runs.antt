-- A run of candidates, eleven words each.
use Rattle.std.specs.Prelude.{ℕ, List, [], ◌∷◌}
use Rattle.rank.specs.declared.Candidate.{Candidate}
use Rattle.candidate_words.specs.Candidates.{candidate_at}

-- each of them
abbrev pub run_of : List (List ℕ) → List Candidate
run_of [] = []
run_of (w ∷ ws) = candidate_at w 0 ∷ run_of ws
