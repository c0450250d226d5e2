-- What only the code needs, and no rule of 01: candidates ranked where they lie, as places in a run of words.
use Rattle.std.specs.Prelude.{ℕ, ◌+◌, ◌<◌, ◌≤◌, ◌≡◌, Bool, true, false, ◌&&◌, ◌||◌, List, [], ◌∷◌, ◌++◌, map, eqb, leb, ltb, length, get_or, Result, Ok}
use Rattle.std.proofs.Math.Seq.{slice}
use Rattle.refusal.specs.Choice.{pick}
use Rattle.rank.specs.declared.Candidate.{Candidate}
use Rattle.rank.specs.declared.Ranked.{Ranked}
use Rattle.rank.specs.Order.{lex}
use Rattle.rank.specs.Ranked.{is_port, in_rank, rank_of, pack}
use Rattle.rank.specs.Calls.{ranking_of, merge_of, outcome_of}
use Rattle.candidate_words.specs.declared.places.Places.{Places}
use Rattle.candidate_words.specs.Candidates.{candidate_at, ranked_of, ranked_words}
use Rattle.candidate_words.specs.Fits.{candidate_fits, list_fits, run_fits, outcome_fitted, ranking_fitted}
use Rattle.candidate_words.specs.Answers.{ranking_words}
use Rattle.candidate_words.specs.Runs.{run_of}
use Rattle.refusal.specs.declared.Refusal.{Refusal}

-- the eleven words from b on, as they stand
abbrev pub words_at : List ℕ → ℕ → List ℕ
words_at w b =
    get_or w b 0
    ∷ get_or w (b + 1) 0
    ∷ get_or w (b + 2) 0
    ∷ get_or w (b + 3) 0
    ∷ get_or w (b + 4) 0
    ∷ get_or w (b + 5) 0
    ∷ get_or w (b + 6) 0
    ∷ get_or w (b + 7) 0
    ∷ get_or w (b + 8) 0
    ∷ get_or w (b + 9) 0
    ∷ get_or w (b + 10) 0
    ∷ []

-- the words of one candidate come before those of another
unfoldable pub lower_of : List ℕ → List ℕ → Bool
lower_of a b = lex (words_at a 0) (words_at b 0)

-- the candidate at a place
unfoldable pub candidate_of : List (List ℕ) → ℕ → Candidate
candidate_of run i = candidate_at (get_or run i []) 0

-- the list that places stand for
abbrev pub list_of : List (List ℕ) → Places → Ranked
list_of run p = record { len = p.len; slots = map (candidate_of run) p.at }

-- a place with a valid candidate whose words fit: it is read as no other than it is
pub record Fit (run : List (List ℕ)) (i : ℕ) : Type 0 where
  pub inside : i < length run
  pub valid : is_port (candidate_of run i).port ≡ true
  pub fits : candidate_fits (get_or run i []) 0 ≡ true

-- four places at most, all of them such
pub record Inside (run : List (List ℕ)) (p : Places) : Type 0 where
  pub few : p.len ≤ 4
  pub size : length p.at ≡ 4
  pub each : (k : ℕ) → k < p.len → Fit run (get_or p.at k 0)

-- the words at place k of four, zeros where it is not used
unfoldable pub row_of : List (List ℕ) → Places → ℕ → List ℕ
row_of run p k = pick (ltb k p.len) (get_or run (get_or p.at k 0) []) (0 ∷ 0 ∷ 0 ∷ 0 ∷ 0 ∷ 0 ∷ 0 ∷ 0 ∷ 0 ∷ 0 ∷ 0 ∷ [])

-- what ranking a run answers before anything is ranked: 17, 8, then 18
abbrev pub checked_of : List (List ℕ) → Result (Unit {0}) Refusal
checked_of run = outcome_fitted (run_fits run) (outcome_of (ranking_of (run_of run)))

-- two lists as a run of eight candidates
unfoldable pub eight_of : List ℕ → List ℕ → List (List ℕ)
eight_of a b =
    words_at a 1
    ∷ words_at a 12
    ∷ words_at a 23
    ∷ words_at a 34
    ∷ words_at b 1
    ∷ words_at b 12
    ∷ words_at b 23
    ∷ words_at b 34
    ∷ []

-- n places are those from `from` on, in their order
unfoldable pub unmoved_of : Places → ℕ → ℕ → Bool
unmoved_of p from n =
    (((eqb p.len n && (leb n 0 || eqb (get_or p.at 0 0) from)) && (leb n 1 || eqb (get_or p.at 1 0) (from + 1))) && (leb n 2 || eqb (get_or p.at 2 0) (from + 2))) && (leb n 3 || eqb (get_or p.at 3 0) (from + 3))

-- the candidates from `from` up to `to` fit and are a ranked list
pub record Stands (run : List (List ℕ)) (from to : ℕ) : Type 0 where
  pub each : (i : ℕ) → from ≤ i → i < to → Fit run i
  pub ranked : in_rank (slice from to (run_of run)) ≡ true

-- two lists merged in place: nothing is done where it is not told that it is
pub record Tried (run : List (List ℕ)) (n m : ℕ) (done : Bool) (before after : List ℕ) : Type 0 where
  pub left : done ≡ false → after ≡ before
  pub first : done ≡ true → Stands run 0 n
  pub second : done ≡ true → Stands run 4 (4 + m)
  pub words : done ≡ true → after ≡ ranked_words (pack (rank_of (slice 0 n (run_of run) ++ slice 4 (4 + m) (run_of run))))

-- what merging two lists answers: 15, then 18
abbrev pub merged_of : List ℕ → List ℕ → Result Ranked Refusal
merged_of a b = ranking_fitted (list_fits a && list_fits b) (merge_of (ranked_of a) (ranked_of b))

pub record Merged (a b : List ℕ) (done : Bool) (before after : List ℕ) : Type 0 where
  pub left : done ≡ false → after ≡ before
  pub outcome : done ≡ true → outcome_of (merged_of a b) ≡ Ok tt
  pub words : done ≡ true → after ≡ ranking_words (merged_of a b) before
