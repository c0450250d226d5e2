-- What ranking, merging, deciding and comparing answer to words: the engine's answer to what the words hold, then 18 where a word's field cannot
-- hold it.
use Rattle.std.specs.Prelude.{ℕ, Bool, ◌&&◌, List, [], ◌∷◌, Option, Result, Ok}
use Rattle.refusal.specs.Choice.{pick}
use Rattle.rank.specs.declared.Ranked.{Ranked}
use Rattle.rank.specs.Calls.{merge_of, ranking_of}
use Rattle.decide.specs.Comparing.{compare_of}
use Rattle.decide.specs.Deciding.{decide_of}
use Rattle.election.specs.Elected.{every_port, elected_of}
use Rattle.election.specs.Decisions.{out_after, parent_of}
use Rattle.words.specs.Words.{port_of}
use Rattle.candidate_words.specs.Candidates.{grandmaster_at, ranked_of, set_of, best_of}
use Rattle.candidate_words.specs.Fits.{grandmaster_fits, list_fits, set_fits, best_fits, run_fits, outcome_fitted, ranking_fitted, answer_fitted, leader_fitted}
use Rattle.candidate_words.specs.Runs.{run_of}
use Rattle.candidate_words.specs.Answers.{comparison_number}
use Rattle.rank.specs.declared.Candidate.{Candidate}
use Rattle.decide.specs.declared.Decision.{Decision}
use Rattle.refusal.specs.declared.Refusal.{Refusal}

-- "Ranking: 17, 8.", then 18
abbrev pub ranked_run : List (List ℕ) → Result Ranked Refusal
ranked_run run = ranking_fitted (run_fits run) (ranking_of (run_of run))

-- "Merging: 15.", then 18
abbrev pub merged_lists : List ℕ → List ℕ → Result Ranked Refusal
merged_lists a b = ranking_fitted (list_fits a && list_fits b) (merge_of (ranked_of a) (ranked_of b))

-- the words that a port is decided by
abbrev pub decided_fits : List ℕ → List ℕ → List ℕ → Bool
decided_fits own list best = (grandmaster_fits own 0 && list_fits list) && best_fits best

-- "Deciding: 8, 15.", then 18
abbrev pub decided_by : List ℕ → List ℕ → ℕ → List ℕ → Result Decision Refusal
decided_by own list port best =
    answer_fitted (decided_fits own list best) (decide_of (grandmaster_at own 0) (ranked_of list) (port_of port) (best_of best))

-- every port's: 11, then 18
abbrev pub elected_by : List ℕ → List ℕ → ℕ → Result Ranked Refusal
elected_by own ports t = ranking_fitted (grandmaster_fits own 0) (elected_of ports t every_port)

-- the decisions at exit
abbrev pub decisions_after : List ℕ → List ℕ → ℕ → List ℕ → List ℕ
decisions_after own ports t out = pick (grandmaster_fits own 0) (out_after (grandmaster_at own 0) ports t out) out

-- 15, then 18
abbrev pub parent_in : List ℕ → List ℕ → Result (Option Candidate) Refusal
parent_in own list = leader_fitted (grandmaster_fits own 0 && list_fits list) (parent_of (grandmaster_at own 0) (ranked_of list))

-- the words of two data sets
abbrev pub sets_fit : List ℕ → List ℕ → Bool
sets_fit a b = set_fits a && set_fits b

-- a comparison refuses nothing else
abbrev pub compared_of : List ℕ → List ℕ → Result (Unit {0}) Refusal
compared_of a b = outcome_fitted (sets_fit a b) (Ok tt)

-- its answer's number at exit
abbrev pub compared_after : List ℕ → List ℕ → List ℕ → List ℕ
compared_after a b out = pick (sets_fit a b) (comparison_number (compare_of (set_of a) (set_of b)) ∷ []) out
