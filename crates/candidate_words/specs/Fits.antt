-- Words that their fields can hold, and what a call answers where they are not: "a value to write doesn't fit its field" is 18, here for every value
-- that is handed over in words. Its own refusals come first, in 01's order.
use Rattle.std.specs.Prelude.{ℕ, ◌+◌, ◌*◌, Bool, true, false, ◌&&◌, ◌||◌, List, [], ◌∷◌, eqb, leb, ltb, get_or, Option, Some, None, Result, Ok, Err}
use Rattle.refusal.specs.declared.Refusal.TheVariants.{Field}
use Rattle.rank.specs.declared.Ranked.{Ranked}
use Rattle.rank.specs.declared.Candidate.{Candidate}
use Rattle.decide.specs.declared.Decision.{Decision}
use Rattle.refusal.specs.declared.Refusal.{Refusal}

-- priority1, class, accuracy, variance, priority2; any word is an identity
abbrev pub grandmaster_fits : List ℕ → ℕ → Bool
grandmaster_fits w b =
    (((ltb (get_or w b 0) 256 && ltb (get_or w (b + 1) 0) 256) && ltb (get_or w (b + 2) 0) 256) && ltb (get_or w (b + 3) 0) 65536) && ltb (get_or w (b + 4) 0) 256

-- the quality fields, stepsRemoved, the sender's port, wrFlags
abbrev pub candidate_fits : List ℕ → ℕ → Bool
candidate_fits w b =
    ((grandmaster_fits w b && ltb (get_or w (b + 6) 0) 65536) && ltb (get_or w (b + 8) 0) 65536) && ltb (get_or w (b + 10) 0) 65536

-- slot i of a list; those past the count say nothing
abbrev pub slot_fits : List ℕ → ℕ → Bool
slot_fits w i = leb (get_or w 0 0) i || candidate_fits w (1 + 11 * i)

abbrev pub list_fits : List ℕ → Bool
list_fits w = ((slot_fits w 0 && slot_fits w 1) && slot_fits w 2) && slot_fits w 3

-- the quality fields, stepsRemoved, the ports of sender and receiver
abbrev pub set_fits : List ℕ → Bool
set_fits w =
    ((grandmaster_fits w 0 && ltb (get_or w 6 0) 65536) && ltb (get_or w 8 0) 65536) && ltb (get_or w 10 0) 65536

-- a port's best, where there is one
abbrev pub best_fits : List ℕ → Bool
best_fits w = eqb (get_or w 0 0) 0 || candidate_fits w 1

-- every candidate of a run
abbrev pub run_fits : List (List ℕ) → Bool
run_fits [] = true
run_fits (w ∷ ws) = candidate_fits w 0 && run_fits ws

-- 18 where the words do not fit, unless the call itself refuses
abbrev pub outcome_fitted : Bool → Result (Unit {0}) Refusal → Result (Unit {0}) Refusal
outcome_fitted true x = x
outcome_fitted false (Ok tt) = Err Field
outcome_fitted false (Err x) = Err x

abbrev pub ranking_fitted : Bool → Result Ranked Refusal → Result Ranked Refusal
ranking_fitted true x = x
ranking_fitted false (Ok r) = Err Field
ranking_fitted false (Err x) = Err x

abbrev pub answer_fitted : Bool → Result Decision Refusal → Result Decision Refusal
answer_fitted true x = x
answer_fitted false (Ok d) = Err Field
answer_fitted false (Err x) = Err x

abbrev pub leader_fitted : Bool → Result (Option Candidate) Refusal → Result (Option Candidate) Refusal
leader_fitted true x = x
leader_fitted false (Ok None) = Err Field
leader_fitted false (Ok (Some c)) = Err Field
leader_fitted false (Err x) = Err x
