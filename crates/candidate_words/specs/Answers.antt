-- What sender records, ranking and deciding answer: the number returned, and the words at exit, which a refusal leaves as they
-- were (01, "Numbers that refuse": "A refusal returns its number alone. State, output buffers and input stay as they were.").
use Rattle.std.specs.Prelude.{ℤ, ℕ, List, [], ◌∷◌, Option, Some, None, Result, Ok, Err}
use Rattle.std.specs.Int.{w64}
use Rattle.std.proofs.Common.{of_z}
use Rattle.refusal.specs.Refusal.{number_of}
use Rattle.rank.specs.declared.Ranked.{Ranked}
use Rattle.senders.specs.declared.Record.{Record}
pub use Rattle.decide.specs.When.{decided_code}
use Rattle.decide.specs.declared.Comparison.{Comparison}
use Rattle.decide.specs.declared.Comparison.TheVariants.{ABetter, BBetter, ABetterByTopology, BBetterByTopology, Error1, Error2}
use Rattle.election.specs.Decisions.{code_of}
use Rattle.candidate_words.specs.Candidates.{found_words, ranked_words}
use Rattle.rank.specs.declared.Candidate.{Candidate}
use Rattle.decide.specs.declared.Decision.{Decision}
use Rattle.refusal.specs.declared.Refusal.{Refusal}

-- a port's last accepted time and its interval's exponent
abbrev pub status_code : Result (ℕ × ℤ) Refusal → ℕ
status_code (Err x) = number_of x
status_code (Ok (last, k)) = 0

abbrev pub status_words : Result (ℕ × ℤ) Refusal → List ℕ → List ℕ
status_words (Err x) out = out
status_words (Ok (last, k)) out = last ∷ of_z w64 k ∷ []

-- a record: 1, its sender, sequenceId, how many receipts, the newest and the older, then the keys of a candidate
abbrev pub record_words : Record → List ℕ
record_words r =
    1
    ∷ r.notice.sender.clock
    ∷ r.notice.sender.port
    ∷ r.notice.sequence
    ∷ r.receipts
    ∷ r.newest
    ∷ r.older
    ∷ r.notice.grandmaster.priority1
    ∷ r.notice.grandmaster.class
    ∷ r.notice.grandmaster.accuracy
    ∷ r.notice.grandmaster.variance
    ∷ r.notice.grandmaster.priority2
    ∷ r.notice.grandmaster.identity
    ∷ r.notice.steps
    ∷ r.notice.wrflags
    ∷ []

-- zeros where the slot never held a record
abbrev pub seen_words : Option Record → List ℕ
seen_words None = 0 ∷ 0 ∷ 0 ∷ 0 ∷ 0 ∷ 0 ∷ 0 ∷ 0 ∷ 0 ∷ 0 ∷ 0 ∷ 0 ∷ 0 ∷ 0 ∷ 0 ∷ []
seen_words (Some r) = record_words r

abbrev pub looked_code : Result (Option Record) Refusal → ℕ
looked_code (Err x) = number_of x
looked_code (Ok s) = 0

abbrev pub looked_words : Result (Option Record) Refusal → List ℕ → List ℕ
looked_words (Err x) out = out
looked_words (Ok s) out = seen_words s

-- a ranked list: a count and four candidates
abbrev pub ranking_words : Result Ranked Refusal → List ℕ → List ℕ
ranking_words (Ok list) out = ranked_words list
ranking_words (Err x) out = out

-- a decision by its number
abbrev pub decided_words : Result Decision Refusal → List ℕ → List ℕ
decided_words (Ok d) out = code_of d ∷ []
decided_words (Err x) out = out

-- whom the clock follows: the parent, zeros where our own clock leads
abbrev pub leader_code : Result (Option Candidate) Refusal → ℕ
leader_code (Err x) = number_of x
leader_code (Ok None) = 0
leader_code (Ok (Some c)) = 0

abbrev pub leader_words : Result (Option Candidate) Refusal → List ℕ → List ℕ
leader_words (Err x) out = out
leader_words (Ok None) out = 0 ∷ 0 ∷ 0 ∷ 0 ∷ 0 ∷ 0 ∷ 0 ∷ 0 ∷ 0 ∷ 0 ∷ 0 ∷ 0 ∷ []
leader_words (Ok (Some c)) out = found_words c

-- the numbers of a comparison's answers
abbrev pub comparison_number : Comparison → ℕ
comparison_number ABetter = 1
comparison_number BBetter = 2
comparison_number ABetterByTopology = 3
comparison_number BBetterByTopology = 4
comparison_number Error1 = 5
comparison_number Error2 = 6
