-- Candidates, ranked lists and data sets in words. A number that is read is taken modulo the width of its field; Fits tells whether it is the
-- number that stands there. A port's word is never taken modulo anything.
use Rattle.std.specs.Prelude.{ℕ, ◌+◌, ◌%◌, List, [], ◌∷◌, ◌++◌, eqb, get_or, Option, Some, None, Result, Ok, Err}
use Rattle.refusal.specs.Choice.{pick}
use Rattle.refusal.specs.Refusal.{number_of}
use Rattle.words.specs.Words.{port_of}
use Rattle.identity.specs.declared.PortIdentity.{PortIdentity}
use Rattle.rank.specs.declared.Grandmaster.{Grandmaster}
use Rattle.rank.specs.declared.Candidate.{Candidate}
use Rattle.rank.specs.declared.Ranked.{Ranked}
use Rattle.rank.specs.Ranked.{blank_of}
use Rattle.decide.specs.declared.DataSet.{DataSet}
use Rattle.refusal.specs.declared.Refusal.{Refusal}

-- priority1, class, accuracy, variance, priority2, grandmasterIdentity
abbrev pub grandmaster_at : List ℕ → ℕ → Grandmaster
grandmaster_at w b =
    record {
      priority1 = get_or w b 0 % 256;
      class = get_or w (b + 1) 0 % 256;
      accuracy = get_or w (b + 2) 0 % 256;
      variance = get_or w (b + 3) 0 % 65536;
      priority2 = get_or w (b + 4) 0 % 256;
      identity = get_or w (b + 5) 0;
    }

-- clock, port
abbrev pub identity_at : List ℕ → ℕ → PortIdentity
identity_at w b = record { clock = get_or w b 0; port = get_or w (b + 1) 0 % 65536 }

-- a grandmaster, stepsRemoved, the sender, the receiver port, wrFlags
abbrev pub candidate_at : List ℕ → ℕ → Candidate
candidate_at w b =
    record {
      grandmaster = grandmaster_at w b;
      steps = get_or w (b + 6) 0 % 65536;
      sender = identity_at w (b + 7);
      port = port_of (get_or w (b + 9) 0);
      wrflags = get_or w (b + 10) 0 % 65536;
    }

-- a count, then four candidates
abbrev pub ranked_of : List ℕ → Ranked
ranked_of w =
    record { len = get_or w 0 0; slots = candidate_at w 1 ∷ candidate_at w 12 ∷ candidate_at w 23 ∷ candidate_at w 34 ∷ [] }

-- a grandmaster, stepsRemoved, the sender, the receiver
abbrev pub set_of : List ℕ → DataSet
set_of w =
    record { grandmaster = grandmaster_at w 0; steps = get_or w 6 0 % 65536; sender = identity_at w 7; receiver = identity_at w 9 }

-- 0 where there is none; a candidate
abbrev pub best_of : List ℕ → Option Candidate
best_of w = pick (eqb (get_or w 0 0) 0) None (Some (candidate_at w 1))

abbrev pub candidate_words : Candidate → List ℕ
candidate_words c =
    c.grandmaster.priority1
    ∷ c.grandmaster.class
    ∷ c.grandmaster.accuracy
    ∷ c.grandmaster.variance
    ∷ c.grandmaster.priority2
    ∷ c.grandmaster.identity
    ∷ c.steps
    ∷ c.sender.clock
    ∷ c.sender.port
    ∷ c.port
    ∷ c.wrflags
    ∷ []

abbrev pub found_words : Candidate → List ℕ
found_words c = 1 ∷ candidate_words c

abbrev pub slot_words : Ranked → ℕ → List ℕ
slot_words r i = candidate_words (get_or r.slots i blank_of)

abbrev pub ranked_words : Ranked → List ℕ
ranked_words r = r.len ∷ (slot_words r 0 ++ (slot_words r 1 ++ (slot_words r 2 ++ slot_words r 3)))

-- what asking for a candidate gives: the number returned, and the twelve words at exit
abbrev pub asked_code : Result (Option Candidate) Refusal → ℕ
asked_code (Err x) = number_of x
asked_code (Ok None) = 0
asked_code (Ok (Some c)) = 0

abbrev pub asked_words : Result (Option Candidate) Refusal → List ℕ → List ℕ
asked_words (Err x) out = out
asked_words (Ok None) out = 0 ∷ 0 ∷ 0 ∷ 0 ∷ 0 ∷ 0 ∷ 0 ∷ 0 ∷ 0 ∷ 0 ∷ 0 ∷ 0 ∷ []
asked_words (Ok (Some c)) out = found_words c
