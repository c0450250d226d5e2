-- Every port's decision, and the clock's parent (01, "Comparing and ranking": "Decisions, with Ebest first in the ranked
-- list and Erbest a port's best").
use Rattle.std.specs.Prelude.{ℕ, suc, List, [], ◌∷◌, Bool, not, ◌&&◌, ◌||◌, leb, Option, Some, None, Result, Ok, Err}
use Rattle.refusal.specs.Limits.{port_count}
use Rattle.refusal.specs.Choice.{pick, refuse}
use Rattle.refusal.specs.declared.Refusal.TheVariants.{Unranked}
use Rattle.rank.specs.declared.Grandmaster.{Grandmaster}
use Rattle.rank.specs.declared.Candidate.{Candidate}
use Rattle.rank.specs.declared.Ranked.{Ranked}
use Rattle.rank.specs.Ranked.{rank_of, unpack, is_ranked}
use Rattle.senders.specs.Port.{tab, best_of}
use Rattle.ports.specs.Words.{port_at}
use Rattle.decide.specs.declared.Decision.{Decision}
use Rattle.decide.specs.declared.Decision.TheVariants.{M1, M2, M3, P1, P2, S1, S2}
use Rattle.decide.specs.Deciding.{own_beats, decision_of}
use Rattle.election.specs.Elected.{every_port, any_late, heard_on}
use Rattle.refusal.specs.declared.Refusal.{Refusal}

-- a decision's number
abbrev pub code_of : Decision → ℕ
code_of M1 = 1
code_of M2 = 2
code_of M3 = 3
code_of S1 = 4
code_of S2 = 5
code_of P1 = 6
code_of P2 = 7

-- "Erbest a port's best"
abbrev pub erbest_of : Result (Option Candidate) Refusal → Option Candidate
erbest_of (Err x) = None
erbest_of (Ok None) = None
erbest_of (Ok (Some c)) = Some c

-- the ranked list of all ports' candidates at t
abbrev pub list_at : List ℕ → ℕ → List Candidate
list_at ws t = rank_of (heard_on ws t every_port)

-- the decision of port p at t: by that list, and the best of the port's candidates
unfoldable pub decision_at : Grandmaster → List ℕ → ℕ → ℕ → Decision
decision_at own ws t p = decision_of own (list_at ws t) p (erbest_of (best_of p (port_at ws p) t))

-- each port's number, port 1 first
abbrev pub octets_at : Grandmaster → List ℕ → ℕ → List ℕ
octets_at own ws t = tab port_count (λ i. code_of (decision_at own ws t (suc i)))

-- "State, output buffers and input stay as they were.", or every port's number
abbrev pub out_after : Grandmaster → List ℕ → ℕ → List ℕ → List ℕ
out_after own ws t out = pick (any_late ws t every_port) out (octets_at own ws t)

-- our own clock leads: our class is 1 to 127, or our set beats Ebest
unfoldable pub leads : Grandmaster → Candidate → Bool
leads own e = (leb 1 own.class && leb own.class 127) || own_beats own e e.port

-- the parent: Ebest, unless there is none or our own clock leads; its backups are the rest of the list
abbrev pub parent_by : Grandmaster → List Candidate → Result (Option Candidate) Refusal
parent_by own [] = Ok None
parent_by own (e ∷ l) = pick (leads own e) (Ok None) (Ok (Some e))

abbrev pub backups_of : List Candidate → List Candidate
backups_of [] = []
backups_of (e ∷ l) = l

-- "UNRANKED: a list to .. decide by is not a ranked list"
abbrev pub parent_of : Grandmaster → Ranked → Result (Option Candidate) Refusal
parent_of own list = refuse (not (is_ranked list)) (Err Unranked) (parent_by own (unpack list))

-- by the decision of Ebest's port
abbrev pub followed_by : Decision → Candidate → Result (Option Candidate) Refusal
followed_by M1 e = Ok None
followed_by M2 e = Ok None
followed_by M3 e = Ok None
followed_by S1 e = Ok (Some e)
followed_by S2 e = Ok None
followed_by P1 e = Ok None
followed_by P2 e = Ok None

abbrev pub chosen_by : Result Decision Refusal → Candidate → Result (Option Candidate) Refusal
chosen_by (Ok d) e = followed_by d e
chosen_by (Err x) e = Err x
