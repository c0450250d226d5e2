-- Our own set, and the decision of a port (01, "Comparing and ranking" and "Numbers that refuse").
use Rattle.std.specs.Prelude.{ℕ, List, [], ◌∷◌, Bool, true, false, not, ◌&&◌, leb, eqb, Option, Some, None, Result, Ok, Err}
use Rattle.refusal.specs.Choice.{pick, refuse}
use Rattle.refusal.specs.declared.Refusal.TheVariants.{Port, Unranked}
use Rattle.rank.specs.declared.Grandmaster.{Grandmaster}
use Rattle.rank.specs.declared.Candidate.{Candidate}
use Rattle.rank.specs.declared.Ranked.{Ranked}
use Rattle.rank.specs.Ranked.{is_port, unpack, holds_of, is_ranked}
use Rattle.decide.specs.declared.DataSet.{DataSet}
use Rattle.decide.specs.declared.Comparison.{Comparison}
use Rattle.decide.specs.declared.Comparison.TheVariants.{ABetter, BBetter, ABetterByTopology, BBetterByTopology, Error1, Error2}
use Rattle.decide.specs.declared.Decision.{Decision}
use Rattle.decide.specs.declared.Decision.TheVariants.{M1, M2, M3, P1, P2, S1, S2}
use Rattle.decide.specs.Comparing.{compare_of}
use Rattle.refusal.specs.declared.Refusal.{Refusal}

-- "Our own set has our clock as grandmaster, steps 0, and our clock with port 0 as sender and receiver."
abbrev pub own_set : Grandmaster → DataSet
own_set own =
    record {
      grandmaster = own;
      steps = 0;
      sender = record { clock = own.identity; port = 0 };
      receiver = record { clock = own.identity; port = 0 };
    }

-- the set of a candidate: its receiver is our clock with the port on which it was received
abbrev pub set_of : Candidate → ℕ → ℕ → DataSet
set_of c clock port =
    record { grandmaster = c.grandmaster; steps = c.steps; sender = c.sender; receiver = record { clock = clock; port = port } }

-- ""Beats" is better or better by topology; .. an error beats nothing."
abbrev pub beats_of : Comparison → Bool
beats_of ABetter = true
beats_of BBetter = false
beats_of ABetterByTopology = true
beats_of BBetterByTopology = false
beats_of Error1 = false
beats_of Error2 = false

-- "better by topology"
abbrev pub by_topology : Comparison → Bool
by_topology ABetter = false
by_topology BBetter = false
by_topology ABetterByTopology = true
by_topology BBetterByTopology = false
by_topology Error1 = false
by_topology Error2 = false

-- our set beats a candidate
unfoldable pub own_beats : Grandmaster → Candidate → ℕ → Bool
own_beats own c port = beats_of (compare_of (own_set own) (set_of c own.identity port))

-- "Erbest a port's best (its receiver port isn't read; the port asked for stands in)"; "anything beats an absent Erbest"
abbrev pub beats_erbest : Grandmaster → ℕ → Option Candidate → Bool
beats_erbest own port None = true
beats_erbest own port (Some c) = own_beats own c port

-- "Ebest is better by topology than Erbest"; an absent one is beaten "not by topology"
unfoldable pub nearer_of : Candidate → ℕ → ℕ → Option Candidate → Bool
nearer_of e clock port None = false
nearer_of e clock port (Some c) = by_topology (compare_of (set_of e clock e.port) (set_of c clock port))

-- ".. our set beats it [M2]; S1 on Ebest's port; elsewhere, if Ebest is better by topology than Erbest, S2 for ports in the
-- ranked list, P2 for the rest; else M3."
abbrev pub otherwise_of : Grandmaster → Candidate → List Candidate → ℕ → Option Candidate → Decision
otherwise_of own e l port best =
    pick (own_beats own e e.port) M2
    (pick (eqb e.port port) S1
    (pick (nearer_of e own.identity port best) (pick (holds_of port l) S2 P2) M3))

-- "with Ebest first in the ranked list": "M2 if there is no Ebest"
abbrev pub by_list_of : Grandmaster → List Candidate → ℕ → Option Candidate → Decision
by_list_of own [] port best = M2
by_list_of own (e ∷ l) port best = otherwise_of own e (e ∷ l) port best

-- "Own class 1 to 127: M1 if our set beats Erbest, else P1. Otherwise .."
abbrev pub decision_of : Grandmaster → List Candidate → ℕ → Option Candidate → Decision
decision_of own l port best =
    pick (leb 1 own.class && leb own.class 127) (pick (beats_erbest own port best) M1 P1) (by_list_of own l port best)

-- "Deciding: 8, 15."
abbrev pub decide_of : Grandmaster → Ranked → ℕ → Option Candidate → Result Decision Refusal
decide_of own list port best =
    refuse (not (is_port port)) (Err Port)
    (refuse (not (is_ranked list)) (Err Unranked)
    (Ok (decision_of own (unpack list) port best)))
