-- The ranked list of what some ports hear at a time (01, "Sender records" and "Comparing and ranking").
use Rattle.std.specs.Prelude.{ℕ, suc, List, [], ◌∷◌, ◌++◌, Bool, false, ◌||◌, ltb, Result, Err}
use Rattle.refusal.specs.Limits.{port_count}
use Rattle.refusal.specs.Choice.{refuse}
use Rattle.refusal.specs.declared.Refusal.{Refusal}
use Rattle.refusal.specs.declared.Refusal.TheVariants.{Backward}
use Rattle.rank.specs.declared.Candidate.{Candidate}
use Rattle.rank.specs.declared.Ranked.{Ranked}
use Rattle.rank.specs.Ranked.{rank_of}
use Rattle.rank.specs.Calls.{done_of}
use Rattle.senders.specs.Port.{tab, candidates_of}
use Rattle.ports.specs.Words.{port_at}

-- the ports of the clock, 1 to 18
abbrev pub every_port : List ℕ
every_port = tab port_count suc

-- "time below this port's last accepted time", of one of the ports
unfoldable pub any_late : List ℕ → ℕ → List ℕ → Bool
any_late ws t [] = false
any_late ws t (p ∷ ps) = ltb t (port_at ws p).last || any_late ws t ps

-- the candidates of the ports at t, one port after the other, each port's in slot order
unfoldable pub heard_on : List ℕ → ℕ → List ℕ → List Candidate
heard_on ws t [] = []
heard_on ws t (p ∷ ps) = candidates_of p (port_at ws p) t ++ heard_on ws t ps

-- "Asking for candidates at T .. is refused with .. 11"; else "A ranked list holds the best candidate of each port in a
-- collection of valid candidates, in rank order, cut after four."
unfoldable pub elected_of : List ℕ → ℕ → List ℕ → Result Ranked Refusal
elected_of ws t ps = refuse (any_late ws t ps) (Err Backward) (done_of (rank_of (heard_on ws t ps)))
