-- Ports on cards: each card ranks what its ports hear, and ranked lists are merged upward (01, "Comparing and ranking": "A
-- card ranks the candidates lent to it as a run of records, in any order, with repeats allowed.").
use Rattle.std.specs.Prelude.{ℕ, ◌≤◌, length, Result}
use mathlib.Core.List.{List, ◌++◌, Memᴰ}
use Rattle.refusal.specs.Limits.{port_count}
use Rattle.refusal.specs.declared.Refusal.{Refusal}
use Rattle.rank.specs.declared.Ranked.{Ranked}
use Rattle.rank.specs.Calls.{ranking_of, merge_of, list_of}
use Rattle.election.specs.Elected.{every_port, heard_on}

-- a card by its ports, or two lots of cards together
pub data Cards : Type 0 where
  card : List ℕ → Cards
  join : Cards → Cards → Cards

abbrev pub ports_of : Cards → List ℕ
ports_of (card ps) = ps
ports_of (join l r) = ports_of l ++ ports_of r

-- what comes out at the top
abbrev pub gathered_of : List ℕ → ℕ → Cards → Result Ranked Refusal
gathered_of ws t (card ps) = ranking_of (heard_on ws t ps)
gathered_of ws t (join l r) = merge_of (list_of (gathered_of ws t l)) (list_of (gathered_of ws t r))

-- no card has more ports than the clock, so that none hears more than 288 candidates
abbrev pub FewPorts : Cards → Type 0
FewPorts (card ps) = length ps ≤ port_count
FewPorts (join l r) = FewPorts l × FewPorts r

-- every port is on a card, in any order and on as many as one likes, and nothing else is
pub record Covers (c : Cards) : Type 0 where
  pub small : FewPorts c
  pub every : (p : ℕ) → Memᴰ p every_port → Memᴰ p (ports_of c)
  pub only : (p : ℕ) → Memᴰ p (ports_of c) → Memᴰ p every_port
