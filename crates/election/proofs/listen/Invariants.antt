-- `listen` meets its contract. The invariant: the places of the ports passed are written, and with those of the ports left what is
-- gathered becomes the whole.
use Prim.Native.Nat.{ℕ, ◌-◌, ◌≤◌}
use mathlib.Core.Path.{◌≡◌}
use mathlib.Core.List.{List, []}
use lib.ListN.{drop}
use Rattle.ports.specs.Places.{place_on}
use Rattle.election.specs.declared.Top.{Top}
use Rattle.election.specs.Elected.{every_port}
use Rattle.election.specs.Places.{top_of, gather, Each}
use Rattle.election.proofs.Filling.{Written}
use Rattle.election.proofs.Gathering.{Lower}
use Rattle.election.proofs.listen.Given as goal

-- the ports below p are asked
pub record Heard (ws : List ℕ) (t : ℕ) (places : List ℕ) (top : Top) (p : ℕ) : Type 0 where
  pub filled : Written (λ k. place_on ws k t) places p
  pub whole : gather ws t (top_of top) (drop (p - 1) every_port) ≡ gather ws t [] every_port
  pub few : top.len ≤ 4
  pub lower : Each (Lower p) (top_of top)

abbrev pub invariant-loop-p : goal.invariant-loop-p
invariant-loop-p l = Heard l.words l.t l.places l.top l.p
