-- `late` meets its contract: what is left of the ports has a late one exactly when all of them do.
use Prim.Native.Nat.{◌-◌, ◌≤◌}
use mathlib.Core.Path.{◌≡◌}
use lib.ListN.{drop}
use Rattle.election.specs.Elected.{every_port, any_late}
use Rattle.election.proofs.late.Given as goal

abbrev pub invariant-loop-p : goal.invariant-loop-p
invariant-loop-p l = (1 ≤ l.p) × (l.p ≤ 19) × (any_late l.words l.t (drop (l.p - 1) every_port) ≡ any_late l.words l.t every_port)
