-- `copy_parts` meets its contract: the first k parts are copied.
use Rattle.std.proofs.Common.{◌≡◌, ◌*◌, take}
use Rattle.stores.specs.Stores.{over}
use Rattle.stores.proofs.copy_parts.Given as goal

abbrev pub invariant-loop-k : goal.invariant-loop-k
invariant-loop-k g l = l.dst ≡ over l.initial.dst l.at (take (l.k * g.row.N) l.src)
