-- `own` meets its contract: the words are eighteen arrays of 98, one behind the other.
use native.Mathlib.Omega.{arith}
use mathlib.Core.Path.{◌∙◌, ap}
use mathlib.Core.List.{List, []}
use Prim.Native.Nat.{ℕ, ◌-◌, ◌/◌}
use lib.ListN.{length, get_or}
use Rattle.slots.proofs.Laws.{chunk_at}
use Rattle.ports.proofs.Laws.{port_bounds}
use Rattle.ports.proofs.own.Goals as goal

pub returns : goal.returns
returns c =
    let g = c.args in
    let i = g.port - 1 in
    let b = port_bounds g.port c.requires in
    ap (λ (l : List (List ℕ)). get_or l i []) c.as_chunks.ensures.front
    ∙ chunk_at 98 (length g.words.now / 98) i g.words.now (omega (arith, b.0, b.1, c.told-words))
