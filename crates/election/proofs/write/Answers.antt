-- `write` meets its contract. The invariant: the octets of the ports passed are written.
use Prim.Native.Nat.{suc, ◌-◌}
use mathlib.Core.Path.{◌≡◌, ◌∙◌}
use native.Mathlib.Omega.{arith}
use Rattle.slots.proofs.Laws.{tab_ext}
use Rattle.election.proofs.Filling.{all_written}
use Rattle.election.proofs.write.Goals as goal

pub returns : goal.returns
returns c =
    all_written _ _ _ c.loop-p.invariant (omega arith) ∙ tab_ext 18 _ _ (λ i h. let e : suc i - 1 ≡ i = omega arith in rw e)
