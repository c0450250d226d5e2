-- `write` meets its contract. The invariant: the octets of the ports passed are written.
use Prim.Native.Nat.{◌-◌}
use lib.ListN.{get_or}
use Rattle.election.specs.Places.{top_of, octet_by}
use Rattle.election.proofs.Filling.{Written}
use Rattle.election.proofs.write.Given as goal

abbrev pub invariant-loop-p : goal.invariant-loop-p
invariant-loop-p l = Written (λ k. octet_by l.words l.own l.lead (top_of l.top) k (get_or l.places (k - 1) 0)) l.out l.p
