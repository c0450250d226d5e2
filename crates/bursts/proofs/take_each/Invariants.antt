-- `take_each` meets its contract. The invariant: what is left gives, after what was taken, all that the burst gives.
use Rattle.bursts.proofs.Underway.{Underway}
use Rattle.bursts.proofs.take_each.Given as goal

abbrev pub invariant-loop-m : goal.invariant-loop-m
invariant-loop-m l = Underway l.set l.octets l.initial.words l.initial.burst l.words l.burst l.m-index
