-- `sink` meets its contract: the slots gone through, then what comes of sinking the one that goes on into the others,
-- is what comes of sinking the candidate into the list.
use lib.ListN.{take}
use Rattle.rank.specs.Order.{earlier_of}
use Rattle.rank.specs.Best.{sink}
use Rattle.rank.specs.Ranked.{receiver_of}
use Rattle.rank.proofs.Sinking.{Down}
use Rattle.rank.proofs.sink.Given as goal

abbrev pub invariant-loop-i : goal.invariant-loop-i
invariant-loop-i l = Down l.p l.n (sink earlier_of receiver_of l.p l.initial.x (take l.n l.initial.slots)) l.initial.slots l.slots l.x l.i
