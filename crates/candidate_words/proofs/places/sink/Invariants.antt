-- `sink` meets its contract: what is done to the places is what `rank` does to the slots of the list that they stand for.
use mathlib.Core.List.{map}
use lib.ListN.{take}
use Rattle.rank.specs.Order.{earlier_of}
use Rattle.rank.specs.Best.{sink}
use Rattle.rank.specs.Ranked.{receiver_of}
use Rattle.rank.proofs.Sinking.{Down}
use Rattle.candidate_words.specs.Places.{candidate_of, Fit, Inside}
use Rattle.candidate_words.proofs.places.sink.Given as goal

abbrev pub invariant-loop-i : goal.invariant-loop-i
invariant-loop-i l = Inside l.run (record { len = l.n; at = l.at })
    × Fit l.run l.x
    × Down l.port l.n (sink earlier_of receiver_of l.port (candidate_of l.run l.initial.x) (take l.n (map (candidate_of l.run) l.initial.at))) (map (candidate_of l.run) l.initial.at) (map (candidate_of l.run) l.at) (candidate_of l.run l.x) l.i
