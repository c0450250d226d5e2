-- The loop's invariant says that the records that are left give, after those that were taken, all that the block gives.
use mathlib.Core.Path.{◌≡◌}
use Rattle.block.specs.Layout.{entries_of}
use Rattle.ports.specs.History.{run}
use Rattle.playback.specs.Playback.{calls_of}
use Rattle.playback.proofs.take_all.Given as goal

abbrev pub invariant-loop-r : goal.invariant-loop-r
invariant-loop-r l =
    (goal.iterator-loop-r).can_next l.r-iterator × (goal.iterator-loop-r).is_finite l.r-iterator
    × (run l.words (calls_of l.set l.r-iterator) ≡ run l.initial.words (calls_of l.set (entries_of l.s)))
