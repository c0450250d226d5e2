-- `fill` meets its contract: the loop's invariant says that there is room for what is left, and that it makes, behind what was stored, all of the trace.
use Prim.Native.Nat.{◌+◌, ◌-◌, ◌≤◌}
use mathlib.Core.Path.{◌≡◌}
use lib.ListN.{length}
use Rattle.stores.specs.Stores.{over}
use Rattle.pcap.specs.File.{frames_in}
use Rattle.importing.specs.Importing.{taken_of, trace_by}
use Rattle.importing.proofs.Tapes.{remains}
use Rattle.importing.proofs.Walk.{SoundFrom, frames_from}
use Rattle.importing.proofs.fill.Given as goal

abbrev pub invariant-loop-at : goal.invariant-loop-at
invariant-loop-at l = (l.at ≤ length l.file) × SoundFrom l.form l.file l.at
    × (l.to + length (remains l.opened l.words (taken_of l.port (frames_from l.form l.file l.at))) ≤ length l.out)
    × (length l.out ≡ length l.initial.out)
    × (over l.out l.to (remains l.opened l.words (taken_of l.port (frames_from l.form l.file l.at))) ≡ over l.initial.out 0 (trace_by (taken_of l.port (frames_in l.form l.file))))

abbrev pub decreases-loop-at : goal.decreases-loop-at
decreases-loop-at l = length l.file - l.at
