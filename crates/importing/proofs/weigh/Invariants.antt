-- `weigh` meets its contract: the loop's invariant says that the frames that are left, behind the words of those before them, come to what all come to.
use Prim.Native.Nat.{◌-◌, ◌≤◌}
use mathlib.Core.Path.{◌≡◌}
use lib.ListN.{length}
use Rattle.pcap.specs.File.{frames_in}
use Rattle.importing.specs.Importing.{weight_of}
use Rattle.importing.proofs.Frames.{weight_from}
use Rattle.importing.proofs.Walk.{SoundFrom, frames_from}
use Rattle.importing.proofs.weigh.Given as goal

abbrev pub invariant-loop-at : goal.invariant-loop-at
invariant-loop-at l = (l.at ≤ length l.file) × SoundFrom l.form l.file l.at × (weight_from l.words l.port (frames_from l.form l.file l.at) ≡ weight_of l.port (frames_in l.form l.file))

abbrev pub decreases-loop-at : goal.decreases-loop-at
decreases-loop-at l = length l.file - l.at
