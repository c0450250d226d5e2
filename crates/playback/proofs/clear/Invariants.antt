-- The loop's invariant says that the ports that were passed are cleared, and the others as they were.
use Prim.Native.Nat.{◌*◌}
use mathlib.Core.Path.{◌≡◌}
use lib.ListN.{length}
use Rattle.playback.proofs.Cleared.{Clearing}
use Rattle.playback.proofs.clear.Given as goal

abbrev pub invariant-loop-port : goal.invariant-loop-port
invariant-loop-port l = (length l.words ≡ 1764) × Clearing l.initial.words l.words (98 * l.port)
