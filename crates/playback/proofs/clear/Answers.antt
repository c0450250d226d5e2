-- `clear` meets its contract: all ports are passed.
use Prim.Native.Nat.{◌*◌}
use native.Mathlib.Omega.{arith}
use Rattle.playback.proofs.Cleared.{clearing_all}
use Rattle.playback.proofs.clear.Goals as goal

pub returns : goal.returns
returns c =
    let l = c.loop-port in
    clearing_all c.args.words.now l.words (98 * l.port) l.invariant.1 l.invariant.0 (omega arith)
