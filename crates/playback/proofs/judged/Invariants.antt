-- The loop's invariant says that the blocks that are left, behind those that were read, give what all blocks give.
use mathlib.Core.Path.{◌≡◌}
use Rattle.std.specs.Slice.Iter.{chunks_rest, chunks_size}
use Rattle.block.specs.Layout.{block_octets}
use Rattle.playback.specs.Playback.{blocks_in, replay_of}
use Rattle.playback.proofs.Blocks.{replay_by}
use Rattle.playback.proofs.judged.Given as goal

abbrev pub invariant-loop-b : goal.invariant-loop-b
invariant-loop-b l =
    (chunks_size l.b-iterator ≡ block_octets)
    × (replay_by l.read (blocks_in (chunks_rest l.b-iterator)) ≡ replay_of l.trace)
