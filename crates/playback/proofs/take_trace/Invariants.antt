-- The loop's invariant says that the blocks that are left are laid out right, and give, after those that were taken, all that the trace gives.
use mathlib.Core.Path.{◌≡◌}
use Rattle.std.specs.Slice.Iter.{chunks_rest, chunks_size}
use Rattle.block.specs.Layout.{block_octets}
use Rattle.ports.specs.History.{run}
use Rattle.playback.specs.Playback.{calls_of, blocks_in, entries_of_all}
use Rattle.playback.proofs.Blocks.{AllLaid}
use Rattle.playback.proofs.take_trace.Given as goal

abbrev pub invariant-loop-s : goal.invariant-loop-s
invariant-loop-s l =
    (chunks_size l.s-iterator ≡ block_octets)
    × AllLaid (blocks_in (chunks_rest l.s-iterator))
    × (run l.words (calls_of l.set (entries_of_all (blocks_in (chunks_rest l.s-iterator)))) ≡ run l.initial.words (calls_of l.set (entries_of_all (blocks_in l.trace))))
