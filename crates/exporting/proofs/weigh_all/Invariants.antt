-- The loop's invariant says that the blocks that are left are laid out right, and that they weigh, behind those that were weighed, what all weigh. The
-- packets of a block weigh at most three times the block, and a trace has few blocks, so that the sum has a place.
use Prim.Native.Nat.{◌+◌, ◌*◌, ◌≤◌}
use mathlib.Core.Path.{◌≡◌}
use lib.ListN.{length}
use Rattle.std.specs.Slice.Iter.{chunks_rest, chunks_size}
use Rattle.block.specs.Layout.{block_octets}
use Rattle.playback.specs.Playback.{blocks_in, entries_of_all}
use Rattle.playback.proofs.Blocks.{AllLaid}
use Rattle.exporting.specs.Exporting.{port_of, weight_of, records_of}
use Rattle.exporting.proofs.Writable.{weight_by}
use Rattle.exporting.proofs.weigh_all.Given as goal

abbrev pub invariant-loop-s : goal.invariant-loop-s
invariant-loop-s l =
    (chunks_size l.s-iterator ≡ block_octets)
    × AllLaid (blocks_in (chunks_rest l.s-iterator))
    × (l.total + 3 * length (chunks_rest l.s-iterator) ≤ 3 * length l.trace)
    × (weight_by l.total l.port (entries_of_all (blocks_in (chunks_rest l.s-iterator))) ≡ weight_of (port_of (records_of l.trace)) (records_of l.trace))
