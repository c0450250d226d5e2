-- The loop's invariant says that the blocks that are left are laid out right, and that their packets, put behind those that were put, give the whole
-- capture.
use Prim.Native.Nat.{◌+◌, ◌≤◌}
use mathlib.Core.Path.{◌≡◌}
use lib.ListN.{length}
use Rattle.std.specs.Slice.Iter.{chunks_rest, chunks_size}
use Rattle.block.specs.Layout.{block_octets}
use Rattle.stores.specs.Stores.{over}
use Rattle.playback.specs.Playback.{blocks_in, entries_of_all}
use Rattle.playback.proofs.Blocks.{AllLaid}
use Rattle.exporting.specs.Exporting.{packets_of, records_of}
use Rattle.exporting.proofs.put_all.Given as goal

abbrev pub invariant-loop-s : goal.invariant-loop-s
invariant-loop-s l =
    (chunks_size l.s-iterator ≡ block_octets)
    × AllLaid (blocks_in (chunks_rest l.s-iterator))
    × (l.to + length (packets_of (entries_of_all (blocks_in (chunks_rest l.s-iterator)))) ≤ length l.out)
    × (length l.out ≡ length l.initial.out)
    × (over l.out l.to (packets_of (entries_of_all (blocks_in (chunks_rest l.s-iterator)))) ≡ over l.initial.out 24 (packets_of (records_of l.trace)))
