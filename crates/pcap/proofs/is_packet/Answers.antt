-- `is_packet` meets its contract: its head, and where it ends.
use native.Mathlib.Omega.{arith}
use lib.ListN.{length}
use borrow.Author.Tests.{le-leb, lt-leb}
use Rattle.pcap.specs.File.{is_packet}
use Rattle.pcap.proofs.is_packet.Goals as goal

pub returns-then-s-lt-PACKET : goal.returns-then-s-lt-PACKET
unfolding is_packet
returns-then-s-lt-PACKET c =
    let a = c.args in rw (lt-leb 16 (length a.s.now) (omega arith))

pub returns : goal.returns
unfolding is_packet
returns c =
    let a = c.args in
    rw (le-leb 16 (length a.s.now) (omega arith), ← c.size-end.ensures, ← c.is_packet_head-sound.ensures)
