-- `is_packet_head` meets its contract: each number that is tested is the head's.
use Rattle.pcap.specs.File.{is_packet_head}
use Rattle.pcap.proofs.is_packet_head.Goals as goal

pub returns : goal.returns
unfolding is_packet_head
returns c =
    rw (← c.fraction-parts.ensures.0, ← c.four-original.ensures, ← c.stored-kept.ensures)
