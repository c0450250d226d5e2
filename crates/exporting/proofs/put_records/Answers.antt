-- `put_records` meets its contract: there is room for the packet of the next record, and then for those behind it.
use mathlib.Core.Path.{sym, ap, ◌∙◌}
use mathlib.Core.List.{List}
use native.Mathlib.Omega.{arith}
use lib.ListN.{length}
use Rattle.block.specs.Layout.{Entry}
use Rattle.stores.specs.Stores.{over}
use Rattle.stores.proofs.Buffer.{put_none}
use Rattle.judging.specs.Records.{entry_of}
use Rattle.pcap.specs.Written.{packets_in}
use Rattle.exporting.specs.Exporting.{packets_of}
use Rattle.exporting.proofs.Packets.{packets_left, packet_put}
use Rattle.exporting.proofs.put_records.Goals as goal

pub put_packet-requires : goal.put_packet-requires
put_packet-requires c =
    let e = ap length (ap packets_of c.in-Some.ensures.steps) in
    omega (arith, e, packets_left (entry_of c.in-Some.r) c.next.new.self, c.loop-r.invariant.2, c.loop-r.invariant.3, c.requires.1)

pub loop-r-preserved : goal.loop-r-preserved
loop-r-preserved c =
    let l = c.loop-r in
    let step = c.in-Some.ensures.steps in
    let e = ap length (ap packets_of step) in
    let left = packets_left (entry_of c.in-Some.r) c.next.new.self in (
      tt,
      tt,
      omega (arith, e, left, l.invariant.2),
      omega (arith, l.invariant.3),
      packet_put (entry_of c.in-Some.r) c.next.new.self l.out c.put_packet.new.out l.to (omega (arith, e, left, l.invariant.2, l.invariant.3, c.requires.1)) c.put_packet.ensures
          ∙ sym (ap (λ (es : List Entry). over l.out l.to (packets_of es)) step)
          ∙ l.invariant.4,
    )

pub returns-clause-end : goal.returns-clause-end
unfolding packets_in
returns-clause-end c =
    let e = ap length (ap packets_of c.in-None.ensures.steps.0) in
    omega (arith, e, c.loop-r.invariant.2)

pub returns-clause-octets : goal.returns-clause-octets
unfolding packets_in
returns-clause-octets c =
    let l = c.loop-r in
    put_none l.out l.to ∙ sym (ap (λ (es : List Entry). over l.out l.to (packets_of es)) c.in-None.ensures.steps.0) ∙ l.invariant.4
