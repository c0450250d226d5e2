-- `are_packets` meets its contract: the loop's invariant says that the packets that are left are sound exactly where all are.
use mathlib.Core.Path.{sym, ◌∙◌}
use native.Mathlib.Omega.{arith}
use Rattle.pcap.proofs.Laws.{lent_rest, packets_end, packets_stop, packet_ends, packets_more}
use Rattle.pcap.proofs.are_packets.Goals as goal

pub returns-then-not-is_packet : goal.returns-then-not-is_packet
returns-then-not-is_packet c =
    let a = c.args in
    let is = lent_rest a.s.now c.loop-at.at (omega arith) in
    sym (packets_stop a.form a.s.now c.loop-at.at c.loop-at-test.true _ is (sym c.is_packet.ensures ∙ c.if-not-is_packet.true)) ∙ c.loop-at.invariant.1

pub size-at-requires : goal.size-at-requires
size-at-requires c =
    let a = c.args in
    let is = lent_rest a.s.now c.loop-at.at (omega arith) in
    let k = packet_ends a.form a.s.now c.loop-at.at c.loop-at-test.true _ is (sym c.is_packet.ensures ∙ c.if-not-is_packet.false) in
    k.0

pub overflow_add-at : goal.overflow_add-at
overflow_add-at c =
    let a = c.args in
    let is = lent_rest a.s.now c.loop-at.at (omega arith) in
    let k = packet_ends a.form a.s.now c.loop-at.at c.loop-at-test.true _ is (sym c.is_packet.ensures ∙ c.if-not-is_packet.false) in
    omega (arith, c.size-at.ensures)

pub loop-at-preserved : goal.loop-at-preserved
loop-at-preserved c =
    let a = c.args in
    let is = lent_rest a.s.now c.loop-at.at (omega arith) in
    let k = packet_ends a.form a.s.now c.loop-at.at c.loop-at-test.true _ is (sym c.is_packet.ensures ∙ c.if-not-is_packet.false) in (
      omega (arith, c.size-at.ensures),
      rw c.size-at.ensures
          (packets_more a.form a.s.now c.loop-at.at c.loop-at-test.true _ is (sym c.is_packet.ensures ∙ c.if-not-is_packet.false) ∙ c.loop-at.invariant.1),
    )

pub returns : goal.returns
returns c =
    let a = c.args in
    sym (packets_end a.form a.s.now c.loop-at.at (omega arith)) ∙ c.loop-at.invariant.1
