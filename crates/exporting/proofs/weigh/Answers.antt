-- `weigh` meets its contract: the next record cannot be written, or it is weighed. The packets of a block are so few octets that the sum has a place.
use mathlib.Core.Path.{sym, ap, ◌∙◌}
use native.Mathlib.Omega.{arith}
use native.Mathlib.Nat.{zero-add}
use lib.ListN.{length}
use Rattle.block.specs.Layout.{entries_of}
use Rattle.judging.specs.Records.{entry_of}
use Rattle.exporting.specs.Exporting.{packets_of}
use Rattle.exporting.proofs.Packets.{packets_left, block_packets}
use Rattle.exporting.proofs.Writable.{weight_by, weight_begin, weight_stop, weight_more, weight_end}
use Rattle.exporting.proofs.weigh.Goals as goal

pub loop-r-init : goal.loop-r-init
loop-r-init c =
    let e = c.into_iter-r-iterator.ensures.into_iter_gives ∙ c.of-r-items.ensures in
    (tt, tt, rw (e, zero-add), rw e (weight_begin c.args.port (entries_of c.args.s.now)))

pub returns-then-not-is_writable : goal.returns-then-not-is_writable
returns-then-not-is_writable c =
    let l = c.loop-r in
    let step = c.in-Some.ensures.steps in
    weight_stop l.total c.args.port (entry_of c.in-Some.r) c.next.new.self (sym c.is_writable.ensures ∙ c.if-not-is_writable.true)
    ∙ sym (ap (weight_by l.total c.args.port) step)
    ∙ l.invariant.3

pub overflow_add-total : goal.overflow_add-total
overflow_add-total c =
    let e = ap length (ap packets_of c.in-Some.ensures.steps) in
    omega (arith, e, packets_left (entry_of c.in-Some.r) c.next.new.self, c.loop-r.invariant.2, block_packets c.args.s.now c.requires)

pub overflow_add-total-in-loop-r : goal.overflow_add-total-in-loop-r
overflow_add-total-in-loop-r c =
    let e = ap length (ap packets_of c.in-Some.ensures.steps) in
    omega (arith, e, packets_left (entry_of c.in-Some.r) c.next.new.self, c.loop-r.invariant.2, block_packets c.args.s.now c.requires)

pub loop-r-preserved : goal.loop-r-preserved
loop-r-preserved c =
    let l = c.loop-r in
    let step = c.in-Some.ensures.steps in
    let e = ap length (ap packets_of step) in (
      tt,
      tt,
      omega (arith, e, packets_left (entry_of c.in-Some.r) c.next.new.self, l.invariant.2),
      weight_more l.total c.args.port (entry_of c.in-Some.r) c.next.new.self (sym c.is_writable.ensures ∙ c.if-not-is_writable.false)
          ∙ sym (ap (weight_by l.total c.args.port) step)
          ∙ l.invariant.3,
    )

pub returns : goal.returns
returns c =
    let l = c.loop-r in
    weight_end l.total c.args.port ∙ sym (ap (weight_by l.total c.args.port) c.in-None.ensures.steps.0) ∙ l.invariant.3
