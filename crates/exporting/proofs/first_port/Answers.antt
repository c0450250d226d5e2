-- `first_port` meets its contract: a trace that is not empty begins with a block that has a first record.
use Rattle.std.proofs.Common.{length, sym, ◌∙◌, arith}
use borrow.Author.Tests.{eqb-true, eqb-false}
use Rattle.exporting.proofs.Writable.{trace_port, no_port}
use Rattle.exporting.proofs.first_port.Goals as goal

pub returns-then-is_empty : goal.returns-then-is_empty
returns-then-is_empty c =
    no_port c.args.trace.now (eqb-true _ _ (sym c.is_empty.ensures ∙ c.if-is_empty.true))

pub port_at-requires : goal.port_at-requires
port_at-requires c =
    let k = eqb-false (length c.args.trace.now) 0 (sym c.is_empty.ensures ∙ c.if-is_empty.false) in
    (trace_port c.args.trace.now (omega arith) c.requires).0

pub returns : goal.returns
returns c =
    let k = eqb-false (length c.args.trace.now) 0 (sym c.is_empty.ensures ∙ c.if-is_empty.false) in
    c.from.ensures ∙ c.port_at.ensures ∙ (trace_port c.args.trace.now (omega arith) c.requires).1
