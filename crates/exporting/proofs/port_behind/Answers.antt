-- `port_behind` meets its contract: a block whose layout is right has a first record.
use mathlib.Core.Path.{◌∙◌}
use native.Mathlib.Omega.{arith}
use borrow.Author.Tests.{eq-eqb}
use Rattle.judging.proofs.TestLaws.{laid}
use Rattle.exporting.proofs.Writable.{first_port}
use Rattle.exporting.proofs.port_behind.Goals as goal

pub port_at-requires : goal.port_at-requires
port_at-requires c =
    let k = laid c.args.s.now c.requires in
    omega arith

pub returns-then-before-eq0 : goal.returns-then-before-eq0
returns-then-before-eq0 c =
    rw (eq-eqb _ _ c.if-before-eq0.true) (c.from.ensures ∙ c.port_at.ensures ∙ first_port c.args.s.now c.requires)
