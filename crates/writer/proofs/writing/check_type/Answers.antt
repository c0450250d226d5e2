-- `writing::check_type` meets its contract: by the test.
use borrow.Author.Tests.{eq-eqb, ne_eqb}
use Rattle.refusal.specs.Choice.{refuse}
use Rattle.writer.proofs.writing.check_type.Goals as goal

pub returns-then-fixed_size-eq0 : goal.returns-then-fixed_size-eq0
unfolding refuse
returns-then-fixed_size-eq0 c =
    rw (← c.fixed_size.ensures, eq-eqb _ _ c.if-fixed_size-eq0.true)

pub returns : goal.returns
unfolding refuse
returns c =
    rw (← c.fixed_size.ensures, ne_eqb _ _ c.if-fixed_size-eq0.false)
