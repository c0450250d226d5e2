-- `two_way` meets its contract: past the three tests no limit is broken.
use mathlib.Core.Path.{sym, ◌∙◌}
use lib.IntN.{◌-ℤ◌}
use Rattle.std.specs.Prelude.{Some}
use Rattle.delay.specs.Delay.{t1, t2, t3, t4}
use Rattle.delay.specs.Range.{InputsIn}
use Rattle.delay.specs.Inside.{SpanIs}
use Rattle.delay.proofs.Ranges.{inputs_told}
use Rattle.delay.proofs.Laws.{difference_is}
use Rattle.delay.proofs.two_way.Goals as goal

inputs : (c : goal.Else-not-inputs_good) → InputsIn c.args.x
inputs c = inputs_told c.args.x (sym c.inputs_good.ensures ∙ c.if-not-inputs_good.false)

pub outer-requires : goal.outer-requires
outer-requires c = inputs c

pub inner-requires : goal.inner-requires
inner-requires c = inputs_told c.args.x (sym c.inputs_good.ensures ∙ c.if-not-inputs_good.false)

pub returns : goal.returns
returns c =
    let x = c.args.x in
    let there : SpanIs (t4 x -ℤ t1 x) (Some c.in_ok-there.there) = c.in_ok-there.ensures in
    let back : SpanIs (t3 x -ℤ t2 x) (Some c.in_ok-back.back) = c.in_ok-back.ensures in (
      record {
        inputs = inputs_told x (sym c.inputs_good.ensures ∙ c.if-not-inputs_good.false);
        outer = there.0;
        inner = back.0;
      },
      difference_is (t4 x -ℤ t1 x) (t3 x -ℤ t2 x) c.in_ok-there.there c.in_ok-back.back there back,
    )
