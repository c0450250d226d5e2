-- `foresee` meets its contract: by whether the frame is taken.
use mathlib.Core.Path.{sym, ◌∙◌}
use native.Mathlib.Omega.{arith}
use Rattle.importing.proofs.Frames.{has_head}
use Rattle.importing.proofs.foresee.Goals as goal

pub slice_bounds-foresee-count : goal.slice_bounds-foresee-count
slice_bounds-foresee-count c =
    omega (arith, has_head c.args.frame.now (sym c.is_ptp.ensures ∙ c.if-not-is_ptp.false))

pub slice_bounds-foresee-start : goal.slice_bounds-foresee-start
slice_bounds-foresee-start c =
    omega (arith, has_head c.args.frame.now (sym c.is_ptp.ensures ∙ c.if-not-is_ptp.false))
