-- `tidy` meets its contract: the used slots stay, and the others are blank.
use mathlib.Core.Path.{◌≡◌, ap₂, ◌∙◌}
use native.Mathlib.Omega.{arith}
use Prim.Native.Nat.{◌-◌}
use lib.ListN.{replicate, length, take, drop, length-take, length-drop}
use Rattle.rank.proofs.Tidying.{to_pack}
use Rattle.rank.proofs.tidy.Goals as goal

pub returns : goal.returns
returns c =
    let size : length c.args.r.slots ≡ 4 = c.well_formed.0.1.1.1.0.1.0.1 in
    let n = c.min-n.result in
    let few : length (take (4 - n) (drop n c.args.r.slots)) ≡ 4 - n = omega (arith, length-take (4 - n) (drop n c.args.r.slots), length-drop n c.args.r.slots) in
    to_pack c.args.r n size c.min-n.ensures c.fill.new.self (c.fill.ensures.after (λ y x. x) ∙ ap₂ replicate few c.blank.ensures)
