-- `merge` meets its contract: inserting the second list into the first, tidied, gives the ranked list of both.
use mathlib.Core.Path.{sym, ap₂, ◌∙◌}
use mathlib.Core.Bool.{◌&&◌}
use Rattle.refusal.specs.Choice.{refuse}
use Rattle.rank.specs.Ranked.{is_ranked}
use Rattle.rank.proofs.Merging.{both, merged}
use Rattle.rank.proofs.merge.Goals as goal

pub returns : goal.returns
unfolding refuse
returns c =
    let a = c.args.a in
    let b = c.args.b in
    let h = ap₂ ◌&&◌ (sym c.is_ranked.ensures) (sym c.is_ranked-2.ensures) ∙ c.if-not-is_ranked.false in
    let p = both (is_ranked a) (is_ranked b) h in
    rw (c.insert_all.ensures, c.tidy.ensures, merged a b p.0 p.1, h)
