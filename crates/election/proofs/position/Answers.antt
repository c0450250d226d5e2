-- `position` meets its contract: the places passed, and how many of those that are left it does not stand before, are all.
use mathlib.Core.Path.{◌≡◌, sym, ap, ◌∙◌}
use native.Mathlib.Omega.{arith}
use lib.ListN.{length}
use Rattle.election.specs.Places.{rank_among}
use Rattle.election.proofs.Gathering.{place_here, none_here, rank_hit, rank_miss, rank_end}
use Rattle.election.proofs.position.Goals as goal

pub returns-then-is_before : goal.returns-then-is_before
returns-then-is_before c =
    let g = c.args in
    let size : length c.args.top.places ≡ 4 = c.well_formed.1.0.1.1.1.0.1.0.1 in
    let x = g.top in
    let ws = g.words.now in
    let i = c.loop-i.i in
    let h = place_here x.len x.places i (omega arith) (omega (arith, c.requires.small)) in
    let e = ap (rank_among ws g.a) h ∙ rank_hit ws g.a _ _ (sym c.is_before.ensures ∙ c.if-is_before.true) in
    omega (arith, e, c.loop-i.invariant.1)

pub loop-i-preserved : goal.loop-i-preserved
loop-i-preserved c =
    let g = c.args in
    let size : length c.args.top.places ≡ 4 = c.well_formed.1.0.1.1.1.0.1.0.1 in
    let x = g.top in
    let ws = g.words.now in
    let i = c.loop-i.i in
    let h = place_here x.len x.places i (omega arith) (omega (arith, c.requires.small)) in
    let e = ap (rank_among ws g.a) h ∙ rank_miss ws g.a _ _ (sym c.is_before.ensures ∙ c.if-is_before.false) in
    (omega arith, omega (arith, e, c.loop-i.invariant.1))

pub returns : goal.returns
returns c =
    let g = c.args in
    let x = g.top in
    let ws = g.words.now in
    let e = ap (rank_among ws g.a) (none_here x.len x.places c.loop-i.i (omega arith)) ∙ rank_end ws g.a in
    omega (arith, e, c.loop-i.invariant.1)
