-- `search::place` meets its contract: what is left of the walk gives what the whole gives.
use Rattle.std.specs.Prelude.{Some}
use mathlib.Core.Path.{◌≡◌, sym, ◌∙◌}
use native.Mathlib.Omega.{arith}
use lib.ListN.{length}
use Rattle.refusal.specs.Choice.{pick}
use Rattle.tlv.specs.Walk.{next_of, first}
use Rattle.tlv.specs.Faults.{sought_at}
use Rattle.tlv.proofs.WalkLaws.{next_fits, next_whole, walk_end, walk_bad, walk_more}
use Rattle.contents.proofs.search.place.Goals as goal

-- a turn's step
stepped : (c : goal.In-Some) → next_of c.args.t.now c.loop-at.at ≡ Some c.in-Some.p
stepped c =
    sym c.step.ensures ∙ c.in-Some.is

pub returns-in_default : goal.returns-in_default
returns-in_default c =
    sym (sym c.loop-at.invariant.1 ∙ walk_bad _ _ _ _ _ c.loop-at-test.true (sym c.step.ensures ∙ c.in_default.is))

pub is_sought-requires : goal.is_sought-requires
is_sought-requires c =
    next_whole _ _ (stepped c)

pub returns-then-is_sought : goal.returns-then-is_sought
returns-then-is_sought c =
    let e = sym c.is_sought.ensures ∙ c.if-is_sought.true in
    rw e at ((let it : let a = c.args in pick (sought_at a.what a.t.now c.loop-at.at) c.loop-at.at (first (sought_at a.what a.t.now) a.t.now c.in-Some.p) ≡ first (sought_at a.what a.t.now) a.t.now 0 = sym (walk_more _ _ _ _ _ _ c.loop-at-test.true ((let it : next_of c.args.t.now c.loop-at.at ≡ Some c.in-Some.p = sym c.step.ensures ∙ c.in-Some.is in it)))
    ∙ c.loop-at.invariant.1 in it))

pub loop-at-smaller : goal.loop-at-smaller
loop-at-smaller c =
    let n = next_fits _ _ ((let it : next_of c.args.t.now c.loop-at.at ≡ Some c.in-Some.p = sym c.step.ensures ∙ c.in-Some.is in it)) in omega arith

pub loop-at-preserved : goal.loop-at-preserved
loop-at-preserved c =
    let e = sym c.is_sought.ensures ∙ c.if-is_sought.false in (
      (next_fits _ _ ((let it : next_of c.args.t.now c.loop-at.at ≡ Some c.in-Some.p = sym c.step.ensures ∙ c.in-Some.is in it))).1,
      rw e at ((let it : let a = c.args in pick (sought_at a.what a.t.now c.loop-at.at) c.loop-at.at (first (sought_at a.what a.t.now) a.t.now c.in-Some.p) ≡ first (sought_at a.what a.t.now) a.t.now 0 = sym (walk_more _ _ _ _ _ _ c.loop-at-test.true ((let it : next_of c.args.t.now c.loop-at.at ≡ Some c.in-Some.p = sym c.step.ensures ∙ c.in-Some.is in it)))
          ∙ c.loop-at.invariant.1 in it)),
    )

pub returns : goal.returns
returns c =
    let e : c.loop-at.at ≡ length c.args.t.now = omega arith in
    sym (sym c.loop-at.invariant.1 ∙ rw e (walk_end _ _ _ _))
