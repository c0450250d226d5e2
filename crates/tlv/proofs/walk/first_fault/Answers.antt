-- `walk::first_fault` meets its contract: along the walk neither the first break nor the first misfit changes.
use Rattle.std.specs.Prelude.{Some}
use mathlib.Core.Path.{◌≡◌, refl, sym, ◌∙◌}
use native.Mathlib.Omega.{arith}
use borrow.Author.Tests.{lt-ltb, le-ltb, eq-eqb}
use lib.Dec.{ltb}
use lib.ListN.{length}
use Rattle.refusal.specs.Choice.{pick}
use Rattle.tlv.specs.Walk.{next_of, broken}
use Rattle.tlv.specs.Form.{misfit_at}
use Rattle.tlv.specs.Faults.{misfit, fault_of}
use Rattle.tlv.proofs.WalkLaws.{next_fits, next_whole, next_size, walk_end, walk_bad, walk_more}
use Rattle.tlv.proofs.FaultLaws.{carried, misfit_by_lem, lt_eqb}
use Rattle.tlv.proofs.walk.first_fault.Goals as goal

-- a turn's step
stepped : (c : goal.In-Some) → next_of c.args.t.now c.loop-at.at ≡ Some c.in-Some.p
stepped c =
    sym c.step.ensures ∙ c.in-Some.is

pub returns-in_default : goal.returns-in_default
unfolding fault_of
returns-in_default c =
    let h = c.loop-at-test.true in
    let b : broken c.args.t.now 0 ≡ c.loop-at.at =
    sym c.loop-at.invariant.1 ∙ walk_bad _ _ _ _ _ h (sym c.step.ensures ∙ c.in_default.is) in
    rw (b, lt_eqb _ _ h)

pub overflow_sub-l : goal.overflow_sub-l
overflow_sub-l c =
    let n = next_fits _ _ (stepped c) in omega arith

pub overflow_sub-l-in-loop-at : goal.overflow_sub-l-in-loop-at
overflow_sub-l-in-loop-at c =
    let n = next_fits _ _ (stepped c) in omega arith

pub number_at-x-requires-clause-fits : goal.number_at-x-requires-clause-fits
number_at-x-requires-clause-fits c =
    next_whole _ _ (stepped c)

pub number_at-x-requires-clause-l_value : goal.number_at-x-requires-clause-l_value
number_at-x-requires-clause-l_value c =
    next_size _ _ (stepped c)

pub loop-at-smaller : goal.loop-at-smaller
loop-at-smaller c =
    let n = next_fits _ _ ((let it : next_of c.args.t.now c.loop-at.at ≡ Some c.in-Some.p = sym c.step.ensures ∙ c.in-Some.is in it)) in omega arith

pub loop-at-preserved : goal.loop-at-preserved
loop-at-preserved c =
    let a = c.args in
    let e = misfit_by_lem _ _ _ c.number_at-x.ensures (next_size _ _ ((let it : next_of c.args.t.now c.loop-at.at ≡ Some c.in-Some.p = sym c.step.ensures ∙ c.in-Some.is in it))) c.misfits.ensures in (
      (next_fits _ _ ((let it : next_of c.args.t.now c.loop-at.at ≡ Some c.in-Some.p = sym c.step.ensures ∙ c.in-Some.is in it))).1,
      sym (walk_more _ _ _ _ _ _ c.loop-at-test.true ((let it : next_of c.args.t.now c.loop-at.at ≡ Some c.in-Some.p = sym c.step.ensures ∙ c.in-Some.is in it))) ∙ c.loop-at.invariant.1,
      rw (c.later-misfit.ensures, e) (carried (misfit_at a.magic a.t.now) a.t.now c.loop-at.at _ c.loop-at.misfit c.loop-at-test.true ((let it : next_of c.args.t.now c.loop-at.at ≡ Some c.in-Some.p = sym c.step.ensures ∙ c.in-Some.is in it))) ∙ c.loop-at.invariant.2,
    )

pub returns-then-misfit-t : goal.returns-then-misfit-t
unfolding fault_of
returns-then-misfit-t c =
    let e = (let it : let a = c.args in (broken a.t.now 0 ≡ length a.t.now) × (pick (ltb c.loop-at.misfit (length a.t.now)) c.loop-at.misfit (length a.t.now) ≡ misfit a.magic a.t.now 0) = let t = c.args.t.now in
    let e : c.loop-at.at ≡ length t = omega arith in
    let m : misfit c.args.magic t c.loop-at.at ≡ length t = rw e (walk_end _ _ _ _) in
    (sym c.loop-at.invariant.1 ∙ rw e (walk_end _ _ _ _), rw m at c.loop-at.invariant.2) in it) in
    rw (e.0, eq-eqb _ _ refl, ← e.1, lt-ltb _ _ c.if-misfit-t.true, lt_eqb _ _ c.if-misfit-t.true)

pub returns : goal.returns
unfolding fault_of
returns c =
    let e = (let it : let a = c.args in (broken a.t.now 0 ≡ length a.t.now) × (pick (ltb c.loop-at.misfit (length a.t.now)) c.loop-at.misfit (length a.t.now) ≡ misfit a.magic a.t.now 0) = let t = c.args.t.now in
    let e : c.loop-at.at ≡ length t = omega arith in
    let m : misfit c.args.magic t c.loop-at.at ≡ length t = rw e (walk_end _ _ _ _) in
    (sym c.loop-at.invariant.1 ∙ rw e (walk_end _ _ _ _), rw m at c.loop-at.invariant.2) in it) in
    rw (e.0, eq-eqb _ _ refl, ← e.1, le-ltb _ _ c.if-misfit-t.false, eq-eqb _ _ refl)
