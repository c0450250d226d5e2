-- `walk::sound_suffix` meets its contract: along the walk neither the first break nor the first misfit nor the first
-- suffix changes.
use Rattle.std.specs.Prelude.{Some, None}
use Prim.Native.Nat.{ℕ, ◌<◌, ◌≤◌}
use mathlib.Core.List.{List}
use mathlib.Core.Bool.{true, false}
use mathlib.Core.Path.{◌≡◌, refl, sym, ap, ◌∙◌}
use native.Mathlib.Omega.{arith}
use borrow.Author.Tests.{eq-eqb}
use lib.Dec.{ltb}
use lib.ListN.{length}
use Rattle.refusal.proofs.Choice.{either}
use Rattle.refusal.specs.Choice.{pick}
use Rattle.tlv.specs.Walk.{next_of, broken, first}
use Rattle.tlv.specs.Form.{misfit_at, is_suffix, suffix_at}
use Rattle.tlv.specs.Faults.{whole, misfit, later_of, sound_of}
use Rattle.tlv.proofs.WalkLaws.{next_fits, next_whole, next_size, walk_end, walk_bad, walk_more}
use Rattle.tlv.proofs.FaultLaws.{first_so_far, carried, later_inside, settled, misfit_by_lem, lt_eqb}
use Rattle.tlv.proofs.walk.sound_suffix.Goals as goal

-- a turn's step
stepped : (c : goal.In-Some) → next_of c.args.t.now c.loop-at.at ≡ Some c.in-Some.p
stepped c =
    sym c.step.ensures ∙ c.in-Some.is

-- what holds after a turn, where what was found so far has become what the turn's TLV makes of it
turned : (t : List ℕ) (magic suffix at p so_far : ℕ) → at < length t → next_of t at ≡ Some p
    → (at ≤ length t) × (broken t at ≡ broken t 0) × (misfit magic t at ≡ misfit magic t 0) × (suffix ≤ length t)
    × (first_so_far (suffix_at magic t) t suffix at ≡ first (suffix_at magic t) t 0)
    → misfit_at magic t at ≡ false
    → so_far ≡ later_of (length t) suffix at (suffix_at magic t at)
    → (p ≤ length t) × (broken t p ≡ broken t 0) × (misfit magic t p ≡ misfit magic t 0) × (so_far ≤ length t)
    × (first_so_far (suffix_at magic t) t so_far p ≡ first (suffix_at magic t) t 0)
turned t magic suffix at p so_far h n i m e = (
  (next_fits t at n).1,
  sym (walk_more _ _ _ _ at p h n) ∙ i.1,
  rw m at (sym (walk_more _ _ _ _ at p h n) ∙ i.2),
  rw e (later_inside (length t) suffix at (suffix_at magic t at) i.3 h),
  rw e (carried (suffix_at magic t) t at p suffix h n) ∙ i.4,
)

pub returns-in_default : goal.returns-in_default
unfolding sound_of
returns-in_default c =
    let h = c.loop-at-test.true in
    let b : broken c.args.t.now 0 ≡ c.loop-at.at =
    sym c.loop-at.invariant.1 ∙ walk_bad _ _ _ _ _ h (sym c.step.ensures ∙ c.in_default.is) in
    rw (b, lt_eqb _ _ h)

pub overflow_sub-l : goal.overflow_sub-l
overflow_sub-l c =
    let n = next_fits _ _ (stepped c) in omega arith

pub overflow_sub-l-in-loop-at : goal.overflow_sub-l-in-loop-at
overflow_sub-l-in-loop-at c =
    let n = next_fits _ _ (stepped c) in omega arith

pub number_at-x-requires-clause-fits : goal.number_at-x-requires-clause-fits
number_at-x-requires-clause-fits c =
    next_whole _ _ (stepped c)

pub number_at-x-requires-clause-l_value : goal.number_at-x-requires-clause-l_value
number_at-x-requires-clause-l_value c =
    next_size _ _ (stepped c)

pub returns-then-misfits : goal.returns-then-misfits
unfolding sound_of
returns-then-misfits c =
    rw (← (let it : let a = c.args in pick c.misfits.result c.loop-at.at (misfit a.magic a.t.now c.in-Some.p) ≡ misfit a.magic a.t.now 0 = rw ((let it : let a = c.args in c.misfits.result ≡ misfit_at a.magic a.t.now c.loop-at.at = misfit_by_lem _ _ _ c.number_at-x.ensures (next_size _ _ ((let it : next_of c.args.t.now c.loop-at.at ≡ Some c.in-Some.p = sym c.step.ensures ∙ c.in-Some.is in it))) c.misfits.ensures in it)) (sym (walk_more _ _ _ _ _ _ c.loop-at-test.true ((let it : next_of c.args.t.now c.loop-at.at ≡ Some c.in-Some.p = sym c.step.ensures ∙ c.in-Some.is in it))) ∙ c.loop-at.invariant.2) in it), c.if-misfits.true, lt_eqb _ _ c.loop-at-test.true) (sym (either (whole c.args.t.now) None))

pub loop-at-smaller-then-is_suffix : goal.loop-at-smaller-then-is_suffix
loop-at-smaller-then-is_suffix c =
    let n = next_fits _ _ ((let it : next_of c.args.t.now c.loop-at.at ≡ Some c.in-Some.p = sym c.step.ensures ∙ c.in-Some.is in it)) in omega arith

pub loop-at-preserved-then-is_suffix : goal.loop-at-preserved-then-is_suffix
unfolding suffix_at
loop-at-preserved-then-is_suffix c =
    let n : next_of c.args.t.now c.loop-at.at ≡ Some c.in-Some.p = sym c.step.ensures ∙ c.in-Some.is in
    let s : true ≡ suffix_at c.args.magic c.args.t.now c.loop-at.at =
    sym c.if-is_suffix.true ∙ c.is_suffix.ensures ∙ ap is_suffix c.number_at-x.ensures in
    turned c.args.t.now c.args.magic c.loop-at.suffix c.loop-at.at c.in-Some.p _ c.loop-at-test.true n c.loop-at.invariant
    (sym (misfit_by_lem _ _ _ c.number_at-x.ensures (next_size _ _ n) c.misfits.ensures) ∙ c.if-misfits.false)
    (rw (← s) c.later-suffix.ensures)

pub loop-at-smaller : goal.loop-at-smaller
loop-at-smaller c =
    let n = next_fits _ _ ((let it : next_of c.args.t.now c.loop-at.at ≡ Some c.in-Some.p = sym c.step.ensures ∙ c.in-Some.is in it)) in omega arith

pub loop-at-preserved : goal.loop-at-preserved
unfolding suffix_at
loop-at-preserved c =
    let n : next_of c.args.t.now c.loop-at.at ≡ Some c.in-Some.p = sym c.step.ensures ∙ c.in-Some.is in
    let s : false ≡ suffix_at c.args.magic c.args.t.now c.loop-at.at =
    sym c.if-is_suffix.false ∙ c.is_suffix.ensures ∙ ap is_suffix c.number_at-x.ensures in
    turned c.args.t.now c.args.magic c.loop-at.suffix c.loop-at.at c.in-Some.p _ c.loop-at-test.true n c.loop-at.invariant
    (sym (misfit_by_lem _ _ _ c.number_at-x.ensures (next_size _ _ n) c.misfits.ensures) ∙ c.if-misfits.false)
    (rw (← s) (sym (either (ltb c.loop-at.suffix (length c.args.t.now)) c.loop-at.suffix)))

pub returns : goal.returns
unfolding sound_of
returns c =
    let t = c.args.t.now in
    let magic = c.args.magic in
    let e : c.loop-at.at ≡ length t = omega arith in
    let b : broken t 0 ≡ length t = sym c.loop-at.invariant.1 ∙ rw e (walk_end _ _ _ _) in
    let m : misfit magic t 0 ≡ length t = sym c.loop-at.invariant.2 ∙ rw e (walk_end _ _ _ _) in
    let n : first (suffix_at magic t) t c.loop-at.at ≡ length t = rw e (walk_end _ _ _ _) in
    let s = settled _ _ c.loop-at.invariant.3 ∙ rw n at c.loop-at.invariant.4 in
    rw (b, m, eq-eqb _ _ refl) (ap Some s)
