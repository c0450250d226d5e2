-- `search::sound_first` meets its contract: along the walk neither the first break nor the first misfit nor the first TLV that
-- passes the test changes.
use Rattle.std.specs.Prelude.{Some, None}
use Rattle.std.proofs.Common.{rules}
use Prim.Native.Nat.{ℕ, ◌<◌, ◌≤◌}
use mathlib.Core.List.{List}
use mathlib.Core.Bool.{Bool, true, false}
use mathlib.Core.Path.{◌≡◌, refl, sym, ap, ◌∙◌}
use native.Mathlib.Omega.{arith}
use borrow.Author.Tests.{eq-eqb, lt-ltb, le-ltb}
use lib.Dec.{ltb}
use lib.ListN.{length}
use Rattle.refusal.proofs.Choice.{either}
use Rattle.refusal.specs.Choice.{pick}
use Rattle.tlv.specs.Walk.{next_of, broken, first}
use Rattle.tlv.specs.Form.{misfit_at}
use Rattle.tlv.specs.Faults.{whole, misfit, later_of, sound_of}
use Rattle.tlv.proofs.WalkLaws.{next_fits, next_whole, next_size, walk_end, walk_bad, walk_more}
use Rattle.tlv.proofs.FaultLaws.{first_so_far, carried, later_inside, settled, misfit_by_lem, lt_eqb}
use Rattle.contents.proofs.search.sound_first.Goals as goal
use Rattle.contents.proofs.search.sound_first.Goals.{else-passes-via-else-passes, else-passes-via-then-passes+else-found-t}

-- what holds after a turn, whatever was found
onward : (t : List ℕ) (magic at p : ℕ) → at < length t → next_of t at ≡ Some p → (broken t at ≡ broken t 0) × (misfit magic t at ≡ misfit magic t 0) → misfit_at magic t at ≡ false
    → (p ≤ length t) × (broken t p ≡ broken t 0) × (misfit magic t p ≡ misfit magic t 0)
onward t magic at p h n i m =
    ((next_fits t at n).1, sym (walk_more _ _ _ _ at p h n) ∙ i.0, rw m at (sym (walk_more _ _ _ _ at p h n) ∙ i.1))

-- what was found so far, from the turn's test
took : (n found at : ℕ) {b : Bool} → found ≡ n → true ≡ b → at ≡ later_of n found at b
took n found at e d = rw (← d, le-ltb found n (omega arith))

passed_by : (n found at : ℕ) {b : Bool} → false ≡ b → found ≡ later_of n found at b
passed_by n found at d = rw (← d) (sym (either (ltb found n) found))

found_before : (n found at : ℕ) (b : Bool) → found ≤ n → (found ≡ n → ⊥) → found ≡ later_of n found at b
found_before n found at b h e = rw (lt-ltb found n (omega arith))

pub returns-in_err-p : goal.returns-in_err-p
unfolding sound_of
returns-in_err-p g c =
    λ test tells.
    let h = c.loop-at-test.true in
    let b : broken c.args.t.now 0 ≡ c.loop-at.at = sym c.loop-at.invariant.1 ∙ walk_bad _ _ _ _ _ h (sym c.in_err-p.ensures) in
    c.from_residual.ensures ∙ rw (b, lt_eqb _ _ h)

pub overflow_sub-l : goal.overflow_sub-l
overflow_sub-l g c =
    let n = next_fits _ _ (sym c.in_ok-p.ensures) in omega arith

pub overflow_sub-l-in-loop-at : goal.overflow_sub-l-in-loop-at
overflow_sub-l-in-loop-at g c =
    let n = next_fits _ _ (sym c.in_ok-p.ensures) in omega arith

pub number_at-x-requires-clause-fits : goal.number_at-x-requires-clause-fits
number_at-x-requires-clause-fits g c =
    next_whole _ _ (sym c.in_ok-p.ensures)

pub number_at-x-requires-clause-l_value : goal.number_at-x-requires-clause-l_value
number_at-x-requires-clause-l_value g c =
    next_size _ _ (sym c.in_ok-p.ensures)

pub returns-then-misfits : goal.returns-then-misfits
unfolding sound_of
returns-then-misfits g c =
    λ test tells.
    let a = c.args in
    let n = sym c.in_ok-p.ensures in
    let m : c.misfits.result ≡ misfit_at a.magic a.t.now c.loop-at.at = misfit_by_lem _ _ _ c.number_at-x.ensures (next_size _ _ n) c.misfits.ensures in
    let k : misfit a.magic a.t.now 0 ≡ c.loop-at.at = sym c.loop-at.invariant.2 ∙ walk_more _ _ _ _ _ _ c.loop-at-test.true n ∙ rw (← m, c.if-misfits.true) refl in
    rw (k, lt_eqb _ _ c.loop-at-test.true) (sym (either (whole a.t.now) None))

pub passes-requires : goal.passes-requires
passes-requires g c =
    let w = next_whole _ _ (sym c.in_ok-p.ensures) in
    let r = c.requires _ c.number_at-x.result w in
    search rules

pub loop-at-smaller-then-found-t : goal.loop-at-smaller-then-found-t
loop-at-smaller-then-found-t g c =
    let n = next_fits _ _ (sym c.in_ok-p.ensures) in omega arith

pub loop-at-preserved-then-found-t : goal.loop-at-preserved-then-found-t
loop-at-preserved-then-found-t g c =
    let a = c.args in
    let n = sym c.in_ok-p.ensures in
    let m : misfit_at a.magic a.t.now c.loop-at.at ≡ false = sym (misfit_by_lem _ _ _ c.number_at-x.ensures (next_size _ _ n) c.misfits.ensures) ∙ c.if-misfits.false in
    let o = onward a.t.now a.magic c.loop-at.at c.in_ok-p.p c.loop-at-test.true n (c.loop-at.invariant.1, c.loop-at.invariant.2) m in (
      o.0,
      o.1,
      o.2,
      omega arith,
      λ test tells.
          ap (λ (k : ℕ). first_so_far test a.t.now k c.in_ok-p.p) (took _ _ _ c.if-found-t.true (tells c.loop-at.at true (rw c.number_at-x.ensures at c.if-passes.ensures)))
          ∙ carried test a.t.now c.loop-at.at c.in_ok-p.p c.loop-at.found c.loop-at-test.true n
          ∙ c.loop-at.invariant.4 test tells,
    )

pub loop-at-smaller : goal.loop-at-smaller
loop-at-smaller g c =
    let n = next_fits _ _ (sym c.in_ok-p.ensures) in omega arith

pub loop-at-preserved : goal.loop-at-preserved
loop-at-preserved g c =
    let a = c.args in
    let n = sym c.in_ok-p.ensures in
    let m : misfit_at a.magic a.t.now c.loop-at.at ≡ false = sym (misfit_by_lem _ _ _ c.number_at-x.ensures (next_size _ _ n) c.misfits.ensures) ∙ c.if-misfits.false in
    let o = onward a.t.now a.magic c.loop-at.at c.in_ok-p.p c.loop-at-test.true n (c.loop-at.invariant.1, c.loop-at.invariant.2) m in (
      o.0,
      o.1,
      o.2,
      c.loop-at.invariant.3,
      λ test tells.
          ap (λ (k : ℕ). first_so_far test a.t.now k c.in_ok-p.p)
          (elim c.else-passes.branch [
            | else-passes-via-else-passes w ↦ passed_by _ _ _ (tells c.loop-at.at false (rw c.number_at-x.ensures at w.if-passes.ensures))
            | else-passes-via-then-passes+else-found-t w ↦ found_before _ _ c.loop-at.at (test c.loop-at.at) c.loop-at.invariant.3 w.if-found-t.false
          ])
          ∙ carried test a.t.now c.loop-at.at c.in_ok-p.p c.loop-at.found c.loop-at-test.true n
          ∙ c.loop-at.invariant.4 test tells,
    )

pub returns : goal.returns
unfolding sound_of
returns g c =
    λ test tells.
    let t = c.args.t.now in
    let magic = c.args.magic in
    let e : c.loop-at.at ≡ length t = omega arith in
    let b : broken t 0 ≡ length t = sym c.loop-at.invariant.1 ∙ rw e (walk_end _ _ _ _) in
    let m : misfit magic t 0 ≡ length t = sym c.loop-at.invariant.2 ∙ rw e (walk_end _ _ _ _) in
    let n : first test t c.loop-at.at ≡ length t = rw e (walk_end _ _ _ _) in
    let s = settled _ _ c.loop-at.invariant.3 ∙ rw n at (c.loop-at.invariant.4 test tells) in
    rw (b, m, eq-eqb _ _ refl) (ap Some s)
