-- `tlvs::stands_at` meets its contract: at each way out the tests before it are known.
use Rattle.std.specs.Prelude.{Some, Ok, Err}
use mathlib.Core.Path.{◌≡◌, sym}
use native.Mathlib.Omega.{arith}
use borrow.Author.Tests.{le-leb, lt-leb}
use Rattle.refusal.specs.declared.Refusal.TheVariants.{Tlv, WrBad}
use Rattle.tlv.specs.Form.{misfit_at}
use Rattle.tlv.proofs.WalkLaws.{next_fits, next_whole, next_size}
use Rattle.tlv.proofs.FaultLaws.{misfit_by_lem}
use Rattle.contents.specs.Tlvs.{standing}
use Rattle.contents.proofs.tlvs.stands_at.Goals as goal

pub returns-then-t-p : goal.returns-then-t-p
unfolding standing
returns-then-t-p c =
    rw (le-leb _ _ c.if-t-p.true)

pub returns-in_default : goal.returns-in_default
unfolding standing
returns-in_default c =
    rw (lt-leb _ _ c.if-t-p.false, ← c.step.ensures, c.in_default.is) (λ i. Err (Tlv (c.place_in-place.ensures i)))

pub overflow_sub-l : goal.overflow_sub-l
overflow_sub-l c =
    let n = next_fits _ _ (sym c.in-Some.ensures) in omega arith

pub overflow_sub-l-2 : goal.overflow_sub-l-2
overflow_sub-l-2 c =
    let n = next_fits _ _ (sym c.in-Some.ensures) in omega arith

pub number_at-x-requires-clause-fits : goal.number_at-x-requires-clause-fits
number_at-x-requires-clause-fits c =
    next_whole _ _ (sym c.in-Some.ensures)

pub number_at-x-requires-clause-l_value : goal.number_at-x-requires-clause-l_value
number_at-x-requires-clause-l_value c =
    next_size _ _ (sym c.in-Some.ensures)

pub returns-then-misfits : goal.returns-then-misfits
unfolding standing
returns-then-misfits c =
    let n = sym c.in-Some.ensures in
    let m : c.misfits.result ≡ misfit_at c.args.magic c.args.t.now c.args.p = misfit_by_lem _ _ _ c.number_at-x.ensures (next_size _ _ n) c.misfits.ensures in
    rw (lt-leb _ _ c.if-t-p.false, n, ← m, c.if-misfits.true) (λ i. Err (WrBad (c.place_in-place.ensures i)))

pub u16_at-requires : goal.u16_at-requires
u16_at-requires c =
    let n = next_fits _ _ (sym c.in-Some.ensures) in omega arith

pub overflow_cast-result : goal.overflow_cast-result
overflow_cast-result c =
    let n = next_fits _ _ (sym c.in-Some.ensures) in record { fits = omega arith }

pub returns : goal.returns
unfolding standing
returns c =
    let n = sym c.in-Some.ensures in
    let l = next_size _ _ n in
    let m : c.misfits.result ≡ misfit_at c.args.magic c.args.t.now c.args.p = misfit_by_lem _ _ _ c.number_at-x.ensures l c.misfits.ensures in
    rw (lt-leb _ _ c.if-t-p.false, n, ← m, c.if-misfits.false)
    (λ i. Ok (Some (record { place = c.place_in-place.ensures i; kind = c.u16_at.ensures i; length = l i })))
