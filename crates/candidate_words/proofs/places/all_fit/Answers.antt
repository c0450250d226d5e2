-- `all_fit` meets its contract. The loop's invariant: those passed fit.
use mathlib.Core.Path.{sym, ap, ◌∙◌}
use native.Mathlib.Omega.{arith}
use borrow.Author.Tests.{eqb-true, eqb-false}
use lib.Dec.{eqb}
use Rattle.rank.specs.Ranked.{is_port}
use Rattle.rank.proofs.Best.{cases}
use Rattle.candidate_words.specs.Places.{candidate_of, Fit}
use Rattle.candidate_words.proofs.places.all_fit.Goals as goal

-- the candidate of a turn that goes on fits
fits_here : (c : goal.Else-not-one_fits) → Fit c.args.run.now c.loop-i.i
unfolding candidate_of
fits_here c =
    record {
      inside = omega (arith, c.loop-i-test.true, c.requires.1);
      valid = sym (c.is_port.ensures ∙ ap is_port c.port_of.ensures) ∙ c.if-not-is_port.false;
      fits = sym c.one_fits.ensures ∙ c.if-not-one_fits.false;
    }

pub loop-i-preserved : goal.loop-i-preserved
loop-i-preserved c =
    let i = c.loop-i.i in (
      omega (arith, c.loop-i.invariant.0),
      omega (arith, c.loop-i-test.true),
      λ k h j.
          cases (eqb k i)
          (λ e. rw (eqb-true k i e) (fits_here c))
          (λ e. let n = eqb-false k i e in c.loop-i.invariant.2 k h (omega arith)),
    )
