-- `are_laid` meets its contract: where none stands the records are not laid out right, and else those behind it have to be.
use Rattle.std.proofs.Common.{◌≡◌, ◌≤◌, ◌-◌, length, drop, length-drop, sym, ap, ◌∙◌, arith}
use Rattle.std.proofs.lemmas.List.{take_all}
use Rattle.judging.specs.Tests.{all_zero, laid_from}
use Rattle.judging.proofs.TestLaws.{laid_none, laid_more}
use Rattle.judging.proofs.are_laid.Goals as goal

pub returns-in_default : goal.returns-in_default
returns-in_default c =
    laid_none c.args.s.now c.loop.at c.args.n c.loop.counter c.loop-test.true (sym c.next_at.ensures ∙ c.in_default.is)
    ∙ c.loop.invariant.1

pub loop-preserved : goal.loop-preserved
loop-preserved c =
    let k = laid_more c.args.s.now c.loop.at c.args.n c.loop.counter c.loop-test.true c.in-Some.place (sym c.next_at.ensures ∙ c.in-Some.is) in
    (k.0, k.1 ∙ c.loop.invariant.1)

pub returns : goal.returns
unfolding laid_from
returns c =
    let e : c.args.n - c.loop.counter ≡ 0 = omega arith in
    let l : length (drop c.loop.at c.args.s.now) ≤ length c.args.s.now - c.loop.at = omega (arith, length-drop c.loop.at c.args.s.now) in
    c.is_zero.ensures ∙ ap all_zero (take_all _ _ l) ∙ rw e at c.loop.invariant.1
