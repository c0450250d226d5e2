-- `checked` meets its contract. The loop's invariant: what is left of the run, and whether what came before it fits, decide.
use Rattle.candidate_words.proofs.RunLaws.{check_many, check_start}
use Rattle.candidate_words.proofs.places.checked.Goals as goal

pub returns-then-run-gt-MOST : goal.returns-then-run-gt-MOST
returns-then-run-gt-MOST c =
    check_many c.args.run.now c.if-run-gt-MOST.true

pub loop-w-init : goal.loop-w-init
loop-w-init c =
    check_start c.args.run.now c.if-run-gt-MOST.false
