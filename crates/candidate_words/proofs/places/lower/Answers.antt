-- `lower` meets its contract. The loop's invariant: what is left of the words decides as all of them do.
use mathlib.Core.Path.{refl, ◌∙◌}
use native.Mathlib.Omega.{arith}
use Rattle.candidate_words.specs.Places.{lower_of}
use Rattle.candidate_words.proofs.PlaceLaws.{lex_here, lex_on}
use Rattle.candidate_words.proofs.places.lower.Goals as goal

pub loop-i-init : goal.loop-i-init
unfolding lower_of
loop-i-init c =
    (omega arith, refl)

pub returns-then-a-i : goal.returns-then-a-i
returns-then-a-i c =
    lex_here c.args.a.now c.args.b.now c.loop-i.i (omega arith) c.if-a-i.true ∙ c.loop-i.invariant.1

pub loop-i-preserved : goal.loop-i-preserved
loop-i-preserved c =
    (omega arith, lex_on c.args.a.now c.args.b.now c.loop-i.i (omega arith) c.if-a-i.false ∙ c.loop-i.invariant.1)
