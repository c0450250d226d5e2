-- `list_of` meets its contract. The invariant: the candidates of the places passed lie in the first slots, and the others are blank.
use mathlib.Core.Path.{ap, ◌∙◌}
use mathlib.Core.List.{List}
use native.Mathlib.Omega.{arith}
use lib.ListN.{set}
use Rattle.rank.specs.declared.Candidate.{Candidate}
use Rattle.election.proofs.Gathering.{laid_place}
use Rattle.election.proofs.list_of.Goals as goal

pub loop-i-preserved : goal.loop-i-preserved
loop-i-preserved c =
    let x = c.args.top in
    let ws = c.args.words.now in (
      c.loop-i.invariant.0,
      ap (λ (s : List Candidate). set s c.loop-i.i c.candidate.result) c.loop-i.invariant.1
          ∙ laid_place ws x.places c.well_formed.1.0.1.1.1.0.1.0.1 x.len c.requires.small c.loop-i.i (omega arith) c.candidate.result c.candidate.ensures,
    )
