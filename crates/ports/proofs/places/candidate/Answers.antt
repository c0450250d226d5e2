-- `candidate` meets its contract: the record in the six words of the place, on the place's port.
use mathlib.Core.Path.{ap, ◌∙◌}
use Rattle.senders.specs.Record.{candidate_of}
use Rattle.slots.specs.Words.{of_six, record_of}
use Rattle.ports.specs.Places.{candidate_at}
use Rattle.ports.proofs.places.candidate.Goals as goal

pub returns : goal.returns
unfolding candidate_at record_of
returns c =
    let e = c.read.ensures ∙ ap of_six c.record.ensures in
    c.candidate.ensures ∙ (λ i. candidate_of (c.port_of.ensures i) (e i))
