-- `fields::stamp_with` meets its contract: field by field.
use Rattle.message.specs.Fields.{stamp_of}
use Rattle.message.proofs.fields.stamp_with.Goals as goal

pub returns : goal.returns
unfolding stamp_of
returns c =
    λ i. record { seconds = c.u48_at.ensures i; nanoseconds = c.requires.nanoseconds_value i }
