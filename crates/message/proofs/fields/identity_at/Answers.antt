-- `fields::identity_at` meets its contract: field by field.
use Rattle.message.specs.Fields.{identity_at}
use Rattle.message.proofs.fields.identity_at.Goals as goal

pub returns : goal.returns
unfolding identity_at
returns c =
    λ i. record { clock = c.u64_at.ensures i; port = c.u16_at.ensures i }
