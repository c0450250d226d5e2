-- `search::sound_place` meets its contract: the closure tells the type.
use Rattle.std.proofs.Common.{rules}
use Rattle.tlv.specs.Faults.{sought_at}
use Rattle.tlv.specs.declared.walk.Sought.TheVariants.{OfType}
use Rattle.contents.proofs.search.sound_place.Goals as goal

pub returns : goal.returns
returns c =
    c.sound_first.ensures (sought_at (OfType c.args.kind) c.args.t.now) (λ p b h. search rules)
