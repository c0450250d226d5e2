-- `wr::first_suffix` meets its contract: by where the walk found it.
use Rattle.tlv.specs.Wr.{suffix_in}
use Rattle.contents.proofs.wr.first_suffix.Goals as goal

pub returns : goal.returns
unfolding suffix_in
returns c =
    rw (← c.place.ensures) c.suffix_at.ensures
