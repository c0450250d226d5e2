-- `dz_origin` meets its contract: by what `origin_says` says.
use Rattle.std.specs.Prelude.{Ok}
use mathlib.Core.Path.{◌≡◌, sym, ap, ◌∙◌}
use Rattle.origin.specs.Origin.{origin_check, origin_in}
use Rattle.origin.proofs.Laws.{origin_stamped, ten_octets}
use Rattle.message_words.specs.Reading.{stamp_words}
use Rattle.dzervolat.proofs.reading.dz_origin.Goals as goal

pub checked_origin-requires : goal.checked_origin-requires
checked_origin-requires c =
    origin_stamped _ _ _ (sym c.origin_says.ensures ∙ c.in-Ok.is)

pub put_origin-requires : goal.put_origin-requires
put_origin-requires c =
    rw c.checked_origin.ensures (ten_octets _ _ (origin_stamped _ _ _ (sym c.origin_says.ensures ∙ c.in-Ok.is)))

pub returns-in-Ok-clause-words : goal.returns-in-Ok-clause-words
unfolding origin_in
returns-in-Ok-clause-words c =
    let a = c.args in
    let done : origin_check a.magic a.sync.now a.follow.now ≡ Ok tt = sym c.origin_says.ensures ∙ c.in-Ok.is in
    rw done (c.put_origin.ensures ∙ ap stamp_words c.checked_origin.ensures)
