-- `announce::read_announce` meets its contract: what was not read in one walk is left to the checks.
use Rattle.std.specs.Prelude.{Err}
use mathlib.Core.Path.{sym, ap, ◌∙◌}
use Rattle.message.proofs.AnnounceLaws.{unheard}
use Rattle.message.proofs.announce.read_announce.Goals as goal

pub returns-in-None : goal.returns-in-None
returns-in-None c =
    ap Err c.refusal_of.ensures ∙ unheard _ _ (sym c.sound_announce.ensures ∙ c.in-None.is)
