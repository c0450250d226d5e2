-- `sound::fixed_bounds` meets its contract: of octets that pass the checks before the tail's.
use Rattle.std.specs.Result.{result_ok}
use mathlib.Core.Path.{ap, ◌∙◌}
use Rattle.contents.proofs.SoundLaws.{fixed_by_head}
use Rattle.contents.proofs.sound.fixed_bounds.Goals as goal

pub returns : goal.returns
returns c =
    c.ok.ensures.value ∙ ap result_ok c.head.ensures ∙ fixed_by_head _
