-- `search::is_sought` meets its contract: each arm by what its test ensures.
use mathlib.Core.Path.{ap, ◌∙◌}
use Rattle.tlv.specs.Form.{is_suffix, suffix_at, is_link, link_at}
use Rattle.contents.proofs.search.is_sought.Goals as goal

pub returns-in-Suffix : goal.returns-in-Suffix
unfolding suffix_at
returns-in-Suffix c =
    rw c.in-Suffix.is (c.is_suffix.ensures ∙ ap is_suffix c.number_at.ensures)

pub returns-in-Link : goal.returns-in-Link
unfolding link_at
returns-in-Link c =
    rw c.in-Link.is (c.is_link.ensures ∙ ap is_link c.number_at-in-Link.ensures)
