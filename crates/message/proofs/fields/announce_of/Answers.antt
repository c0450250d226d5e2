-- `fields::announce_of` meets its contract: field by field.
use mathlib.Core.Path.{◌∙◌, ap}
use lib.ListN.{get_or}
use mir.Syntax.{w16}
use mir.Val.{to_z}
use mir.ValLaws.{to_z-of_z}
use Rattle.message.specs.Fields.{announce_of}
use Rattle.message.proofs.fields.announce_of.Goals as goal

pub returns : goal.returns
unfolding announce_of
returns c =
    let s = c.args.s.now in
    λ i. record {
      origin = c.stamp_with.ensures i;
      utc = (to_z-of_z w16 _ (record { sfits = c.signed16.type_inv }) ∙ c.signed16.ensures ∙ ap (to_z w16) c.u16_at.ensures) i;
      priority1 = get_or s 47 0;
      class = get_or s 48 0;
      accuracy = get_or s 49 0;
      variance = c.u16_at-2.ensures i;
      priority2 = get_or s 52 0;
      grandmaster = c.u64_at.ensures i;
      steps = c.u16_at-3.ensures i;
      timesource = get_or s 63 0;
    }
