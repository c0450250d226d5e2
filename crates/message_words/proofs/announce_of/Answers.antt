-- `announce_of` meets its contract: field by field.
use mathlib.Core.Path.{◌∙◌}
use Prim.Native.Nat.{◌%◌}
use lib.ListN.{get_or}
use mir.Syntax.{w16}
use mir.ValLaws.{to_z-of_z}
use Rattle.message_words.specs.Words.{announce_of}
use Rattle.message_words.proofs.announce_of.Goals as goal

pub returns : goal.returns
unfolding announce_of
returns c =
    let w = c.args.w.now in
    λ i. record {
      origin = c.stamp_of.ensures i;
      utc = (to_z-of_z w16 _ (record { sfits = c.signed16.type_inv }) ∙ c.signed16.ensures) i;
      priority1 = get_or w 12 0 % 256;
      class = get_or w 13 0 % 256;
      accuracy = get_or w 14 0 % 256;
      variance = get_or w 15 0 % 65536;
      priority2 = get_or w 16 0 % 256;
      grandmaster = get_or w 17 0;
      steps = get_or w 18 0 % 65536;
      timesource = get_or w 19 0 % 256;
    }
