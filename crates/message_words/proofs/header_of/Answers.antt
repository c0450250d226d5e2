-- `header_of` meets its contract: field by field.
use mathlib.Core.Path.{◌∙◌}
use Prim.Native.Nat.{◌%◌}
use lib.ListN.{get_or}
use mir.Syntax.{w8, w64}
use mir.ValLaws.{to_z-of_z}
use Rattle.message_words.specs.Words.{header_of}
use Rattle.message_words.proofs.header_of.Goals as goal

pub returns : goal.returns
unfolding header_of
returns c =
    let w = c.args.w.now in
    λ i. record {
      transport = get_or w 1 0 % 256;
      domain = get_or w 2 0 % 256;
      flags = get_or w 3 0 % 65536;
      correction = (to_z-of_z w64 _ (record { sfits = c.signed64.type_inv }) ∙ c.signed64.ensures) i;
      source = c.identity_at.ensures i;
      sequence = get_or w 7 0 % 65536;
      interval = (to_z-of_z w8 _ (record { sfits = c.signed8.type_inv }) ∙ c.signed8.ensures) i;
    }
