-- `fields::header_of` meets its contract: field by field.
use mathlib.Core.Path.{◌∙◌, ap}
use lib.ListN.{get_or}
use Prim.Native.Nat.{◌/◌}
use mir.Syntax.{w8, w64}
use mir.Val.{to_z}
use mir.ValLaws.{to_z-of_z}
use Rattle.message.specs.Fields.{header_of}
use Rattle.message.proofs.fields.header_of.Goals as goal

pub returns : goal.returns
unfolding header_of
returns c =
    let s = c.args.s.now in
    λ i. record {
      transport = get_or s 0 0 / 16;
      domain = get_or s 4 0;
      flags = c.u16_at.ensures i;
      correction = (to_z-of_z w64 _ (record { sfits = c.signed64.type_inv }) ∙ c.signed64.ensures ∙ ap (to_z w64) c.u64_at.ensures) i;
      source = c.identity_at.ensures i;
      sequence = c.u16_at-2.ensures i;
      interval = (to_z-of_z w8 _ (record { sfits = c.signed8.type_inv }) ∙ c.signed8.ensures) i;
    }
