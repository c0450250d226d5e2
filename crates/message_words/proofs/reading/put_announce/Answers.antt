-- `reading::put_announce` meets its contract: eleven words are stored, each from its octets.
use mathlib.Core.Path.{ap, ◌∙◌}
use mathlib.Core.List.{[], ◌∷◌, ◌++◌}
use mir.Syntax.{w16, w64}
use mir.Val.{of_z, to_z}
use mir.ValLaws.{to_z-of_z}
use lib.ListN.{get_or, take}
use Rattle.message.specs.Fields.{stamp_of, announce_of}
use Rattle.message_words.proofs.ReadingLaws.{eleven}
use Rattle.message_words.proofs.reading.put_announce.Goals as goal

pub returns : goal.returns
unfolding announce_of stamp_of
returns c =
    let s = c.args.s.now in
    let w = c.args.out.now in
    let y = c.word_of_i16.ensures ∙ ap (of_z w64) (to_z-of_z w16 _ (record { sfits = c.signed16.type_inv }) ∙ c.signed16.ensures ∙ ap (to_z w16) c.u16_at.ensures) in
    eleven w c.told-out _ _ _ _ _ _ _ _ _ _ _
    ∙ (λ i.
    take 9 w
    ++ (c.u48_at.ensures i
    ∷ c.u32_at.ensures i
    ∷ y i
    ∷ get_or s 47 0
    ∷ get_or s 48 0
    ∷ get_or s 49 0
    ∷ c.u16_at-2.ensures i
    ∷ get_or s 52 0
    ∷ c.u64_at.ensures i
    ∷ c.u16_at-3.ensures i
    ∷ get_or s 63 0
    ∷ []))
