-- `reading::put_header` meets its contract: nine words are stored, each from its octets.
use Prim.Native.Nat.{◌/◌, ◌%◌}
use mathlib.Core.Path.{sym, ap, ◌∙◌}
use mathlib.Core.List.{◌∷◌}
use mir.Syntax.{w8, w64}
use mir.Val.{Fits, of_z}
use mir.ValLaws.{to_z-of_z, of_z-to_z}
use lib.ListN.{get_or, drop}
use Rattle.octets.specs.Be.{be}
use Rattle.message.specs.Fields.{identity_at, header_of}
use Rattle.message_words.proofs.ReadingLaws.{nine}
use Rattle.message_words.proofs.reading.put_header.Goals as goal

pub returns : goal.returns
unfolding header_of identity_at
returns c =
    let s = c.args.s.now in
    let w = c.args.out.now in
    let f : Fits w64 (be 8 s 8) = rw (← c.u64_at.ensures) (record { fits = c.u64_at.type_inv }) in
    let x = c.u64_at.ensures ∙ sym (of_z-to_z w64 (be 8 s 8) f) in
    let y = c.word_of_i8.ensures ∙ ap (of_z w64) (to_z-of_z w8 _ (record { sfits = c.signed8.type_inv }) ∙ c.signed8.ensures) in
    nine w c.told-out _ _ _ _ _ _ _ _ _
    ∙ (λ i.
    get_or s 0 0 % 16
    ∷ get_or s 0 0 / 16
    ∷ get_or s 4 0
    ∷ c.u16_at.ensures i
    ∷ x i
    ∷ c.u64_at-2.ensures i
    ∷ c.u16_at-2.ensures i
    ∷ c.u16_at-3.ensures i
    ∷ y i
    ∷ drop 9 w)
