-- `put_offset` meets its contract: five parts, one behind the other.
use Prim.Native.Nat.{ℕ}
use mathlib.Core.Path.{◌≡◌, refl, ap, ◌∙◌}
use mathlib.Core.List.{[], ◌∷◌}
use native.Mathlib.Omega.{arith}
use mir.Syntax.{w16}
use mir.Val.{of_z, SFits}
use mir.ValLaws.{to_z-of_z}
use Rattle.octets.specs.Be.{octets_of}
use Rattle.stores.proofs.Buffer.{put_two}
use Rattle.layout.specs.Put.{offset_octets}
use borrow.Author.Rules.{rules}
use Rattle.layout.proofs.put_offset.Goals as goal

pub returns : goal.returns
unfolding offset_octets
returns c =
    let s = c.args in
    let d = s.out.now in
    let a = s.a in
    let u = of_z w16 a.utc in
    let e : c.cast_unsigned.result ≡ u = c.cast_unsigned.ensures ∙ ap (of_z w16) (to_z-of_z w16 a.utc ((let it : SFits w16 c.args.a.utc = search rules in it))) in
    put_two d 44 (omega arith) (octets_of 2 u (0 ∷ a.priority1 ∷ a.class ∷ [])) (a.accuracy ∷ []) refl refl refl
    (put_two d 44 (omega arith) (octets_of 2 u (0 ∷ a.priority1 ∷ [])) (a.class ∷ []) refl refl refl
    (put_two d 44 (omega arith) (octets_of 2 u (0 ∷ [])) (a.priority1 ∷ []) refl refl refl
    (put_two d 44 (omega arith) (octets_of 2 u []) (0 ∷ []) refl (ap (λ (n : ℕ). octets_of 2 n []) e) refl c.two.ensures c.one.ensures)
    c.one-2.ensures)
    c.one-3.ensures)
    c.one-4.ensures
