-- `put_lead` meets its contract: the first eight octets, the correction, and the reserved ones.
use Prim.Native.Nat.{ℕ}
use mathlib.Core.Path.{◌≡◌, refl, ap, ◌∙◌}
use mathlib.Core.List.{[], ◌++◌}
use native.Mathlib.Omega.{arith}
use mir.Syntax.{w64}
use mir.Val.{of_z, SFits}
use mir.ValLaws.{to_z-of_z}
use Rattle.octets.specs.Be.{octets_of}
use Rattle.stores.proofs.Buffer.{put_two}
use Rattle.layout.specs.Layout.{lead_octets}
use Rattle.layout.specs.Put.{start_octets}
use borrow.Author.Rules.{rules}
use Rattle.layout.proofs.put_lead.Goals as goal

pub returns : goal.returns
unfolding lead_octets start_octets
returns c =
    let s = c.args in
    let d = s.out.now in
    let h = s.h in
    let e : c.cast_unsigned.result ≡ of_z w64 h.correction = c.cast_unsigned.ensures ∙ ap (of_z w64) (to_z-of_z w64 h.correction ((let it : SFits w64 c.args.h.correction = search rules in it))) in
    let o8 = start_octets h s.kind s.size in
    let c8 = octets_of 8 (of_z w64 h.correction) [] in
    put_two d 0 (omega arith) (o8 ++ c8) (octets_of 4 0 []) refl refl refl
    (put_two d 0 (omega arith) o8 c8 refl refl (ap (λ (n : ℕ). octets_of 8 n []) e) c.put_start.ensures c.eight.ensures)
    c.four.ensures
