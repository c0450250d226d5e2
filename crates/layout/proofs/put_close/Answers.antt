-- `put_close` meets its contract: sequenceId, controlField and interval, one behind the other.
use Prim.Native.Nat.{ℕ}
use mathlib.Core.Path.{◌≡◌, refl, ap, ◌∙◌}
use mathlib.Core.List.{[], ◌∷◌}
use native.Mathlib.Omega.{arith}
use mir.Syntax.{w8}
use mir.Val.{of_z, SFits}
use mir.ValLaws.{to_z-of_z}
use Rattle.octets.specs.Be.{octets_of}
use Rattle.stores.proofs.Buffer.{put_two}
use Rattle.layout.specs.Layout.{close_octets}
use borrow.Author.Rules.{rules}
use Rattle.layout.proofs.put_close.Goals as goal

pub returns : goal.returns
unfolding close_octets
returns c =
    let s = c.args in
    let d = s.out.now in
    let h = s.h in
    let e : c.cast_unsigned.result ≡ of_z w8 h.interval = c.cast_unsigned.ensures ∙ ap (of_z w8) (to_z-of_z w8 h.interval ((let it : SFits w8 c.args.h.interval = search rules in it))) in
    put_two d 30 (omega arith) (octets_of 2 h.sequence (s.control ∷ [])) (of_z w8 h.interval ∷ []) refl refl (ap (λ (n : ℕ). n ∷ []) e)
    (put_two d 30 (omega arith) (octets_of 2 h.sequence []) (s.control ∷ []) refl refl refl c.two.ensures c.one.ensures)
    c.one-2.ensures
