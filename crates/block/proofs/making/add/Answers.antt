-- `add` meets its contract: the count, and then time, port, length and message, one behind the other.
use Prim.Native.Nat.{ℕ, suc, ◌+◌, ◌≤◌}
use mathlib.Core.Path.{◌≡◌, refl, sym, ap, ◌∙◌}
use mathlib.Core.List.{[], ◌∷◌, ◌++◌, append-nil}
use native.Mathlib.Omega.{arith}
use native.Mathlib.Numerals.{add-one}
use lib.ListN.{length}
use Rattle.octets.specs.Be.{octets_of}
use Rattle.stores.specs.Stores.{over}
use Rattle.stores.proofs.Buffer.{put_two}
use Rattle.block.specs.Layout.{count_of}
use Rattle.block.specs.Making.{added_to}
use Rattle.block.proofs.making.add.Goals as goal

pub returns : goal.returns
unfolding added_to
returns c =
    let s = c.args in
    let at = s.at in
    let t = s.t in
    let p = s.port in
    let m = s.message.now in
    let d = s.block.now in
    let e : c.from.result + 1 ≡ suc (count_of d) = add-one c.from.result ∙ ap suc (c.from.ensures ∙ c.count-n.ensures) in
    let x1 = octets_of 8 t [] in
    let x2 = octets_of 8 t (p ∷ []) in
    let x3 = octets_of 8 t (p ∷ octets_of 2 (length m) []) in
    let o = c.two.new.out in
    let h : at ≤ length o = omega arith in
    let q3 = put_two o at h x1 (p ∷ []) refl refl refl c.eight.ensures c.one.ensures in
    let q4 = put_two o at h x2 (octets_of 2 (length m) []) refl refl refl q3 c.two-2.ensures in
    put_two o at h x3 m refl refl refl q4 c.copy_in.ensures
    ∙ (λ i. over (c.two.ensures i) at (x3 ++ sym (append-nil m) i))
    ∙ ap (λ (v : ℕ). over (over d 14 (octets_of 2 v [])) at (x3 ++ m ++ [])) e
