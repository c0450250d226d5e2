-- `put_header` meets its contract: three parts, one behind the other.
use Prim.Native.Nat.{ℕ}
use mathlib.Core.Path.{refl, ap}
use mathlib.Core.List.{[], ◌++◌}
use native.Mathlib.Omega.{arith}
use Rattle.stores.proofs.Buffer.{put_two}
use Rattle.layout.specs.Layout.{kind_of, control_of, lead_octets, identity_octets, close_octets}
use Rattle.layout.proofs.put_header.Goals as goal

pub returns : goal.returns
unfolding close_octets identity_octets lead_octets
returns c =
    let a = c.args in
    let b = a.b in
    let h = a.h in
    let L = lead_octets h (kind_of b) a.size [] in
    let I = identity_octets h.source [] in
    let C = close_octets h (control_of b) [] in
    let el = ap (λ (k : ℕ). lead_octets h k a.size []) c.kind_of.ensures in
    let ec = ap (λ (k : ℕ). close_octets h k []) c.control_of.ensures in
    put_two a.out.now 0 (omega arith) (L ++ I) C refl refl ec
    (put_two a.out.now 0 (omega arith) L I refl el refl c.put_lead.ensures c.put_identity.ensures)
    c.put_close.ensures
