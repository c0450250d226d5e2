-- `put_start` meets its contract: six parts, one behind the other.
use Prim.Native.Nat.{◌+◌, ◌*◌}
use mathlib.Core.Path.{refl}
use mathlib.Core.List.{[], ◌∷◌}
use native.Mathlib.Omega.{arith}
use Rattle.octets.specs.Be.{octets_of}
use Rattle.stores.proofs.Buffer.{put_two}
use Rattle.layout.specs.Put.{start_octets}
use Rattle.layout.proofs.put_start.Goals as goal

pub returns : goal.returns
unfolding start_octets
returns c =
    let s = c.args in
    let d = s.out.now in
    let h = s.h in
    let o1 = (h.transport * 16 + s.kind) ∷ [] in
    let o2 = (h.transport * 16 + s.kind) ∷ 2 ∷ [] in
    let o4 = (h.transport * 16 + s.kind) ∷ 2 ∷ octets_of 2 s.size [] in
    let o5 = (h.transport * 16 + s.kind) ∷ 2 ∷ octets_of 2 s.size (h.domain ∷ []) in
    let o6 = (h.transport * 16 + s.kind) ∷ 2 ∷ octets_of 2 s.size (h.domain ∷ 0 ∷ []) in
    put_two d 0 (omega arith) o6 (octets_of 2 h.flags []) refl refl refl
    (put_two d 0 (omega arith) o5 (0 ∷ []) refl refl refl
    (put_two d 0 (omega arith) o4 (h.domain ∷ []) refl refl refl
    (put_two d 0 (omega arith) o2 (octets_of 2 s.size []) refl refl refl
    (put_two d 0 (omega arith) o1 (2 ∷ []) refl refl refl c.one.ensures c.one-2.ensures)
    c.two.ensures)
    c.one-3.ensures)
    c.one-4.ensures)
    c.two-2.ensures
