-- `put_grandmaster` meets its contract: five parts, one behind the other.
use mathlib.Core.Path.{refl}
use mathlib.Core.List.{[], ◌∷◌, ◌++◌}
use native.Mathlib.Omega.{arith}
use Rattle.octets.specs.Be.{octets_of}
use Rattle.stores.proofs.Buffer.{put_two}
use Rattle.layout.specs.Put.{grandmaster_octets}
use Rattle.layout.proofs.put_grandmaster.Goals as goal

pub returns : goal.returns
unfolding grandmaster_octets
returns c =
    let s = c.args in
    let d = s.out.now in
    let a = s.a in
    let v = octets_of 2 a.variance [] in
    let p = octets_of 2 a.variance (a.priority2 ∷ []) in
    let g = p ++ octets_of 8 a.grandmaster [] in
    let n = g ++ octets_of 2 a.steps [] in
    put_two d 50 (omega arith) n (a.timesource ∷ []) refl refl refl
    (put_two d 50 (omega arith) g (octets_of 2 a.steps []) refl refl refl
    (put_two d 50 (omega arith) p (octets_of 8 a.grandmaster []) refl refl refl
    (put_two d 50 (omega arith) v (a.priority2 ∷ []) refl refl refl c.two.ensures c.one.ensures)
    c.eight.ensures)
    c.two-2.ensures)
    c.one-2.ensures
