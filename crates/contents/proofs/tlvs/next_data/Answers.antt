-- `tlvs::next_data` meets its contract: a TLV that is given lies in the message.
use Prim.Native.Nat.{◌+◌, ◌-◌, ◌≤◌}
use mathlib.Core.Path.{◌≡◌, sym}
use native.Mathlib.Omega.{arith}
use Rattle.contents.specs.Tlvs.{data_from}
use Rattle.contents.proofs.TlvLaws.{next_inside}
use Rattle.contents.proofs.tlvs.next_data.Goals as goal

pub slice_bounds-result-end : goal.slice_bounds-result-end
slice_bounds-result-end c =
    let i = next_inside _ _ _ _ (rw c.in-Ok-Some.field-0-is at (sym c.in-Ok-Some.ensures)) in
    omega (arith, i.inside, i.lent)

pub returns-in-Ok-Some : goal.returns-in-Ok-Some
unfolding data_from
returns-in-Ok-Some c =
    let v = c.in-Ok-Some.x in
    let n : v.place + 4 + v.length - (v.place + 4) ≡ v.length = omega arith in
    rw (← c.in-Ok-Some.ensures, c.in-Ok-Some.field-0-is, n)

pub returns-in-Ok-None : goal.returns-in-Ok-None
unfolding data_from
returns-in-Ok-None c =
    rw (← c.in-Ok-None.ensures, c.in-Ok-None.field-0-is)

pub returns-in-Err : goal.returns-in-Err
unfolding data_from
returns-in-Err c =
    rw (← c.in-Err.ensures)
