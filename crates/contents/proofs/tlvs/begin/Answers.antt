-- `tlvs::begin` meets its contract: the checks, then what stands at the tail's start.
use Rattle.std.proofs.Common.{rules}
use Prim.Native.Nat.{◌^◌, ◌<◌}
use mathlib.Core.Path.{sym}
use native.Mathlib.Omega.{arith}
use Rattle.octets.specs.Be.{be}
use Rattle.octets.proofs.Laws.{be_below}
use Rattle.message.proofs.Laws.{bounded, tail_length}
use Rattle.contents.proofs.tlvs.begin.Goals as goal

pub bounds-s-0 : goal.bounds-s-0
bounds-s-0 c =
    let b = bounded _ _ (sym c.in_ok-check.ensures) in omega arith

pub checked_tail-requires : goal.checked_tail-requires
checked_tail-requires c =
    bounded _ _ (sym c.in_ok-check.ensures)

pub stands_at-requires : goal.stands_at-requires
stands_at-requires c =
    let s = c.args.s.now in
    let l : be 2 s 2 < 256 ^ 2 = be_below 2 {n = 2} s 2 (omega arith) (λ j. (c.type_inv.s j).fits) in
    let b = bounded _ _ (sym c.in_ok-check.ensures) in
    let n = tail_length _ b in
    rw c.checked_tail.ensures (omega (arith, c.fixed_size-size.ensures, l, n, b.least))
