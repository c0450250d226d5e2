-- `reading::check` meets its contract: the checks before the tail's, then the tail's.
use Rattle.std.specs.Prelude.{Err}
use Prim.Native.Nat.{◌^◌, ◌<◌, ◌-◌}
use mathlib.Core.Path.{◌≡◌, sym, ap, ◌∙◌}
use native.Mathlib.Omega.{arith}
use Rattle.octets.specs.Be.{be}
use Rattle.octets.proofs.Laws.{be_below}
use Rattle.std.proofs.Common.{rules}
use Rattle.tlv.specs.Faults.{fault_of}
use Rattle.message.specs.Reading.{fault_check, check_of}
use Rattle.message.specs.declared.reading.Bounds.{Bounds}
use Rattle.message.proofs.Laws.{head_passed, headed_passed, headed_refused, part_tail, part_short, no_tail}
use Rattle.message.proofs.reading.check.Goals as goal

pub returns-in_err-b : goal.returns-in_err-b
unfolding check_of
returns-in_err-b c =
    rw (headed_refused _ Err _ (sym c.head.ensures ∙ c.in_err-b.was)) (search rules)

pub returns-then-b : goal.returns-then-b
unfolding check_of
returns-then-b c =
    let t = head_passed _ (sym c.head.ensures ∙ c.in_ok-b.was) in
    let z : c.in_ok-b.b.length - c.in_ok-b.b.size ≡ 0 = omega arith in
    rw (headed_passed _ Err _ t.0, ← part_tail _ t.1, z, no_tail)

pub slice_bounds-tail_check-count : goal.slice_bounds-tail_check-count
slice_bounds-tail_check-count c =
    let t = head_passed _ (sym c.head.ensures ∙ c.in_ok-b.was) in rw t.1 t.0.0.0.1

pub slice_bounds-tail_check-start : goal.slice_bounds-tail_check-start
slice_bounds-tail_check-start c =
    let t = head_passed _ (sym c.head.ensures ∙ c.in_ok-b.was) in rw t.1 t.0.0.0.1

pub slice_bounds-tail_check-end : goal.slice_bounds-tail_check-end
slice_bounds-tail_check-end c =
    let t = head_passed _ (sym c.head.ensures ∙ c.in_ok-b.was) in rw t.1 t.0.0.1

pub tail_check-requires : goal.tail_check-requires
tail_check-requires c =
    let s = c.args.s.now in
    let l : be 2 s 2 < 256 ^ 2 = be_below 2 {n = 2} s 2 (omega arith) (λ j. (c.type_inv.s j).fits) in
    let t = head_passed _ (sym c.head.ensures ∙ c.in_ok-b.was) in
    rw t.1 (part_short _ _ _ t.0.0.0.1 l)

pub returns : goal.returns
unfolding check_of
returns c =
    let t = head_passed _ (sym c.head.ensures ∙ c.in_ok-b.was) in
    let z = ap (λ (b : Bounds). b.size) t.1 in
    c.tail_check.ensures
    ∙ (λ i. fault_check (z i) (fault_of c.args.magic (part_tail _ t.1 i)))
    ∙ sym (headed_passed _ Err _ t.0)
