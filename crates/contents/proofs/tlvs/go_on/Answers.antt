-- `tlvs::go_on` meets its contract: the checks before the tail's, then what stands at the octet.
use Rattle.std.specs.Prelude.{Err}
use Rattle.std.proofs.Common.{rules}
use Prim.Native.Nat.{ℕ, ◌-◌, ◌^◌, ◌<◌}
use mathlib.Core.Path.{sym, ap, ◌∙◌}
use native.Mathlib.Omega.{arith}
use Rattle.octets.specs.Be.{be}
use Rattle.octets.proofs.Laws.{be_below}
use Rattle.refusal.specs.Choice.{refuse}
use Rattle.message.specs.declared.reading.Bounds.{Bounds}
use Rattle.message.proofs.Laws.{head_passed, headed_passed, headed_refused, part_tail, part_short}
use Rattle.contents.specs.Tlvs.{standing}
use Rattle.contents.proofs.tlvs.go_on.Goals as goal

pub returns-in_err-b : goal.returns-in_err-b
unfolding refuse
returns-in_err-b c =
    rw (headed_refused _ Err _ (sym c.in_err-b.ensures)) (search rules)

pub slice_bounds-stands_at-count : goal.slice_bounds-stands_at-count
slice_bounds-stands_at-count c =
    let t = head_passed _ (sym c.in_ok-b.ensures) in rw t.1 t.0.0.0.1

pub slice_bounds-stands_at-start : goal.slice_bounds-stands_at-start
slice_bounds-stands_at-start c =
    let t = head_passed _ (sym c.in_ok-b.ensures) in rw t.1 t.0.0.0.1

pub slice_bounds-stands_at-end : goal.slice_bounds-stands_at-end
slice_bounds-stands_at-end c =
    let t = head_passed _ (sym c.in_ok-b.ensures) in rw t.1 t.0.0.1

pub stands_at-requires : goal.stands_at-requires
stands_at-requires c =
    let s = c.args.s.now in
    let l : be 2 s 2 < 256 ^ 2 = be_below 2 {n = 2} s 2 (omega arith) (λ j. (c.type_inv.s j).fits) in
    let t = head_passed _ (sym c.in_ok-b.ensures) in
    rw t.1 (part_short _ _ _ t.0.0.0.1 l)

pub returns : goal.returns
returns c =
    let a = c.args in
    let t = head_passed _ (sym c.in_ok-b.ensures) in
    let z = ap (λ (x : Bounds). x.size) t.1 in
    let p = c.saturating_sub.ensures ∙ ap (λ (n : ℕ). a.from - n) z in
    c.stands_at.ensures
    ∙ (λ i. standing a.magic (z i) (part_tail _ t.1 i) (p i))
    ∙ sym (headed_passed _ Err _ t.0)
