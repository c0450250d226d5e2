-- `weigh_all` meets its contract: a block that is left is the first of those that are left, and cannot be written, or is weighed.
use Rattle.std.specs.Prelude.{Some}
use Prim.Native.Nat.{ℕ, ◌*◌, ◌≤◌}
use mathlib.Core.Path.{◌≡◌, sym, ap, subst, ◌∙◌}
use mathlib.Core.List.{List}
use mathlib.Core.Bool.{true}
use native.Mathlib.Omega.{arith}
use lib.ListN.{length, length-append}
use Rattle.std.specs.Slice.Iter.{chunks_rest, chunks_size}
use Rattle.block.specs.Layout.{entries_of}
use Rattle.judging.specs.Tests.{is_laid}
use Rattle.judging.proofs.TestLaws.{laid}
use Rattle.playback.specs.Playback.{blocks_in, entries_of_all, fresh_reader}
use Rattle.playback.proofs.Blocks.{blocks_end, blocks_more, AllLaid, all_laid}
use Rattle.exporting.specs.Exporting.{weight_of, records_of}
use Rattle.exporting.proofs.Few.{trace_short}
use Rattle.exporting.proofs.Writable.{weight_by, weight_begin, weight_end, weighs, block_stop, block_more}
use Rattle.exporting.proofs.Packets.{block_packets}
use Rattle.exporting.proofs.weigh_all.Goals as goal

pub loop-s-init : goal.loop-s-init
loop-s-init c =
    let s = c.args.trace.now in
    let e = c.into_iter-s-iterator.ensures.into_iter_gives in
    let r = ap chunks_rest e ∙ c.chunks-s-items.ensures.rest in (
      ap chunks_size e ∙ c.chunks-s-items.ensures.size,
      rw r (all_laid fresh_reader (blocks_in s) c.requires),
      omega (arith, ap length r),
      rw r (weight_begin c.first_port-port.result (records_of s) ∙ ap (λ (p : ℕ). weight_of p (records_of s)) c.first_port-port.ensures),
    )

pub weigh-requires : goal.weigh-requires
weigh-requires c =
    let l = c.loop-s in
    (subst AllLaid (blocks_more _ c.in-Some.s.now _ _ l.invariant.0 c.in-Some.ensures.steps.1) l.invariant.1).0

pub returns-in_err-total : goal.returns-in_err-total
returns-in_err-total c =
    let l = c.loop-s in
    let on = blocks_more _ c.in-Some.s.now _ _ l.invariant.0 c.in-Some.ensures.steps.1 in
    rw c.from_residual.ensures
    (block_stop l.total c.first_port-port.result c.in-Some.s.now (blocks_in (chunks_rest c.next.new.self)) (sym c.weigh.ensures ∙ c.in_err-total.was)
    ∙ ap (λ (bs : List (List ℕ)). weight_by l.total c.first_port-port.result (entries_of_all bs)) (sym on)
    ∙ l.invariant.3)

-- the packets of a block weigh at most three times the block
light : (b : List ℕ) (port n : ℕ) → is_laid b ≡ true → weight_of port (entries_of b) ≡ Some n → n ≤ 3 * length b
light b port n is e = omega (arith, (laid b is).whole, (weighs port (entries_of b) n e).1, block_packets b is)

pub overflow_add-total : goal.overflow_add-total
overflow_add-total c =
    let l = c.loop-s in
    let b = c.in-Some.s.now in
    let step = c.in-Some.ensures.steps.1 in
    let is = (subst AllLaid (blocks_more _ b _ _ l.invariant.0 step) l.invariant.1).0 in
    let w = light b c.first_port-port.result c.in_ok-total.field-0 is (sym c.weigh.ensures ∙ c.in_ok-total.was) in
    let few = trace_short c.args.trace.now (λ j. omega (arith, c.type_inv.trace j)) c.requires in
    omega (arith, few, w, ap length step.0, length-append b (chunks_rest c.next.new.self), l.invariant.2)

pub loop-s-preserved : goal.loop-s-preserved
loop-s-preserved c =
    let l = c.loop-s in
    let b = c.in-Some.s.now in
    let step = c.in-Some.ensures.steps.1 in
    let on = blocks_more _ b _ _ l.invariant.0 step in
    let k = subst AllLaid on l.invariant.1 in
    let e = sym c.weigh.ensures ∙ c.in_ok-total.was in
    let w = light b c.first_port-port.result c.in_ok-total.field-0 k.0 e in (
      c.in-Some.ensures.steps.0 ∙ l.invariant.0,
      k.1,
      omega (arith, w, ap length step.0, length-append b (chunks_rest c.next.new.self), l.invariant.2),
      block_more l.total c.first_port-port.result b (blocks_in (chunks_rest c.next.new.self)) c.in_ok-total.field-0 e
          ∙ ap (λ (bs : List (List ℕ)). weight_by l.total c.first_port-port.result (entries_of_all bs)) (sym on)
          ∙ l.invariant.3,
    )

pub returns : goal.returns
unfolding entries_of_all
returns c =
    let l = c.loop-s in
    weight_end l.total c.first_port-port.result
    ∙ ap (λ (bs : List (List ℕ)). weight_by l.total c.first_port-port.result (entries_of_all bs)) (sym (blocks_end _ c.in-None.ensures.steps.1.0))
    ∙ l.invariant.3
