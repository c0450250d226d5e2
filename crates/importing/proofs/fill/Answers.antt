-- `fill` meets its contract: the loop's invariant says that there is room for what is left, and that it makes, behind what was stored, all of the trace.
use Prim.Native.Nat.{ℕ, ◌+◌, ◌≤◌}
use mathlib.Core.Path.{refl, sym, ap, subst, ◌∙◌}
use mathlib.Core.List.{List, ◌++◌}
use native.Mathlib.Omega.{arith}
use lib.ListN.{length, length-append}
use Rattle.stores.specs.Stores.{over}
use Rattle.pcap.specs.File.{Frame}
use Rattle.pcap.proofs.Laws.{lent_rest}
use Rattle.importing.specs.Importing.{came_out, taken_of}
use Rattle.importing.proofs.Tapes.{remains, over_length}
use Rattle.importing.proofs.Frames.{frame_stored, put_next, remains_last}
use Rattle.importing.proofs.Walk.{frames_from, frames_end, head_there, frame_here, capture_sound}
use Rattle.importing.proofs.fill.Goals as goal

pub loop-at-init : goal.loop-at-init
loop-at-init c =
    let k = capture_sound c.args.form c.args.file.now c.requires.0 in
    (k.0, k.1, omega (arith, c.requires.1), refl, refl)

pub time-t-requires : goal.time-t-requires
time-t-requires c =
    let a = c.args in
    head_there a.form a.file.now c.loop-at.at c.loop-at-test.true c.loop-at.invariant.1 _ (lent_rest a.file.now c.loop-at.at c.loop-at.invariant.0)

pub size-size-requires : goal.size-size-requires
size-size-requires c =
    let a = c.args in
    head_there a.form a.file.now c.loop-at.at c.loop-at-test.true c.loop-at.invariant.1 _ (lent_rest a.file.now c.loop-at.at c.loop-at.invariant.0)

pub slice_bounds-keep-end : goal.slice_bounds-keep-end
slice_bounds-keep-end c =
    let a = c.args in
    let k =
    frame_here a.form a.file.now c.loop-at.at c.loop-at-test.true c.loop-at.invariant.1 _ (lent_rest a.file.now c.loop-at.at c.loop-at.invariant.0) c.size-size.result c.time-t.result c.size-size.ensures c.time-t.ensures in
    k.whole

pub store-to-requires : goal.store-to-requires
store-to-requires c =
    let a = c.args in
    let k =
    frame_here a.form a.file.now c.loop-at.at c.loop-at-test.true c.loop-at.invariant.1 _ (lent_rest a.file.now c.loop-at.at c.loop-at.invariant.0) c.size-size.result c.time-t.result c.size-size.ensures c.time-t.ensures in
    let f = frames_from a.form a.file.now (c.loop-at.at + c.size-size.result) in
    let p = c.keep-told.ensures in
    let e =
    ap (λ (xs : List Frame). remains c.loop-at.opened c.loop-at.words (taken_of a.port xs)) k.frames
    ∙ frame_stored c.loop-at.opened c.loop-at.words c.loop-at.closed a.port _ f p.answer p.block p.words p.octets in
    let r = subst (λ (s : List ℕ). c.loop-at.to + length s ≤ length c.loop-at.out) e c.loop-at.invariant.2 in
    omega (arith, r, length-append (came_out c.keep-told.result c.keep-told.new.out) (remains c.keep-told.new.opened c.keep-told.new.words (taken_of a.port f)))

pub overflow_add-at : goal.overflow_add-at
overflow_add-at c =
    let a = c.args in
    let k =
    frame_here a.form a.file.now c.loop-at.at c.loop-at-test.true c.loop-at.invariant.1 _ (lent_rest a.file.now c.loop-at.at c.loop-at.invariant.0) c.size-size.result c.time-t.result c.size-size.ensures c.time-t.ensures in
    omega (arith, k.inside)

pub loop-at-preserved : goal.loop-at-preserved
loop-at-preserved c =
    let a = c.args in
    let k =
    frame_here a.form a.file.now c.loop-at.at c.loop-at-test.true c.loop-at.invariant.1 _ (lent_rest a.file.now c.loop-at.at c.loop-at.invariant.0) c.size-size.result c.time-t.result c.size-size.ensures c.time-t.ensures in
    let f = frames_from a.form a.file.now (c.loop-at.at + c.size-size.result) in
    let p = c.keep-told.ensures in
    let e =
    ap (λ (xs : List Frame). remains c.loop-at.opened c.loop-at.words (taken_of a.port xs)) k.frames
    ∙ frame_stored c.loop-at.opened c.loop-at.words c.loop-at.closed a.port _ f p.answer p.block p.words p.octets in
    let came = came_out c.keep-told.result c.keep-told.new.out in
    let left = remains c.keep-told.new.opened c.keep-told.new.words (taken_of a.port f) in
    let r : c.loop-at.to + length (came ++ left) ≤ length c.loop-at.out = subst (λ (s : List ℕ). c.loop-at.to + length s ≤ length c.loop-at.out) e c.loop-at.invariant.2 in
    let n = put_next c.loop-at.out c.loop-at.to came left r c.store-to.ensures.place c.store-to.ensures.octets in
    let b : c.loop-at.to + length came ≤ length c.loop-at.out = omega (arith, r, length-append came left) in (
      k.inside,
      k.sound,
      n.0,
      ap length c.store-to.ensures.octets ∙ over_length c.loop-at.out c.loop-at.to came b ∙ c.loop-at.invariant.3,
      n.1 ∙ sym (ap (over c.loop-at.out c.loop-at.to) e) ∙ c.loop-at.invariant.4,
    )

pub finish-requires : goal.finish-requires
finish-requires c =
    let a = c.args in
    let e =
    ap (λ (xs : List Frame). remains c.loop-at.opened c.loop-at.words (taken_of a.port xs)) (frames_end a.form a.file.now c.loop-at.at (omega arith))
    ∙ remains_last c.loop-at.opened c.loop-at.words a.port in
    subst (λ (s : List ℕ). c.loop-at.to + length s ≤ length c.loop-at.out) e c.loop-at.invariant.2

pub returns : goal.returns
returns c =
    let a = c.args in
    let e =
    ap (λ (xs : List Frame). remains c.loop-at.opened c.loop-at.words (taken_of a.port xs)) (frames_end a.form a.file.now c.loop-at.at (omega arith))
    ∙ remains_last c.loop-at.opened c.loop-at.words a.port in
    c.finish.ensures ∙ sym (ap (over c.loop-at.out c.loop-at.to) e) ∙ c.loop-at.invariant.4
