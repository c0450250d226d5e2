-- `weigh` meets its contract: the loop's invariant says that the frames that are left, behind the words of those before them, come to what all come to.
use Rattle.std.proofs.lemmas.Result.{err_from_is_err_and}
use Prim.Native.Nat.{ℕ, ◌+◌}
use mathlib.Core.Path.{refl, sym, ap, ◌∙◌}
use mathlib.Core.List.{List}
use native.Mathlib.Omega.{arith}
use Rattle.pcap.proofs.Laws.{lent_rest}
use Rattle.importing.proofs.Frames.{weight_from, weight_end, weight_stop, weight_more}
use Rattle.importing.proofs.Walk.{frames_from, frames_end, head_there, frame_here, capture_sound}
use Rattle.importing.proofs.weigh.Goals as goal

pub loop-at-init : goal.loop-at-init
loop-at-init c =
    let k = capture_sound c.args.form c.args.file.now c.requires in
    (k.0, k.1, refl)

pub time-t-requires : goal.time-t-requires
time-t-requires c =
    let a = c.args in
    head_there a.form a.file.now c.loop-at.at c.loop-at-test.true c.loop-at.invariant.1 _ (lent_rest a.file.now c.loop-at.at c.loop-at.invariant.0)

pub size-size-requires : goal.size-size-requires
size-size-requires c =
    let a = c.args in
    head_there a.form a.file.now c.loop-at.at c.loop-at-test.true c.loop-at.invariant.1 _ (lent_rest a.file.now c.loop-at.at c.loop-at.invariant.0)

pub slice_bounds-foresee-end : goal.slice_bounds-foresee-end
slice_bounds-foresee-end c =
    let a = c.args in
    let k =
    frame_here a.form a.file.now c.loop-at.at c.loop-at-test.true c.loop-at.invariant.1 _ (lent_rest a.file.now c.loop-at.at c.loop-at.invariant.0) c.size-size.result c.time-t.result c.size-size.ensures c.time-t.ensures in
    k.whole

pub returns-in_err-foresee : goal.returns-in_err-foresee
returns-in_err-foresee c =
    let a = c.args in
    let k =
    frame_here a.form a.file.now c.loop-at.at c.loop-at-test.true c.loop-at.invariant.1 _ (lent_rest a.file.now c.loop-at.at c.loop-at.invariant.0) c.size-size.result c.time-t.result c.size-size.ensures c.time-t.ensures in
    let f = frames_from a.form a.file.now (c.loop-at.at + c.size-size.result) in
    let e = err_from_is_err_and c.from_residual.result c.from_residual.ensures.1 in
    rw (e.1, e.2)
    (sym (weight_stop c.loop-at.words a.port _ f c.in_err-foresee.field-0.0 (sym c.foresee.ensures.answer ∙ c.in_err-foresee.was))
    ∙ sym (ap (weight_from c.loop-at.words a.port) k.frames)
    ∙ c.loop-at.invariant.2)

pub overflow_add-at : goal.overflow_add-at
overflow_add-at c =
    let a = c.args in
    let k =
    frame_here a.form a.file.now c.loop-at.at c.loop-at-test.true c.loop-at.invariant.1 _ (lent_rest a.file.now c.loop-at.at c.loop-at.invariant.0) c.size-size.result c.time-t.result c.size-size.ensures c.time-t.ensures in
    omega (arith, k.inside)

pub loop-at-preserved : goal.loop-at-preserved
loop-at-preserved c =
    let a = c.args in
    let k =
    frame_here a.form a.file.now c.loop-at.at c.loop-at-test.true c.loop-at.invariant.1 _ (lent_rest a.file.now c.loop-at.at c.loop-at.invariant.0) c.size-size.result c.time-t.result c.size-size.ensures c.time-t.ensures in
    let f = frames_from a.form a.file.now (c.loop-at.at + c.size-size.result) in (
      k.inside,
      k.sound,
      ap (λ (ws : List ℕ). weight_from ws a.port f) c.foresee.ensures.words
          ∙ sym (weight_more c.loop-at.words a.port _ f (sym c.foresee.ensures.answer ∙ c.in_ok-foresee.was))
          ∙ sym (ap (weight_from c.loop-at.words a.port) k.frames)
          ∙ c.loop-at.invariant.2,
    )

pub returns : goal.returns
returns c =
    let a = c.args in
    sym (weight_end c.loop-at.words a.port)
    ∙ sym (ap (weight_from c.loop-at.words a.port) (frames_end a.form a.file.now c.loop-at.at (omega arith)))
    ∙ c.loop-at.invariant.2
