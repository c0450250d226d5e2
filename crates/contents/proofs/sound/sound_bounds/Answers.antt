-- `sound::sound_bounds` meets its contract: the checks before the tail's, then those of the tail.
use Rattle.std.specs.Prelude.{Some}
use mathlib.Core.Path.{sym, ap, ◌∙◌}
use Rattle.tlv.proofs.FaultLaws.{is_sound_check, unsound_check}
use Rattle.contents.specs.Sound.{sound_bounds}
use Rattle.message.proofs.Laws.{no_fault, part_tail}
use Rattle.message.proofs.Exactly.{stamped}
use Rattle.contents.proofs.SoundLaws.{told_bounds, no_bounds_lem, sound_none}
use Rattle.contents.proofs.sound.sound_bounds.Goals as goal

pub returns-in_err-b : goal.returns-in_err-b
returns-in_err-b c =
    c.from_residual.ensures ∙ sound_none _ _ (no_bounds_lem _ _ (sym c.in_err-b.ensures))

pub slice_bounds-is_sound-count : goal.slice_bounds-is_sound-count
slice_bounds-is_sound-count c =
    let t = told_bounds _ (sym c.in_ok-b.ensures) in rw t.1 t.0.0.0.1

pub slice_bounds-is_sound-start : goal.slice_bounds-is_sound-start
slice_bounds-is_sound-start c =
    let t = told_bounds _ (sym c.in_ok-b.ensures) in rw t.1 t.0.0.0.1

pub slice_bounds-is_sound-end : goal.slice_bounds-is_sound-end
slice_bounds-is_sound-end c =
    let t = told_bounds _ (sym c.in_ok-b.ensures) in rw t.1 t.0.0.1

pub returns-then-not-is_sound : goal.returns-then-not-is_sound
returns-then-not-is_sound c =
    let t = told_bounds _ (sym c.in_ok-b.ensures) in
    let n = unsound_check _ _ (sym c.if-not-is_sound.ensures) in
    sound_none _ _ (λ d. n (rw (part_tail _ t.1) (no_fault _ _ (sym (stamped _ _ t.0) ∙ d))))

pub returns : goal.returns
unfolding sound_bounds
returns c =
    let t = told_bounds _ (sym c.in_ok-b.ensures) in
    let d = is_sound_check _ _ (sym c.if-not-is_sound.ensures) in
    rw (stamped _ _ t.0, rw (part_tail _ t.1) at d) (ap Some t.1)
