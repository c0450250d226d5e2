-- `parts::looked_up` meets its contract: where nothing is wrong the walk finds the TLV, and where something is the checks
-- say what.
use Rattle.std.specs.Prelude.{Some, Ok, Err}
use Rattle.std.proofs.Common.{rules}
use Prim.Native.Nat.{◌+◌}
use mathlib.Core.Path.{◌≡◌, sym, ap, ◌∙◌}
use borrow.Author.Tests.{lt-ltb, le-ltb}
use Rattle.tlv.proofs.FaultLaws.{sound_check, faulty_check}
use Rattle.message.specs.Reading.{fault_check, check_of}
use Rattle.message.proofs.Laws.{no_fault, head_passed, headed_refused, part_tail}
use Rattle.message.proofs.Exactly.{stamped}
use Rattle.contents.specs.Parts.{lookup_of}
use Rattle.contents.proofs.SoundLaws.{not_looked_up}
use Rattle.contents.proofs.parts.looked_up.Goals as goal

pub returns-in_err-b : goal.returns-in_err-b
unfolding check_of
returns-in_err-b c =
    rw (← not_looked_up _ c.args.magic c.args.kind (headed_refused _ Err _ (sym c.in_err-b.ensures))) (search rules)

pub slice_bounds-t-count : goal.slice_bounds-t-count
slice_bounds-t-count c =
    let t = head_passed _ (sym c.in_ok-b.ensures) in rw t.1 t.0.0.0.1

pub slice_bounds-t-start : goal.slice_bounds-t-start
slice_bounds-t-start c =
    let t = head_passed _ (sym c.in_ok-b.ensures) in rw t.1 t.0.0.0.1

pub slice_bounds-t-end : goal.slice_bounds-t-end
slice_bounds-t-end c =
    let t = head_passed _ (sym c.in_ok-b.ensures) in rw t.1 t.0.0.1

pub returns-in_err-check : goal.returns-in_err-check
returns-in_err-check c =
    rw (← not_looked_up _ c.args.magic c.args.kind (sym c.in_err-check.ensures)) (search rules)

pub returns-in_default : goal.returns-in_default
returns-in_default c =
    let t = head_passed _ (sym c.in_ok-b.ensures) in
    let n = faulty_check _ _ _ (sym c.sound_place.ensures ∙ c.in_default.is) in
    absurd (n (rw (part_tail _ t.1) (no_fault _ _ (sym (stamped _ _ t.0) ∙ sym c.in_ok-check.ensures))))

pub returns-then-p-t : goal.returns-then-p-t
unfolding lookup_of
returns-then-p-t c =
    let t = head_passed _ (sym c.in_ok-b.ensures) in
    let q = sound_check _ _ _ (sym c.in-Some.ensures) in
    let d = stamped _ _ t.0 ∙ ap (fault_check _) (rw (part_tail _ t.1) at q.0) in
    rw (d, ← part_tail _ t.1, ← q.1, lt-ltb _ _ c.if-p-t.true) (λ i. Ok (Some ((t.1 i).size + c.in-Some.p + 4)))

pub returns-else-p-t : goal.returns-else-p-t
unfolding lookup_of
returns-else-p-t c =
    let t = head_passed _ (sym c.in_ok-b.ensures) in
    let q = sound_check _ _ _ (sym c.in-Some.ensures) in
    let d = stamped _ _ t.0 ∙ ap (fault_check _) (rw (part_tail _ t.1) at q.0) in
    rw (d, ← part_tail _ t.1, ← q.1, le-ltb _ _ c.if-p-t.false)
