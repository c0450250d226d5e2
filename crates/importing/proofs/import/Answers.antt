-- `import` meets its contract: check by check, in their order; and the blocks that were counted are those of the trace.
use Rattle.std.specs.Prelude.{Ok}
use Rattle.std.proofs.lemmas.Result.{err_from_is_err_and}
use Prim.Native.Nat.{ℕ, ◌*◌, ◌/◌, ◌≤◌, ◌<◌}
use mathlib.Core.Path.{◌≡◌, sym, ap, subst, ◌∙◌}
use mathlib.Core.Bool.{true}
use native.Mathlib.Omega.{arith}
use lib.ListN.{length}
use Rattle.refusal.specs.Limits.{is_port}
use Rattle.pcap.specs.declared.Form.{Form}
use Rattle.pcap.specs.Form.{form_of}
use Rattle.stores.specs.Stores.{over}
use Rattle.recording.specs.Recording.{next_of}
use Rattle.pcap.specs.File.{is_capture, is_capture_in, frames_in, frames_of}
use Rattle.importing.specs.Importing.{taken_of, records_check, fresh_words, words_after_all, trace_by, records_in, weight_of}
use Rattle.importing.proofs.Tapes.{trace_length}
use Rattle.importing.proofs.Walk.{capture_sound}
use Rattle.importing.proofs.Answers.{weight_refused, weight_blocks, no_capture, no_port, one_refused, no_room, imported, tells_refusal, tells_octets}
use Rattle.importing.proofs.import.Goals as goal

-- blocks that were counted, and octets
fewer : (room n m : ℕ) → m ≡ 512 * n → room / 512 < n → room < m
fewer room n m e h = omega arith

enough : (room n m : ℕ) → m ≡ 512 * n → n ≤ room / 512 → m ≤ room
enough room n m e h = omega arith

pub returns-then-not-is_capture : goal.returns-then-not-is_capture
returns-then-not-is_capture c =
    let a = c.args in
    let p = tells_refusal a.out.now a.port a.file.now _ (no_capture (length a.out.now) a.port a.file.now (sym c.is_capture.ensures ∙ c.if-not-is_capture.true)) in
    record { answer = p.0; octets = p.1 }

pub returns-then-not-is_port : goal.returns-then-not-is_port
returns-then-not-is_port c =
    let a = c.args in
    let p = tells_refusal a.out.now a.port a.file.now _ (no_port (length a.out.now) a.port a.file.now (sym c.is_capture.ensures ∙ c.if-not-is_capture.false) (sym c.is_port.ensures ∙ c.if-not-is_port.true)) in
    record { answer = p.0; octets = p.1 }

pub form_of-form-requires : goal.form_of-form-requires
form_of-form-requires c =
    let s = c.args.file.now in
    let n = capture_sound (form_of s) s (sym c.is_capture.ensures ∙ c.if-not-is_capture.false) in
    omega (arith, n.0)

pub returns-then-out-n : goal.returns-then-out-n
returns-then-out-n c =
    let a = c.args in
    let file = a.file.now in
    let is : is_capture file ≡ true = sym c.is_capture.ensures ∙ c.if-not-is_capture.false in
    let on : is_port a.port ≡ true = sym c.is_port.ensures ∙ c.if-not-is_port.false in
    let told : c.weigh.result ≡ weight_of a.port (frames_of file) = c.weigh.ensures ∙ ap (λ (g : Form). weight_of a.port (frames_in g file)) c.form_of-form.ensures in
    let b = weight_blocks (records_check fresh_words (records_in a.port file)) (next_of (words_after_all fresh_words (records_in a.port file))) c.in_ok-n.n (sym c.in_ok-n.was ∙ told) in
    let l : length (trace_by (records_in a.port file)) ≡ 512 * c.in_ok-n.n = trace_length (records_in a.port file) ∙ sym (ap (λ (m : ℕ). 512 * m) b.1) in
    let p = tells_refusal a.out.now a.port file _ (no_room (length a.out.now) a.port file is on b.0 (fewer _ _ _ l c.if-out-n.true)) in
    record { answer = p.0; octets = p.1 }

pub fill-requires : goal.fill-requires
fill-requires c =
    let a = c.args in
    let file = a.file.now in
    let is : is_capture file ≡ true = sym c.is_capture.ensures ∙ c.if-not-is_capture.false in
    let on : is_port a.port ≡ true = sym c.is_port.ensures ∙ c.if-not-is_port.false in
    let told : c.weigh.result ≡ weight_of a.port (frames_of file) = c.weigh.ensures ∙ ap (λ (g : Form). weight_of a.port (frames_in g file)) c.form_of-form.ensures in
    let b = weight_blocks (records_check fresh_words (records_in a.port file)) (next_of (words_after_all fresh_words (records_in a.port file))) c.in_ok-n.n (sym c.in_ok-n.was ∙ told) in
    let l : length (trace_by (records_in a.port file)) ≡ 512 * c.in_ok-n.n = trace_length (records_in a.port file) ∙ sym (ap (λ (m : ℕ). 512 * m) b.1) in (
      subst (λ (g : Form). is_capture_in g file ≡ true) (sym c.form_of-form.ensures) is,
      subst (λ (g : Form). length (trace_by (taken_of a.port (frames_in g file))) ≤ length a.out.now) (sym c.form_of-form.ensures) (enough _ _ _ l c.if-out-n.false),
    )

pub returns-in_err-n : goal.returns-in_err-n
returns-in_err-n c =
    let a = c.args in
    let file = a.file.now in
    let is : is_capture file ≡ true = sym c.is_capture.ensures ∙ c.if-not-is_capture.false in
    let on : is_port a.port ≡ true = sym c.is_port.ensures ∙ c.if-not-is_port.false in
    let told : c.weigh.result ≡ weight_of a.port (frames_of file) = c.weigh.ensures ∙ ap (λ (g : Form). weight_of a.port (frames_in g file)) c.form_of-form.ensures in
    let p = tells_refusal a.out.now a.port file _ (one_refused (length a.out.now) a.port file is on _ (weight_refused (records_check fresh_words (records_in a.port file)) (next_of (words_after_all fresh_words (records_in a.port file))) c.in_err-n.field-0.0 (sym c.in_err-n.was ∙ told))) in
    let e = err_from_is_err_and c.from_residual.result c.from_residual.ensures.1 in
    record { answer = rw (e.1, e.2) p.0; octets = p.1 }

pub returns-clause-answer : goal.returns-clause-answer
returns-clause-answer c =
    let a = c.args in
    let file = a.file.now in
    let is : is_capture file ≡ true = sym c.is_capture.ensures ∙ c.if-not-is_capture.false in
    let on : is_port a.port ≡ true = sym c.is_port.ensures ∙ c.if-not-is_port.false in
    let told : c.weigh.result ≡ weight_of a.port (frames_of file) = c.weigh.ensures ∙ ap (λ (g : Form). weight_of a.port (frames_in g file)) c.form_of-form.ensures in
    let b = weight_blocks (records_check fresh_words (records_in a.port file)) (next_of (words_after_all fresh_words (records_in a.port file))) c.in_ok-n.n (sym c.in_ok-n.was ∙ told) in
    let l : length (trace_by (records_in a.port file)) ≡ 512 * c.in_ok-n.n = trace_length (records_in a.port file) ∙ sym (ap (λ (m : ℕ). 512 * m) b.1) in
    let t = tells_octets a.out.now a.port file _ (imported (length a.out.now) a.port file is on b.0 (enough _ _ _ l c.if-out-n.false)) in ap Ok (omega (arith, l)) ∙ t.0

pub returns-clause-octets : goal.returns-clause-octets
returns-clause-octets c =
    let a = c.args in
    let file = a.file.now in
    let is : is_capture file ≡ true = sym c.is_capture.ensures ∙ c.if-not-is_capture.false in
    let on : is_port a.port ≡ true = sym c.is_port.ensures ∙ c.if-not-is_port.false in
    let told : c.weigh.result ≡ weight_of a.port (frames_of file) = c.weigh.ensures ∙ ap (λ (g : Form). weight_of a.port (frames_in g file)) c.form_of-form.ensures in
    let b = weight_blocks (records_check fresh_words (records_in a.port file)) (next_of (words_after_all fresh_words (records_in a.port file))) c.in_ok-n.n (sym c.in_ok-n.was ∙ told) in
    let l : length (trace_by (records_in a.port file)) ≡ 512 * c.in_ok-n.n = trace_length (records_in a.port file) ∙ sym (ap (λ (m : ℕ). 512 * m) b.1) in
    let t = tells_octets a.out.now a.port file _ (imported (length a.out.now) a.port file is on b.0 (enough _ _ _ l c.if-out-n.false)) in c.fill.ensures ∙ ap (λ (g : Form). over a.out.now 0 (trace_by (taken_of a.port (frames_in g file)))) c.form_of-form.ensures ∙ t.1
