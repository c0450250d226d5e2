-- `export` meets its contract, outcome by outcome: what is refused leaves all as it was, else the capture is put.
use Rattle.std.specs.Prelude.{Some, None, Ok}
use Rattle.std.proofs.lemmas.Result.{err_from_is_err_and}
use Rattle.refusal.specs.declared.Refusal.TheVariants.{Export}
use Prim.Native.Nat.{◌+◌, ◌≤◌, ◌<◌}
use mathlib.Core.Path.{◌≡◌, sym, ap, ◌∙◌}
use mathlib.Core.Bool.{true}
use native.Mathlib.Omega.{arith}
use lib.ListN.{length}
use Rattle.playback.specs.Playback.{is_trace}
use Rattle.playback.proofs.Live.{until_accepted}
use Rattle.exporting.specs.Exporting.{capture_of, port_of, records_of}
use Rattle.exporting.proofs.Packets.{trace_light}
use Rattle.exporting.proofs.Writable.{weighs, weighs_none}
use Rattle.exporting.proofs.Exported.{stopped, not_trace, not_written, no_room, exported, export_refused, export_done}
use Rattle.exporting.proofs.export.Goals as goal

pub returns-in_err-judged : goal.returns-in_err-judged
returns-in_err-judged c =
    let s = c.args.trace.now in
    let o = c.args.out.now in
    let e = err_from_is_err_and c.from_residual.result c.from_residual.ensures.1 in
    let f = stopped s _ (sym c.judged.ensures ∙ c.in_err-judged.was) in
    let p = export_refused s o (not_trace s (length o) f.0) in
    record { answer = rw (e.1, e.2, f.1) p.0; octets = p.1 }

pub weigh_all-requires : goal.weigh_all-requires
weigh_all-requires c = until_accepted c.args.trace.now c.in_ok-judged.field-0 (sym c.judged.ensures ∙ c.in_ok-judged.was)

pub returns-in_err-n : goal.returns-in_err-n
returns-in_err-n c =
    let s = c.args.trace.now in
    let o = c.args.out.now in
    let is : is_trace s ≡ true = until_accepted c.args.trace.now c.in_ok-judged.field-0 (sym c.judged.ensures ∙ c.in_ok-judged.was) in
    let none : c.weigh_all.result ≡ None = grind arith in
    let f = weighs_none (port_of (records_of s)) (records_of s) (sym c.weigh_all.ensures ∙ none) in
    let p = export_refused s o (not_written s (length o) is f) in
    let e = err_from_is_err_and c.from_residual-in_err-n.result c.from_residual-in_err-n.ensures.1 in
    let x : c.in_err-n.field-0.0 ≡ Export = grind arith in
    record { answer = rw (e.1, e.2, x) p.0; octets = p.1 }

pub overflow_add-n : goal.overflow_add-n
overflow_add-n c =
    let s = c.args.trace.now in
    let o = c.args.out.now in
    let is : is_trace s ≡ true = until_accepted c.args.trace.now c.in_ok-judged.field-0 (sym c.judged.ensures ∙ c.in_ok-judged.was) in
    let some : c.weigh_all.result ≡ Some c.in_ok-n.n = grind arith in
    let w = weighs (port_of (records_of s)) (records_of s) c.in_ok-n.n (sym c.weigh_all.ensures ∙ some) in
    omega (arith, w.1, trace_light s (λ j. omega (arith, c.type_inv.trace j)) is)

pub returns-then-out-n : goal.returns-then-out-n
returns-then-out-n c =
    let s = c.args.trace.now in
    let o = c.args.out.now in
    let is : is_trace s ≡ true = until_accepted c.args.trace.now c.in_ok-judged.field-0 (sym c.judged.ensures ∙ c.in_ok-judged.was) in
    let some : c.weigh_all.result ≡ Some c.in_ok-n.n = grind arith in
    let w = weighs (port_of (records_of s)) (records_of s) c.in_ok-n.n (sym c.weigh_all.ensures ∙ some) in
    let h : length o < length (capture_of (records_of s)) = omega (arith, w.1, c.if-out-n.true) in
    let p = export_refused s o (no_room s (length o) is w.0 h) in
    record { answer = p.0; octets = p.1 }

pub put_all-requires : goal.put_all-requires
put_all-requires c =
    let s = c.args.trace.now in
    let o = c.args.out.now in
    let is : is_trace s ≡ true = until_accepted c.args.trace.now c.in_ok-judged.field-0 (sym c.judged.ensures ∙ c.in_ok-judged.was) in
    let some : c.weigh_all.result ≡ Some c.in_ok-n.n = grind arith in
    let w = weighs (port_of (records_of s)) (records_of s) c.in_ok-n.n (sym c.weigh_all.ensures ∙ some) in
    (is, omega (arith, w.1, c.if-out-n.false))

pub returns : goal.returns
returns c =
    let s = c.args.trace.now in
    let o = c.args.out.now in
    let is : is_trace s ≡ true = until_accepted c.args.trace.now c.in_ok-judged.field-0 (sym c.judged.ensures ∙ c.in_ok-judged.was) in
    let some : c.weigh_all.result ≡ Some c.in_ok-n.n = grind arith in
    let w = weighs (port_of (records_of s)) (records_of s) c.in_ok-n.n (sym c.weigh_all.ensures ∙ some) in
    let h : length (capture_of (records_of s)) ≤ length o = omega (arith, w.1, c.if-out-n.false) in
    let n : length (capture_of (records_of s)) ≡ 24 + c.in_ok-n.n = omega (arith, w.1) in
    let p = export_done s o c.put_all.new.out (exported s (length o) is w.0 h ∙ ap Ok n) c.put_all.ensures in
    record { answer = p.0; octets = p.1 }
