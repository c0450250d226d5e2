-- `is_capture` meets its contract: too short for a head; another head; or what the packets behind it are.
use mathlib.Core.Path.{sym, ap, ◌∙◌}
use mathlib.Core.List.{List}
use Prim.Native.Nat.{ℕ}
use native.Mathlib.Omega.{arith}
use Rattle.pcap.specs.File.{rests_of, are_packets}
use Rattle.pcap.proofs.Laws.{lent_rest, capture_short, capture_rest}
use Rattle.pcap.proofs.is_capture.Goals as goal

pub returns-then-file-lt-HEAD : goal.returns-then-file-lt-HEAD
returns-then-file-lt-HEAD c =
    sym (capture_short c.args.file.now (omega arith))

pub returns : goal.returns
returns c =
    let s = c.args.file.now in
    let f = c.form_of-form in
    c.are_packets.ensures
    ∙ ap (λ (l : List ℕ). are_packets f.result (rests_of f.result l)) (lent_rest s 24 (omega arith))
    ∙ sym (capture_rest s f.result f.ensures (sym c.is_head.ensures ∙ c.if-not-is_head.false))
