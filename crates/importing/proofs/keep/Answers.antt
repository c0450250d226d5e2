-- `keep` meets its contract: by whether the frame is taken.
use mathlib.Core.Path.{◌≡◌, sym, ◌∙◌}
use mathlib.Core.Bool.{true}
use native.Mathlib.Omega.{arith}
use Rattle.pcap.proofs.Laws.{lent_rest}
use Rattle.importing.specs.Importing.{is_ptp}
use Rattle.importing.proofs.Frames.{has_head}
use Rattle.importing.proofs.keep.Goals as goal

pub slice_bounds-record-count : goal.slice_bounds-record-count
slice_bounds-record-count c =
    omega (arith, has_head c.args.frame.now (sym c.is_ptp.ensures ∙ c.if-not-is_ptp.false))

pub slice_bounds-record-start : goal.slice_bounds-record-start
slice_bounds-record-start c =
    omega (arith, has_head c.args.frame.now (sym c.is_ptp.ensures ∙ c.if-not-is_ptp.false))

pub returns-clause-block : goal.returns-clause-block
returns-clause-block c =
    let s = c.args.frame.now in
    let e : is_ptp s ≡ true = sym c.is_ptp.ensures ∙ c.if-not-is_ptp.false in
    let d = lent_rest s 14 (has_head s e) in
    let r = c.«record».ensures in
    rw e (rw d at r.block)
