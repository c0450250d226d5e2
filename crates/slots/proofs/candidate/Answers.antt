-- `candidate` meets its contract: 11, then whether the slot is one of the sixteen and its record is qualified.
use mathlib.Core.Path.{◌∙◌}
use Rattle.std.proofs.lemmas.Result.{err_from_is_err_and}
use Rattle.slots.specs.Words.{port_of}
use Rattle.slots.proofs.Cases.{slot_is, slot_past, ask_backward, ask_on, candidate_yes, candidate_no, candidate_past}
use Rattle.slots.proofs.candidate.Goals as goal

pub returns-in_err-in_turn : goal.returns-in_err-in_turn
returns-in_err-in_turn c =
    let g = c.args in
    let p = err_from_is_err_and c.from_residual.result c.from_residual.ensures.1 in
    let w = c.in_err-in_turn.ensures in
    rw (p.1, p.2, w.1) (ask_backward (port_of g.ws.now) g.t _ w.0)

pub returns-then-is_qualified : goal.returns-then-is_qualified
returns-then-is_qualified c =
    let g = c.args in
    let p = port_of g.ws.now in
    ask_on p g.t _ _ c.in_ok-in_turn.ensures
    (candidate_yes g.port p g.i g.t _ _ c.window-w.ensures (c.load-r.ensures ∙ slot_is _ _ c.if-i-lt-SLOTS.true) _ _ c.is_qualified.ensures c.if-is_qualified.true c.candidate.ensures)

pub returns-else-is_qualified : goal.returns-else-is_qualified
returns-else-is_qualified c =
    let g = c.args in
    let p = port_of g.ws.now in
    ask_on p g.t _ _ c.in_ok-in_turn.ensures
    (candidate_no g.port p g.i g.t _ _ c.window-w.ensures (c.load-r.ensures ∙ slot_is _ _ c.if-i-lt-SLOTS.true) _ c.is_qualified.ensures c.if-is_qualified.false)

pub returns-else-i-lt-SLOTS : goal.returns-else-i-lt-SLOTS
returns-else-i-lt-SLOTS c =
    let g = c.args in
    let p = port_of g.ws.now in
    ask_on p g.t _ _ c.in_ok-in_turn.ensures (candidate_past g.port p g.i g.t (slot_past _ _ c.if-i-lt-SLOTS.false))
