-- `plan` meets its contract: 11, then the record that the sender has, or the lowest free slot.
use mathlib.Core.Path.{◌∙◌, sym, refl}
use native.Mathlib.Omega.{arith}
use Rattle.std.proofs.lemmas.Result.{err_from_is_err_and}
use Rattle.senders.specs.Record.{is_of}
use Rattle.slots.specs.Words.{port_of}
use Rattle.slots.proofs.Laws.{lowest_is, none_is}
use Rattle.slots.proofs.Cases.{slot_is, plan_backward, plan_known, plan_new, new_is}
use Rattle.slots.proofs.plan.Goals as goal

pub returns-in_err-in_turn : goal.returns-in_err-in_turn
returns-in_err-in_turn c =
    let g = c.args in
    let p = err_from_is_err_and c.from_residual.result c.from_residual.ensures.1 in
    let w = c.in_err-in_turn.ensures in
    rw (p.1, p.2, w.1) (plan_backward (port_of g.ws.now) g.t g.a w.0)

pub load-requires : goal.load-requires
load-requires c =
    let g = c.args in
    (lowest_is (is_of g.a.sender) g.ws.now c.in-Some.i (sym c.in-Some.ensures)).0

pub returns-in-Some : goal.returns-in-Some
returns-in-Some c =
    let g = c.args in
    let k = lowest_is (is_of g.a.sender) g.ws.now c.in-Some.i (sym c.in-Some.ensures) in
    plan_known (port_of g.ws.now) g.t g.a _ _ _ _ c.in_ok-in_turn.ensures c.window-w.ensures k.1 k.0 (c.load.ensures ∙ slot_is _ _ k.0) c.known.ensures

pub returns-in-None : goal.returns-in-None
returns-in-None c =
    let g = c.args in
    let i = none_is (is_of g.a.sender) g.ws.now (sym c.in-None.ensures) in
    plan_new (port_of g.ws.now) g.t g.a _ _ _ _ c.in_ok-in_turn.ensures c.window-w.ensures i (omega arith) refl (c.unknown.ensures ∙ new_is g.ws.now _ g.t g.a _ c.find_free.ensures)
