-- `best` meets its contract: 11, then the candidate at the best place, if there is one.
use Prim.Native.Nat.{ℕ, ◌<◌, ◌^◌}
use mathlib.Core.List.{List}
use lib.ListN.{get_or}
use mathlib.Core.Path.{◌≡◌, ap, ◌∙◌}
use native.Mathlib.Omega.{arith}
use Rattle.std.proofs.lemmas.Result.{err_from_is_err_and}
use Rattle.slots.specs.Words.{of_six, record_of, slots_of, port_of, best_in}
use Rattle.slots.specs.Places.{found_in, place_among}
use Rattle.slots.proofs.Begins.{among_bound}
use Rattle.slots.proofs.Cases.{ask_backward, ask_on, best_among, best_yes, best_no}
use Rattle.slots.proofs.best.Goals as goal

-- what begins at the place that is found is the best
found : (ws : List ℕ) (port w t at : ℕ) → ((i : ℕ) → get_or ws i 0 < 2 ^ 64) → at ≡ place_among ws w t 16
    → found_in port ws at ≡ best_in port w t (slots_of ws)
found ws port w t at fits e = ap (found_in port ws) e ∙ best_among port ws fits w t 16 (omega arith)

pub returns-in_err-in_turn : goal.returns-in_err-in_turn
returns-in_err-in_turn c =
    let g = c.args in
    let p = err_from_is_err_and c.from_residual.result c.from_residual.ensures.1 in
    let w = c.in_err-in_turn.ensures in
    rw (p.1, p.2, w.1) (ask_backward (port_of g.ws.now) g.t _ w.0)

pub returns-then-b-eq0 : goal.returns-then-b-eq0
returns-then-b-eq0 c =
    let g = c.args in
    ask_on (port_of g.ws.now) g.t _ _ c.in_ok-in_turn.ensures
    (best_no g.port g.ws.now _ g.t _ c.window.ensures (found g.ws.now g.port _ g.t _ c.fits-ws c.best_place-b.ensures) c.if-b-eq0.true)

pub record-requires : goal.record-requires
record-requires c = omega (arith, among_bound c.args.ws.now c.window.result c.args.t 16)

pub returns : goal.returns
unfolding record_of
returns c =
    let g = c.args in
    ask_on (port_of g.ws.now) g.t _ _ c.in_ok-in_turn.ensures
    (best_yes g.port g.ws.now _ g.t _ c.window.ensures (found g.ws.now g.port _ g.t _ c.fits-ws c.best_place-b.ensures) _ _ c.if-b-eq0.false
    (c.read.ensures ∙ ap of_six c.record.ensures) c.candidate.ensures)
