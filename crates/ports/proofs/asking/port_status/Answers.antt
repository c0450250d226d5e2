-- `port_status` meets its contract: 8, or the port's own words answer.
use Rattle.std.proofs.lemmas.Result.{err_from_is_err_and}
use Rattle.ports.proofs.Laws.{no_port, on_port_is}
use borrow.Author.Rules.{rules}
use Rattle.ports.proofs.asking.port_status.Goals as goal

pub returns-in_err-ws : goal.returns-in_err-ws
returns-in_err-ws c =
    no_port _ _ c.args.port _ (err_from_is_err_and c.from_residual.result c.from_residual.ensures.1) c.in_err-ws.ensures

pub returns : goal.returns
returns c =
    let g = c.args in
    let w = c.in_ok-ws.ensures in
    on_port_is g.port w.0 (rw (← w.1) (search rules))
