-- `best` meets its contract: 8, or the port's own words answer.
use mathlib.Core.List.{List}
use mathlib.Core.Path.{◌∙◌, ap}
use Prim.Native.Nat.{ℕ}
use Rattle.std.proofs.lemmas.Result.{err_from_is_err_and}
use Rattle.senders.specs.Port.{asked_of, best_of}
use Rattle.slots.specs.Words.{port_of}
use Rattle.ports.proofs.Laws.{no_port, on_port_is}
use Rattle.ports.proofs.asking.best.Goals as goal

pub returns-in_err-asked : goal.returns-in_err-asked
returns-in_err-asked c =
    no_port _ _ c.args.port _ (err_from_is_err_and c.from_residual.result c.from_residual.ensures.1) c.in_err-asked.ensures

pub returns : goal.returns
returns c =
    let g = c.args in
    let w = c.in_ok-asked.ensures in
    on_port_is g.port w.0
    (c.best.ensures ∙ ap (λ (l : List ℕ). asked_of (port_of l) g.t (best_of g.port (port_of l) g.t)) w.1)
