-- `records` meets its contract: behind the first two words lie sixteen records of six.
use native.Mathlib.Omega.{arith}
use mathlib.Core.Path.{◌∙◌}
use lib.ListN.{drop, length-drop, length-take}
use Rattle.slots.proofs.Laws.{records_are}
use Rattle.slots.proofs.records.Goals as goal

pub returns-clause-value : goal.returns-clause-value
returns-clause-value c =
    let ws = c.args.ws.now in
    c.as_chunks.ensures.front ∙ records_are ws _ c.told-ws (omega (arith, c.told-ws, length-drop 2 ws, length-take 96 (drop 2 ws)))
