-- `reading::tail_check` meets its contract: the tail's fault has its place in the message.
use Rattle.std.specs.Prelude.{Err}
use mathlib.Core.Path.{sym, ◌∙◌}
use Rattle.message.proofs.Laws.{fault_placed}
use Rattle.message.proofs.reading.tail_check.Goals as goal

pub map_err-requires : goal.map_err-requires
map_err-requires c =
    λ e h κs blocks v fits κs'. fault_placed _ _ _ c.requires (Err e) (sym h ∙ c.first_fault.ensures)
