-- `parts::suffix` meets its contract: by the checks, then by what the tail says.
use Rattle.std.specs.Prelude.{ℕ, Option, Result, Ok, Err}
use Rattle.std.proofs.Common.{rules}
use mathlib.Core.Path.{sym, ap, ◌∙◌}
use Rattle.contents.specs.Parts.{suffix_of}
use Rattle.refusal.specs.declared.Refusal.{Refusal}
use Rattle.tlv.specs.Wr.{suffix_in}
use Rattle.message.specs.Fields.{tail_of}
use Rattle.message.proofs.Laws.{bounded, taken, taking}
use Rattle.contents.proofs.parts.suffix.Goals as goal

pub returns-in_err-takes : goal.returns-in_err-takes
unfolding suffix_of
returns-in_err-takes c =
    let a = c.args in
    rw (← taking {A = Result (Option ℕ) Refusal} Err (Ok (suffix_in a.magic (tail_of a.s.now))) _ _ _ c.takes.ensures c.in_err-takes.was) (search rules)

pub checked_tail-requires : goal.checked_tail-requires
checked_tail-requires c =
    bounded _ _ (taken _ _ _ (sym c.in_ok-takes.ensures)).checked

pub returns : goal.returns
unfolding suffix_of
returns c =
    rw (← c.checked_tail.ensures, ← c.first_suffix.ensures)
    (taking Err _ _ _ _ c.takes.ensures c.in_ok-takes.was)
