-- `announce::refusal_of` meets its contract: by what the checks gave.
use Rattle.std.specs.Prelude.{Option, Result, Ok, Err}
use Rattle.std.specs.Option.{unwrap_or}
use Rattle.std.specs.Result.{result_err}
use mathlib.Core.Path.{◌≡◌, refl, ap, ◌∙◌}
use Rattle.refusal.specs.declared.Refusal.{Refusal}
use Rattle.refusal.specs.declared.Refusal.TheVariants.{«Type»}
use Rattle.message.specs.Reading.{check_of, by}
use Rattle.message.specs.Announced.{refusal_of}
use Rattle.message.proofs.announce.refusal_of.Goals as goal

by_err : (o : Result (Unit {0}) Refusal) → unwrap_or (result_err o) «Type» ≡ by o (λ x. x) «Type»
by_err (Ok tt) = refl
by_err (Err x) = refl

pub returns : goal.returns
unfolding refusal_of
returns c =
    c.unwrap_or.ensures
    ∙ ap (λ (x : Option Refusal). unwrap_or x «Type») (c.err.ensures.value ∙ ap result_err c.check.ensures)
    ∙ by_err (check_of c.args.magic c.args.s.now)
