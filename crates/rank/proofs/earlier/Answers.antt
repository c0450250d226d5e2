-- `earlier` meets its contract: the derived order compares key by key.
use mathlib.Core.Path.{ap, ◌∙◌}
use Rattle.std.specs.Ordering.{is_lt, is_some_and}
use Rattle.rank.specs.Order.{keys_of}
use Rattle.rank.proofs.Comparing.{compared_lex, then_then, then_equal}
use Rattle.rank.proofs.earlier.Goals as goal

pub returns : goal.returns
returns c = c.lt.ensures ∙ ap (is_some_and is_lt) (simp (then_then, then_equal)) ∙ compared_lex (keys_of c.args.a) (keys_of c.args.b)
