-- `outranks` meets its contract: the derived order compares key by key.
use mathlib.Core.Path.{ap, ◌∙◌}
use Rattle.std.specs.Ordering.{is_lt, is_some_and}
use Rattle.rank.specs.Order.{grade_of}
use Rattle.rank.proofs.Comparing.{compared_lex, then_equal}
use Rattle.rank.proofs.outranks.Goals as goal

pub returns : goal.returns
returns c = c.lt.ensures ∙ ap (is_some_and is_lt) (simp then_equal) ∙ compared_lex (grade_of c.args.g) (grade_of c.args.h)
