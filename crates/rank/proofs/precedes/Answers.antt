-- `precedes` meets its contract: the derived order compares key by key.
use mathlib.Core.Path.{ap, ◌∙◌}
use Rattle.std.specs.Ordering.{is_lt, is_some_and}
use Rattle.rank.specs.Order.{identity_of}
use Rattle.rank.proofs.Comparing.{compared_lex, then_equal}
use Rattle.rank.proofs.precedes.Goals as goal

pub returns : goal.returns
returns c = c.lt.ensures ∙ ap (is_some_and is_lt) (simp then_equal) ∙ compared_lex (identity_of c.args.i) (identity_of c.args.j)
