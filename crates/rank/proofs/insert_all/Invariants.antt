-- `insert_all` meets its contract: inserting what is left into what is made so far gives the whole.
use mathlib.Core.Path.{◌≡◌}
use lib.ListN.{drop}
use Rattle.rank.specs.Ranked.{insert_all, unpack}
use Rattle.rank.proofs.insert_all.Given as goal

abbrev pub invariant-loop-c : goal.invariant-loop-c
invariant-loop-c l = insert_all l.r (drop l.c-index (unpack l.fn.from)) ≡ insert_all l.initial.r (unpack l.fn.from)
