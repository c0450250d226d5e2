-- `rank` meets its contract: going on from here with what is left of the run gives the answer.
use Rattle.std.proofs.Common.{◌≡◌, drop}
use Rattle.rank.specs.Calls.{ranking_of}
use Rattle.rank.proofs.Runs.{scan}
use Rattle.rank.proofs.rank.Given as goal

abbrev pub invariant-loop-c : goal.invariant-loop-c
invariant-loop-c l = scan l.list (drop l.c-index l.run) ≡ ranking_of l.run
