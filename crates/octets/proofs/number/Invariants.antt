-- `number` meets its contract: v is the value of the first i octets.
use Rattle.std.proofs.Common.{◌≡◌}
use Rattle.octets.specs.Be.{be}
use Rattle.octets.proofs.number.Given as goal

abbrev pub invariant-loop-i : goal.invariant-loop-i
invariant-loop-i l = l.v ≡ be l.i l.s l.at
