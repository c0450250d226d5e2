-- The loop's invariant says that the records that are left, from the octet that was reached on, are laid out right where all are.
use Rattle.std.proofs.Common.{◌≡◌, ◌-◌, ◌≤◌}
use Rattle.block.specs.Layout.{block_octets, records_at}
use Rattle.judging.specs.Tests.{laid_from}
use Rattle.judging.proofs.are_laid.Given as goal

abbrev pub invariant-loop : goal.invariant-loop
invariant-loop l = (l.at ≤ block_octets) × (laid_from (l.n - l.counter) l.s l.at ≡ laid_from l.n l.s records_at)
