-- `form_of` meets its contract: the unit that the first octets tell with the highest first, or else the other way round.
use native.Mathlib.Omega.{arith}
use borrow.Author.Tests.{eq-eqb, ne_eqb}
use Rattle.pcap.specs.Form.{form_of}
use Rattle.pcap.proofs.form_of.Goals as goal

pub returns-then-big-eq0 : goal.returns-then-big-eq0
unfolding form_of
returns-then-big-eq0 c =
    rw (← c.u32_at.ensures, ← c.unit_under-big.ensures, eq-eqb c.unit_under-big.result 0 (omega arith), ← c.low4.ensures, ← c.unit_under.ensures)

pub returns-else-big-eq0 : goal.returns-else-big-eq0
unfolding form_of
returns-else-big-eq0 c =
    rw (← c.u32_at.ensures, ← c.unit_under-big.ensures, ne_eqb c.unit_under-big.result 0 (omega arith))
