-- `tlvs::next_tlv` meets its contract: it begins at 0, and goes on from anywhere else.
use borrow.Author.Tests.{eq-eqb, ne_eqb}
use Rattle.contents.specs.Tlvs.{next_in}
use Rattle.contents.proofs.tlvs.next_tlv.Goals as goal

pub returns-then-from-eq0 : goal.returns-then-from-eq0
unfolding next_in
returns-then-from-eq0 c =
    rw (eq-eqb _ _ c.if-from-eq0.true) c.begin.ensures

pub returns : goal.returns
unfolding next_in
returns c =
    rw (ne_eqb _ _ c.if-from-eq0.false) c.go_on.ensures
