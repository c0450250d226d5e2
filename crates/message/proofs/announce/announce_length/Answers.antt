-- `announce::announce_length` meets its contract: at each way out the tests before it are known.
use Rattle.std.specs.Prelude.{Some}
use mathlib.Core.Bool.{not}
use mathlib.Core.Path.{ap}
use borrow.Author.Tests.{lt-ltb, le-ltb, eq-eqb, ne_eqb}
use Rattle.refusal.proofs.Choice.{stops, passes}
use Rattle.message.specs.Announced.{announce_length}
use Rattle.message.proofs.announce.announce_length.Goals as goal
use Rattle.message.proofs.announce.announce_length.Goals.{then-s-lt64-via-then-s-lt64, then-s-lt64-via-else-s-lt64+then-s-ne2, then-s-lt64-via-else-s-lt64+else-s-ne2+then-s-ne-ANNOUNCE, then-length-lt64-via-then-length-lt64, then-length-lt64-via-else-length-lt64+then-s-length}

pub returns-then-s-lt64 : goal.returns-then-s-lt64
unfolding announce_length
returns-then-s-lt64 c =
    elim c.then-s-lt64.branch [
      | then-s-lt64-via-then-s-lt64 w ↦ stops _ (lt-ltb _ _ w.if-s-lt64.true)
      | then-s-lt64-via-else-s-lt64+then-s-ne2 w ↦
          passes _ (le-ltb _ _ w.if-s-lt64.false) (stops _ (ap not (ne_eqb _ _ w.if-s-ne2.true)))
      | then-s-lt64-via-else-s-lt64+else-s-ne2+then-s-ne-ANNOUNCE w ↦
          passes _ (le-ltb _ _ w.if-s-lt64.false)
          (passes _ (ap not (eq-eqb _ _ w.if-s-ne2.false))
          (stops _ (ap not (ne_eqb _ _ w.if-s-ne-ANNOUNCE.true))))
    ]

pub returns-then-length-lt64 : goal.returns-then-length-lt64
unfolding announce_length
returns-then-length-lt64 c =
    passes _ (le-ltb _ _ c.if-s-lt64.false)
    (passes _ (ap not (eq-eqb _ _ c.if-s-ne2.false))
    (passes _ (ap not (eq-eqb _ _ c.if-s-ne-ANNOUNCE.false))
    (elim c.then-length-lt64.branch [
      | then-length-lt64-via-then-length-lt64 w ↦ stops _ (rw (← c.u16_at-length.ensures) (lt-ltb _ _ w.if-length-lt64.true))
      | then-length-lt64-via-else-length-lt64+then-s-length w ↦
          passes _ (rw (← c.u16_at-length.ensures) (le-ltb _ _ w.if-length-lt64.false))
          (stops _ (rw (← c.u16_at-length.ensures) (lt-ltb _ _ w.if-s-length.true)))
    ])))

pub returns : goal.returns
unfolding announce_length
returns c =
    passes _ (le-ltb _ _ c.if-s-lt64.false)
    (passes _ (ap not (eq-eqb _ _ c.if-s-ne2.false))
    (passes _ (ap not (eq-eqb _ _ c.if-s-ne-ANNOUNCE.false))
    (passes _ (rw (← c.u16_at-length.ensures) (le-ltb _ _ c.if-length-lt64.false))
    (passes _ (rw (← c.u16_at-length.ensures) (le-ltb _ _ c.if-s-length.false))
    (ap Some c.u16_at-length.ensures)))))
