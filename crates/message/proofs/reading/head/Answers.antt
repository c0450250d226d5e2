-- `reading::head` meets its contract: at each way out the tests before it are known.
use Rattle.std.specs.Prelude.{Ok}
use mathlib.Core.Bool.{not}
use mathlib.Core.Path.{sym, ap, ◌∙◌}
use native.Mathlib.Omega.{arith}
use borrow.Author.Tests.{lt-ltb, le-ltb, eq-eqb, ne_eqb}
use Rattle.refusal.proofs.Choice.{stops, passes}
use Rattle.message.specs.Reading.{head_of}
use Rattle.message.proofs.Laws.{size_least}
use Rattle.message.proofs.reading.head.Goals as goal

pub returns-then-s-lt34 : goal.returns-then-s-lt34
unfolding head_of
returns-then-s-lt34 c =
    stops _ (lt-ltb _ _ c.if-s-lt34.true)

pub returns-then-s-ne2 : goal.returns-then-s-ne2
unfolding head_of
returns-then-s-ne2 c =
    passes _ (le-ltb _ _ c.if-s-lt34.false) (stops _ (ap not (ne_eqb _ _ c.if-s-ne2.true)))

pub returns-then-size-eq0 : goal.returns-then-size-eq0
unfolding head_of
returns-then-size-eq0 c =
    passes _ (le-ltb _ _ c.if-s-lt34.false)
    (passes _ (ap not (eq-eqb _ _ c.if-s-ne2.false))
    (stops _ (rw (← c.fixed_size-size.ensures) (eq-eqb _ _ c.if-size-eq0.true))))

pub returns-then-length-size : goal.returns-then-length-size
unfolding head_of
returns-then-length-size c =
    passes _ (le-ltb _ _ c.if-s-lt34.false)
    (passes _ (ap not (eq-eqb _ _ c.if-s-ne2.false))
    (passes _ (rw (← c.fixed_size-size.ensures) (ne_eqb _ _ c.if-size-eq0.false))
    (stops _ (rw (← c.fixed_size-size.ensures, ← c.u16_at-length.ensures) (lt-ltb _ _ c.if-length-size.true)))))

pub returns-then-s-length : goal.returns-then-s-length
unfolding head_of
returns-then-s-length c =
    passes _ (le-ltb _ _ c.if-s-lt34.false)
    (passes _ (ap not (eq-eqb _ _ c.if-s-ne2.false))
    (passes _ (rw (← c.fixed_size-size.ensures) (ne_eqb _ _ c.if-size-eq0.false))
    (passes _ (rw (← c.fixed_size-size.ensures, ← c.u16_at-length.ensures) (le-ltb _ _ c.if-length-size.false))
    (stops _ (rw (← c.u16_at-length.ensures) (lt-ltb _ _ c.if-s-length.true))))))

pub bad_stamp-requires : goal.bad_stamp-requires
bad_stamp-requires c =
    let h = size_least _ (rw c.fixed_size-size.ensures at c.if-size-eq0.false) in
    omega (arith, h, c.fixed_size-size.ensures)

pub returns-then-bad_stamp : goal.returns-then-bad_stamp
unfolding head_of
returns-then-bad_stamp c =
    passes _ (le-ltb _ _ c.if-s-lt34.false)
    (passes _ (ap not (eq-eqb _ _ c.if-s-ne2.false))
    (passes _ (rw (← c.fixed_size-size.ensures) (ne_eqb _ _ c.if-size-eq0.false))
    (passes _ (rw (← c.fixed_size-size.ensures, ← c.u16_at-length.ensures) (le-ltb _ _ c.if-length-size.false))
    (passes _ (rw (← c.u16_at-length.ensures) (le-ltb _ _ c.if-s-length.false))
    (stops _ (sym c.bad_stamp.ensures ∙ c.if-bad_stamp.true))))))

pub returns : goal.returns
unfolding head_of
returns c =
    passes _ (le-ltb _ _ c.if-s-lt34.false)
    (passes _ (ap not (eq-eqb _ _ c.if-s-ne2.false))
    (passes _ (rw (← c.fixed_size-size.ensures) (ne_eqb _ _ c.if-size-eq0.false))
    (passes _ (rw (← c.fixed_size-size.ensures, ← c.u16_at-length.ensures) (le-ltb _ _ c.if-length-size.false))
    (passes _ (rw (← c.u16_at-length.ensures) (le-ltb _ _ c.if-s-length.false))
    (passes _ (sym c.bad_stamp.ensures ∙ c.if-bad_stamp.false)
    (λ i. Ok (record { size = c.fixed_size-size.ensures i; length = c.u16_at-length.ensures i })))))))
