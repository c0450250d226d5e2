-- `slot` meets its contract: a slot that is one of the sixteen holds a record where it has receipts; past them all is empty.
use mathlib.Core.Path.{refl, ◌∙◌}
use Rattle.slots.specs.Words.{port_of}
use Rattle.senders.specs.Port.{empty_slot}
use Rattle.slots.proofs.Cases.{slot_is, slot_past, slot_held, slot_empty}
use Rattle.slots.proofs.slot.Goals as goal

pub returns-then-r-ne0 : goal.returns-then-r-ne0
returns-then-r-ne0 c =
    let g = c.args in
    slot_held (port_of g.ws.now) g.i _ (c.load-r.ensures ∙ slot_is _ _ c.if-i-lt-SLOTS.true) c.if-r-ne0.true

pub returns-else-r-ne0 : goal.returns-else-r-ne0
returns-else-r-ne0 c =
    let g = c.args in
    slot_empty (port_of g.ws.now) g.i _ (c.load-r.ensures ∙ slot_is _ _ c.if-i-lt-SLOTS.true) c.if-r-ne0.false

pub returns-else-i-lt-SLOTS : goal.returns-else-i-lt-SLOTS
returns-else-i-lt-SLOTS c =
    let g = c.args in
    slot_empty (port_of g.ws.now) g.i empty_slot (slot_past _ _ c.if-i-lt-SLOTS.false) refl
