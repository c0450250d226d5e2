-- `put` meets its contract: by whether the message has its place in the open block. What the checks let pass says that the message is short
-- enough, and that a new block has a number.
use mathlib.Core.Path.{sym, ◌∙◌}
use native.Mathlib.Omega.{arith}
use borrow.Author.Rules.{rules}
use Rattle.recording.specs.Recording.{entry_of}
use Rattle.recording.proofs.Refusing.{done, has_number}
use Rattle.recording.proofs.put.Goals as goal

pub advance-requires : goal.advance-requires
advance-requires c =
    let d = done c.args.words.now (entry_of c.args.t c.args.port c.args.message.now) c.requires in
    (d.short, d.place)

pub has_place-requires : goal.has_place-requires
has_place-requires c =
    (done c.args.words.now (entry_of c.args.t c.args.port c.args.message.now) c.requires).short

pub overflow_cast-next : goal.overflow_cast-next
overflow_cast-next c =
    omega (arith, has_number c.args.words.now (entry_of c.args.t c.args.port c.args.message.now) c.requires (sym c.has_place.ensures ∙ c.if-has_place.false))

pub add-requires-2 : goal.add-requires-2
add-requires-2 c =
    (search rules, omega arith, omega (arith, (done c.args.words.now (entry_of c.args.t c.args.port c.args.message.now) c.requires).short))
