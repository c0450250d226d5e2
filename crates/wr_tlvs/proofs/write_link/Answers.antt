-- `write_link` meets its contract: the tail is the TLV that `link` makes.
use mathlib.Core.Path.{ap, ◌∙◌}
use Prim.Native.Nat.{ℕ}
use mathlib.Core.List.{List}
use Rattle.writer.specs.Writing.{write_of, buffer_of}
use Rattle.wr_tlvs.specs.Built.{signaling}
use Rattle.wr_tlvs.proofs.Laws.{link_sent}
use Rattle.wr_tlvs.proofs.write_link.Goals as goal

pub returns-clause-answer : goal.returns-clause-answer
returns-clause-answer c =
    let a = c.args in
    let m = signaling a.header a.target in
    c.write.ensures.answer ∙ ap (λ (t : List ℕ). write_of a.magic m t a.out.now) (link_sent a.magic a.x c.link-size.ensures)

pub returns-clause-buffer : goal.returns-clause-buffer
returns-clause-buffer c =
    let a = c.args in
    let m = signaling a.header a.target in
    c.write.ensures.buffer ∙ ap (λ (t : List ℕ). buffer_of a.magic m t a.out.now) (link_sent a.magic a.x c.link-size.ensures)
