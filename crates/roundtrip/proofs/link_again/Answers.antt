-- `link_again` meets its contract: a link message that writing allows is read as it was.
use Rattle.std.specs.Prelude.{Some, Ok, Err}
use Prim.Native.Nat.{◌^◌, ◌<◌}
use mathlib.Core.Path.{sym, ap, ◌∙◌}
use mathlib.Core.List.{List}
use mir.Val.{Val}
use denote.Shadow.{shadow}
use borrow.Author.Rules.{rules}
use Rattle.tlv.specs.declared.wr.LinkMessage.{LinkMessage}
use Rattle.tlv.specs.declared.wr.LinkMessage.TheVariants.{SlavePresent, Lock, Locked, Calibrate, Calibrated, ModeOn}
use Rattle.tlv.specs.contracts.wr.LinkMessage as rows
use Rattle.contents.specs.Parts.{link_of}
use Rattle.wr_tlvs.specs.Built.{link_octets, signaling}
use Rattle.roundtrip.specs.Range.{LinkRange}
use Rattle.roundtrip.proofs.WrBack.{link_back}
use Rattle.roundtrip.proofs.Answers.{not_written, is_written_lem}
use Rattle.roundtrip.proofs.link_again.Goals as goal

-- what the types of the fields say
small : (c : goal.After-link_message) → c.args.magic < 256 ^ 2
small c = search rules

link_range : (x : LinkMessage) (vs : List Val) → shadow ((rows.the_row).own_val x vs) → LinkRange x
link_range SlavePresent vs h = tt
link_range Lock vs h = tt
link_range Locked vs h = tt
link_range (Calibrate pattern retry period) vs h = search rules
link_range (Calibrated tx rx) vs h = search rules
link_range ModeOn vs h = tt

pub returns-in_err-write_link-clause-answer : goal.returns-in_err-write_link-clause-answer
returns-in_err-write_link-clause-answer c =
    let a = c.args in
    let e =
    not_written a.magic (signaling a.header a.target) (link_octets a.magic a.x) a.out.now Err (Ok (Some a.x))
    (sym c.write_link.ensures.answer ∙ c.in_err-write_link.was) in
    rw (← e) (search rules)

pub returns-clause-answer : goal.returns-clause-answer
returns-clause-answer c =
    let a = c.args in
    let e = sym c.write_link.ensures.answer ∙ c.in_ok-write_link.was in
    c.link_message.ensures
    ∙ ap (link_of a.magic) c.write_link.ensures.buffer
    ∙ link_back a.magic (small c) a.header a.target a.x a.out.now _ (link_range a.x _ c.well_formed.1.1.1.0) e
    ∙ is_written_lem a.magic (signaling a.header a.target) (link_octets a.magic a.x) a.out.now Err (Ok (Some a.x)) e
