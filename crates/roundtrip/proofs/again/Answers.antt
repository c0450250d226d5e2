-- `again` meets its contract: what writing allows is read as it was.
use Rattle.std.specs.Prelude.{Ok, Err}
use mathlib.Core.Path.{sym, ap, ◌∙◌}
use mathlib.Core.List.{List}
use mir.Val.{Val}
use denote.Shadow.{shadow}
use borrow.Author.Rules.{rules}
use Rattle.message.specs.Reading.{read_of}
use Rattle.message.specs.declared.fields.Body.{Body}
use Rattle.message.specs.declared.fields.Body.TheVariants as body
use Rattle.message.specs.contracts.fields.Body as rows
use Rattle.roundtrip.specs.Range.{HeaderRange, BodyRange, MessageRange}
use Rattle.roundtrip.proofs.ReadBack.{buffer_back}
use Rattle.roundtrip.proofs.Answers.{not_written, is_written_lem}
use Rattle.roundtrip.proofs.again.Goals as goal

-- what the types of the fields say
header_range : (c : goal.After-read) → HeaderRange c.args.m.header
header_range c = search rules

body_range : (b : Body) (vs : List Val) → shadow ((rows.the_field).row.own_val ((rows.the_field).into b) vs) → BodyRange b
body_range (body.Sync t) vs h = tt
body_range (body.DelayReq t) vs h = tt
body_range (body.FollowUp t) vs h = tt
body_range (body.DelayResp r) vs h = search rules
body_range (body.Announce a) vs h = search rules
body_range (body.Signaling p) vs h = search rules

-- the fields of a message are in range, by their types
range : (c : goal.After-read) → MessageRange c.args.m
range c = record { header = header_range c; body = body_range c.args.m.body c.well_formed.1.0.0.1.0 c.well_formed.1.0.1.1.1.0 }

pub returns-in_err-write-clause-answer : goal.returns-in_err-write-clause-answer
returns-in_err-write-clause-answer c =
    let a = c.args in
    rw (← not_written a.magic a.m a.tail.now a.out.now Err (Ok a.m) (sym c.write.ensures.answer ∙ c.in_err-write.was)) (search rules)

pub returns-clause-answer : goal.returns-clause-answer
returns-clause-answer c =
    let a = c.args in
    let e = sym c.write.ensures.answer ∙ c.in_ok-write.was in
    c.read.ensures
    ∙ ap (read_of a.magic) c.write.ensures.buffer
    ∙ (buffer_back a.magic a.m a.tail.now (range c) a.out.now _ e).0.message
    ∙ is_written_lem a.magic a.m a.tail.now a.out.now Err (Ok a.m) e
