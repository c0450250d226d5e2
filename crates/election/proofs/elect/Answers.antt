-- `elect` meets its contract: a late port refuses; else what is gathered is the list of all ports.
use mathlib.Core.Path.{ap, ◌∙◌}
use mathlib.Core.List.{List, map}
use Prim.Native.Nat.{ℕ}
use Rattle.rank.specs.Ranked.{pack}
use Rattle.ports.specs.Places.{candidate_at}
use Rattle.election.proofs.Gathering.{held}
use Rattle.election.proofs.Deciding.{listed_is, elected_late, elected_done}
use Rattle.election.proofs.elect.Goals as goal

pub returns-then-late : goal.returns-then-late
returns-then-late c =
    let g = c.args in
    elected_late g.words.now g.t _ c.late.ensures c.if-late.true

pub list_of-requires : goal.list_of-requires
list_of-requires c =
    held c.args.words.now c.args.t c.listen-top.result c.listen-top.ensures.top.0 c.listen-top.ensures.top.1

pub returns : goal.returns
returns c =
    let g = c.args in
    let ws = g.words.now in
    elected_done ws g.t _ c.late.ensures c.if-late.false c.list_of.result
    (listed_is ws g.t c.fits-words c.list_of.result
    (c.list_of.ensures ∙ ap (λ (x : List ℕ). pack (map (candidate_at ws) x)) c.listen-top.ensures.top.0))
