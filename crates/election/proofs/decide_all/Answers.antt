-- `decide_all` meets its contract: a late port refuses, and leaves the octets; else the list is that of all ports, and the octets are the
-- decisions'.
use mathlib.Core.Path.{ap, ◌∙◌}
use mathlib.Core.List.{List, map}
use Prim.Native.Nat.{ℕ}
use Rattle.rank.specs.Ranked.{pack}
use Rattle.ports.specs.Places.{candidate_at}
use Rattle.decide.specs.Leading.{lead_of}
use Rattle.slots.proofs.Cases.{Words64}
use Rattle.election.proofs.Gathering.{held, places_inside}
use Rattle.election.proofs.Deciding.{octets_are, listed_is, list_of_all, elected_late, elected_done, out_left, out_written}
use Rattle.election.proofs.decide_all.Goals as goal

pub returns-then-late : goal.returns-then-late
returns-then-late c =
    let g = c.args in (
      elected_late g.words.now g.t _ c.late.ensures c.if-late.true,
      out_left g.words.now g.t _ c.late.ensures c.if-late.true g.own _,
    )

pub list_of-list-requires : goal.list_of-list-requires
list_of-list-requires c =
    held c.args.words.now c.args.t c.listen-top.result c.listen-top.ensures.top.0 c.listen-top.ensures.top.1

pub write-requires : goal.write-requires
write-requires c =
    let p = places_inside c.args.words.now c.args.t _ c.listen-top.ensures.places in
    (held c.args.words.now c.args.t c.listen-top.result c.listen-top.ensures.top.0 c.listen-top.ensures.top.1, p)

pub returns : goal.returns
returns c =
    let g = c.args in
    let ws = g.words.now in
    let words : Words64 ws = c.fits-words in
    let f = c.list_of-list.ensures ∙ ap (λ (x : List ℕ). pack (map (candidate_at ws) x)) c.listen-top.ensures.top.0 in
    let lead = c.leading-lead.result in (
      elected_done ws g.t _ c.late.ensures c.if-late.false c.list_of-list.result (listed_is ws g.t words c.list_of-list.result f),
      out_written ws g.t _ c.late.ensures c.if-late.false g.own _ _
          (octets_are g.own ws g.t words lead _ _ _
          (c.leading-lead.ensures ∙ ap (lead_of g.own) (list_of_all ws g.t words c.list_of-list.result f))
          c.listen-top.ensures.top.0
          c.listen-top.ensures.places
          c.write.ensures),
    )
