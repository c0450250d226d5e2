-- `rank_run` meets its contract: where nothing is refused, the places are filled with the whole run.
use mathlib.Core.Path.{sym, ap, ◌∙◌}
use mathlib.Core.List.{List}
use native.Mathlib.Omega.{arith}
use Rattle.rank.specs.declared.Candidate.{Candidate}
use Rattle.rank.specs.Ranked.{pack}
use Rattle.candidate_words.specs.Candidates.{ranked_words}
use Rattle.candidate_words.proofs.Filling.{passed, fit_each, inside_none, filled}
use Rattle.candidate_words.proofs.places.rank_run.Goals as goal

pub fill-p-requires : goal.fill-p-requires
fill-p-requires c =
    let run = c.args.run.now in (
      inside_none run c.none.result c.none.ensures.0 c.none.ensures.1,
      omega arith,
      omega arith,
      λ i h k. fit_each run (passed run (sym c.checked-x.ensures ∙ c.in-Ok.is)) i k,
    )

pub returns-in-Ok-clause-words : goal.returns-in-Ok-clause-words
returns-in-Ok-clause-words c =
    let run = c.args.run.now in
    let h = passed run (sym c.checked-x.ensures ∙ c.in-Ok.is) in
    let list = filled run c.none.result c.fill-p.result h c.none.ensures.0 c.none.ensures.1 c.fill-p.ensures.list in
    rw (h.ranking, h.fits) (c.put.ensures ∙ ap (λ (l : List Candidate). ranked_words (pack l)) list)
