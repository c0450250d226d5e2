-- `left_out` meets its contract: where there are four places, the words at the last decide as the candidates do.
use mathlib.Core.Path.{◌≡◌, sym, ap, ◌∙◌}
use mathlib.Core.Bool.{not}
use mathlib.Core.List.{map}
use native.Mathlib.Omega.{arith}
use borrow.Author.Tests.{eq-eqb}
use lib.ListN.{get_or}
use Rattle.rank.specs.Order.{earlier_of}
use Rattle.rank.specs.Ranked.{blank_of}
use Rattle.candidate_words.specs.Places.{candidate_of}
use Rattle.candidate_words.proofs.PlaceLaws.{order, map_at}
use Rattle.candidate_words.proofs.places.left_out.Goals as goal

pub returns-then-p-eq-PLACES : goal.returns-then-p-eq-PLACES
returns-then-p-eq-PLACES c =
    let run = c.args.run.now in
    let p = c.args.p in
    let last = c.requires.0.each 3 (omega (arith, c.if-p-eq-PLACES.true)) in
    let e : get_or (map (candidate_of run) p.at) 3 blank_of ≡ candidate_of run (get_or p.at 3 0) =
    map_at (candidate_of run) p.at 3 0 blank_of (omega (arith, c.requires.0.size)) in
    simp (eq-eqb _ _ c.if-p-eq-PLACES.true)
    (ap not (c.lower.ensures ∙ order run c.args.c (get_or p.at 3 0) c.requires.1 last ∙ ap (earlier_of (candidate_of run c.args.c)) (sym e)))
