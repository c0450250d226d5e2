-- `merge_run` meets its contract: both parts stand where ranking moves none of them, and the second filled into the first is their merging.
use Prim.Native.Nat.{ℕ, ◌+◌, ◌≤◌, ◌<◌}
use mathlib.Core.Path.{◌≡◌, refl, sym, ap, ◌∙◌}
use mathlib.Core.List.{List}
use native.Mathlib.Omega.{arith}
use lib.ListN.{length}
use Rattle.laws.proofs.Bools.{clash}
use Rattle.rank.specs.declared.Candidate.{Candidate}
use Rattle.rank.specs.Ranked.{pack}
use Rattle.rank.proofs.Merging.{both}
use Rattle.candidate_words.specs.Candidates.{ranked_words}
use Rattle.candidate_words.specs.Places.{Fit}
use Rattle.candidate_words.proofs.MergeLaws.{part_valid, part_holds, part_stands, both_ranked}
use Rattle.candidate_words.proofs.places.merge_run.Goals as goal

pub returns : goal.returns
returns c =
    let run = c.args.run.now in
    let n = c.args.n in
    let m = c.args.m in
    let s = both c.all_fit-first.result c.all_fit-second.result c.if-not-first-second.false in
    let b = both c.unmoved.result c.unmoved-2.result c.if-not-unmoved.false in
    -- each candidate of both parts fits
    let first : (i : ℕ) → 0 ≤ i → i < n → Fit run i = c.all_fit-first.ensures s.0 in
    let second : (i : ℕ) → 4 ≤ i → i < 4 + m → Fit run i = c.all_fit-second.ensures s.1 in
    let in1 : n ≤ length run = omega (arith, c.requires.0, c.requires.1) in
    let in2 : 4 + m ≤ length run = omega (arith, c.requires.0, c.requires.2) in
    let sum : 0 + n ≡ n = omega arith in
    record {
      left = λ h. clash refl h;
      first =
          λ h.
          part_stands run n 0 n sum in1 c.requires.1 first c.none.result c.fill-p.result c.none.ensures.0 c.none.ensures.1 c.fill-p.ensures.inside c.fill-p.ensures.list
          (sym c.unmoved.ensures ∙ b.0);
      second =
          λ h.
          part_stands run m 4 (4 + m) refl in2 c.requires.2 second c.none-2.result c.fill-q.result c.none-2.ensures.0 c.none-2.ensures.1 c.fill-q.ensures.inside c.fill-q.ensures.list
          (sym c.unmoved-2.ensures ∙ b.1);
      words =
          λ h.
          c.put.ensures
          ∙ ap (λ (l : List Candidate). ranked_words (pack l))
          (both_ranked run c.fill-p.result c.fill-r.result _ _
          (part_valid run n 0 n sum in1 c.requires.1 first)
          (part_valid run m 4 (4 + m) refl in2 c.requires.2 second)
          (part_holds run n 0 n sum in1 c.requires.1 first c.none.result c.fill-p.result c.none.ensures.0 c.none.ensures.1 c.fill-p.ensures.inside c.fill-p.ensures.list)
          c.fill-r.ensures.list);
    }
