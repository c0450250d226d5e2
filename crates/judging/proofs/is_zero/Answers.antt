-- `is_zero` meets its contract: the octets are zero where the numbers of each eight are, and those behind the last eight.
use Rattle.std.proofs.Common.{◌*◌, ◌/◌, ◌&&◌, length, drop, sym, ap, ◌∙◌, arith, rules, tests}
use Rattle.std.specs.Simd.{first_chunks}
use Rattle.std.proofs.lemmas.Iterator.{YieldsList-from_slice}
use Rattle.std.proofs.lemmas.Iterator.Search.{all_from_yields_List}
use Rattle.judging.specs.Tests.{all_zero}
use Rattle.judging.proofs.Zeros.{is_zero, are_zero, by_one, by_eight}
use Rattle.judging.proofs.is_zero.Goals as goal

pub returns-then-all : goal.returns-then-all
returns-then-all c =
    let s = c.args.s.now in
    let k = length s / 8 in
    let front = all_from_yields_List are_zero _ _ c.all.result c.all.ensures.ran (YieldsList-from_slice (first_chunks 8 k s) (c.iter.ensures.rest ∙ c.as_chunks.ensures.front)) (λ x b q k. search (rules, tests)) in
    let back = all_from_yields_List is_zero _ _ c.all-then-all.result c.all-then-all.ensures.ran (YieldsList-from_slice (drop (k * 8) s) (c.iter-then-all.ensures.rest ∙ c.as_chunks.ensures.back)) (λ x b q k. search (rules, tests)) in
    back ∙ by_one (drop (k * 8) s) ∙ ap (λ b. b && all_zero (drop (k * 8) s)) (sym c.if-all.true ∙ front) ∙ by_eight k s (omega arith)

pub returns-else-all : goal.returns-else-all
returns-else-all c =
    let s = c.args.s.now in
    let k = length s / 8 in
    let front = all_from_yields_List are_zero _ _ c.all.result c.all.ensures.ran (YieldsList-from_slice (first_chunks 8 k s) (c.iter.ensures.rest ∙ c.as_chunks.ensures.front)) (λ x b q k. search (rules, tests)) in
    c.if-all.false ∙ ap (λ b. b && all_zero (drop (k * 8) s)) (sym c.if-all.false ∙ front) ∙ by_eight k s (omega arith)
