-- `merge_quickly` meets its contract: the eight candidates are those of the two lists.
use Prim.Native.Nat.{ℕ}
use mathlib.Core.Path.{subst}
use Rattle.candidate_words.specs.Places.{Tried}
use mathlib.Core.List.{List}
use lib.ListN.{get_or}
use Rattle.candidate_words.proofs.MergeLaws.{merged, few_both}
use Rattle.candidate_words.proofs.places.merge_quickly.Goals as goal

pub returns : goal.returns
returns c =
    let f = few_both _ _ c.if-a-b.false in
    let a = c.args.a.now in
    let b = c.args.b.now in
    merged a b c.merge_run.result c.args.out.now c.merge_run.new.out f.0 f.1
    (subst (λ (r : List (List ℕ)). Tried r (get_or a 0 0) (get_or b 0 0) c.merge_run.result c.args.out.now c.merge_run.new.out) c.eight-run.ensures c.merge_run.ensures)
