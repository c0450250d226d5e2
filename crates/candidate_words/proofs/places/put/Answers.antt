-- `put` meets its contract: the words at each of the four places are those of its slot.
use Prim.Native.Nat.{ℕ}
use mathlib.Core.Path.{sym, ap, ◌∙◌}
use mathlib.Core.List.{List, ◌∷◌, ◌++◌}
use Rattle.candidate_words.specs.Places.{words_at}
use Rattle.candidate_words.proofs.PlaceLaws.{held_length, row_words}
use Rattle.candidate_words.proofs.places.put.Goals as goal

pub returns : goal.returns
returns c =
    let run = c.args.run.now in
    let p = c.args.p in
    let words : (w : List ℕ) → List ℕ = λ w. words_at w 0 in
    let n = sym (held_length run p c.requires) in
    let w0 = ap words c.words_at-a.ensures ∙ row_words run p c.requires 0 in
    let w1 = ap words c.words_at-b.ensures ∙ row_words run p c.requires 1 in
    let w2 = ap words c.words_at-c.ensures ∙ row_words run p c.requires 2 in
    let w3 = ap words c.words_at-d.ensures ∙ row_words run p c.requires 3 in
    λ i. n i ∷ (w0 i ++ (w1 i ++ (w2 i ++ w3 i)))
