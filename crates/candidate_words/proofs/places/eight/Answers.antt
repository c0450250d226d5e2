-- `eight` meets its contract, candidate by candidate.
use mathlib.Core.List.{[], ◌∷◌}
use Rattle.candidate_words.specs.Places.{eight_of}
use Rattle.candidate_words.proofs.places.eight.Goals as goal

pub returns : goal.returns
unfolding eight_of
returns c =
    λ i. c.row.ensures i
    ∷ c.row-2.ensures i
    ∷ c.row-3.ensures i
    ∷ c.row-4.ensures i
    ∷ c.row-5.ensures i
    ∷ c.row-6.ensures i
    ∷ c.row-7.ensures i
    ∷ c.row-8.ensures i
    ∷ []
