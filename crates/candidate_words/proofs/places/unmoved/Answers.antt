-- `unmoved` meets its contract: it is the definition's test.
use mathlib.Core.Path.{refl}
use Rattle.candidate_words.specs.Places.{unmoved_of}
use Rattle.candidate_words.proofs.places.unmoved.Goals as goal

pub returns : goal.returns
unfolding unmoved_of
returns c =
    refl
