-- `words_at` meets its contract: a used place is in the run.
use borrow.Author.Tests.{lt-ltb, le-ltb}
use Rattle.candidate_words.specs.Places.{row_of}
use Rattle.candidate_words.proofs.places.words_at.Goals as goal

pub returns-then-k-p : goal.returns-then-k-p
unfolding row_of
returns-then-k-p c =
    simp (lt-ltb _ _ c.if-k-p.true)

pub returns : goal.returns
unfolding row_of
returns c =
    simp (le-ltb _ _ c.if-k-p.false)
