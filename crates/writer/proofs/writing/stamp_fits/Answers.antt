-- `writing::stamp_fits` meets its contract: the two tests are the definition's.
use borrow.Author.Tests.{lt-ltb, le-ltb}
use Rattle.writer.specs.Writing.{stamp_fits}
use Rattle.writer.proofs.writing.stamp_fits.Goals as goal

pub returns-then-t-lt281474976710656 : goal.returns-then-t-lt281474976710656
unfolding stamp_fits
returns-then-t-lt281474976710656 c =
    rw (lt-ltb _ _ c.if-t-lt281474976710656.true)

pub returns-else-t-lt281474976710656 : goal.returns-else-t-lt281474976710656
unfolding stamp_fits
returns-else-t-lt281474976710656 c =
    rw (le-ltb _ _ c.if-t-lt281474976710656.false)
