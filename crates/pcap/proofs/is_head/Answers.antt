-- `is_head` meets its contract: each number that is tested is the head's.
use native.Mathlib.Omega.{arith}
use lib.ListN.{length}
use borrow.Author.Tests.{le-leb}
use Rattle.pcap.specs.File.{is_head}
use Rattle.pcap.proofs.is_head.Goals as goal

pub returns : goal.returns
unfolding is_head
returns c =
    let a = c.args in
    rw (le-leb 24 (length a.s.now) (omega arith), ← c.two-major.ensures, ← c.two-minor.ensures, ← c.four-link.ensures)
