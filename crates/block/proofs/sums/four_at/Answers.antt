-- `four_at` meets its contract: the four octets are those of two words.
use Prim.Native.Nat.{ℕ, ◌*◌, ◌%◌}
use mathlib.Core.Path.{ap, ◌∙◌}
use Rattle.block.proofs.SumLaws.{low_words}
use Rattle.block.proofs.sums.four_at.Goals as goal

pub returns : goal.returns
returns c =
    let a = c.args in
    ap (λ (r : ℕ). 256 * r % 65535) c.from_le_bytes.ensures ∙ low_words a.s.now a.at
