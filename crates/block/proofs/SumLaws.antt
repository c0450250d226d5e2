-- One step of the sum of a block's words: by two words more, as four octets.
use Prim.Native.Nat.{ℕ, ◌+◌, ◌*◌, ◌-◌, ◌%◌, ◌<◌}
use mathlib.Core.Path.{◌≡◌, refl, ap, ◌∙◌}
use mathlib.Core.List.{List}
use native.Mathlib.Omega.{arith}
use native.Mathlib.Nat.{add-zero, add_assoc}
use lib.ListN.{get_or}
use Rattle.octets.specs.Be.{be}
use Rattle.block.specs.Check.{sum_from}
use Rattle.block.proofs.Check.{sum_split}

-- four octets, the lowest first, leave by 65,535 what two words leave, but for the 256
pub low_words : (s : List ℕ) (at : ℕ)
    → 256 * (get_or s at 0 + get_or s (at + 1) 0 * 256 + get_or s (at + 2) 0 * 65536 + get_or s (at + 3) 0 * 16777216) % 65535 ≡ sum_from 2 s at % 65535
unfolding sum_from be
low_words s at = rw (add-zero at, add-zero (at + 2), add_assoc at 2 1) (omega arith)

-- the words from four k on are two words and those behind them
pub sum_more : (s : List ℕ) (k : ℕ) → k < 128 → sum_from (256 - 2 * k) s (4 * k) ≡ sum_from 2 s (4 * k) + sum_from (256 - 2 * (k + 1)) s (4 * (k + 1))
sum_more s k h =
    let e : 256 - 2 * k ≡ 2 + (256 - 2 * (k + 1)) = omega arith in
    let f : 4 * k + 2 * 2 ≡ 4 * (k + 1) = omega arith in
    ap (λ (n : ℕ). sum_from n s (4 * k)) e ∙ sum_split 2 (256 - 2 * (k + 1)) s (4 * k) ∙ rw f

pub sum_none : (s : List ℕ) (at : ℕ) → sum_from 0 s at ≡ 0
unfolding sum_from
sum_none s at = refl
