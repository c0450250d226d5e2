-- `remainder` meets its contract: the loop's invariant says that 256 times the sum so far and the words that are left leave by 65,535 what all words
-- leave, and that each four so far added less than 4,294,967,296.
use Prim.Native.Nat.{ℕ, ◌*◌, ◌%◌, ◌^◌}
use mathlib.Core.Path.{◌≡◌, ap, ◌∙◌}
use native.Mathlib.Omega.{arith}
use native.Mathlib.Nat.{add-zero}
use Rattle.block.proofs.SumLaws.{sum_more, sum_none}
use Rattle.block.proofs.sums.remainder.Goals as goal

pub loop-k-preserved : goal.loop-k-preserved
loop-k-preserved c =
    (omega arith, omega (arith, sum_more c.args.s.now c.loop-k.k (omega arith)))

pub returns : goal.returns
returns c =
    let e : c.loop-k.k ≡ 128 = omega arith in
    -- 256 times the sum is a shift that loses nothing
    let s : c.loop-k.v * 256 % 2 ^ 64 ≡ 256 * c.loop-k.v = omega arith in
    let h = rw (e, sum_none, add-zero) at c.loop-k.invariant.1 in
    c.folded.ensures ∙ ap (λ (t : ℕ). t % 65535) (omega (arith, s)) ∙ h
