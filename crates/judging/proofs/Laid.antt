-- A block that was made of records of ports that there are has the layout that is asked for.
use Prim.Native.Nat.{ℕ, zero, suc, ◌+◌, ◌-◌, ◌<◌, ◌≤◌}
use mathlib.Core.Path.{◌≡◌, refl, sym, ap, ◌∙◌}
use mathlib.Core.List.{List, [], ◌∷◌}
use mathlib.Core.Bool.{true, ◌&&◌}
use native.Mathlib.Omega.{arith}
use lib.Dec.{eqb, leb}
use lib.ListN.{length, drop, replicate}
use borrow.Author.Tests.{eq-eqb, le-leb}
use Rattle.refusal.specs.Limits.{is_port}
use Rattle.block.specs.Layout.{block_octets, records_at, Entry, first_time_of, count_of, time_at, port_at, end_at}
use Rattle.judging.specs.Tests.{all_zero, laid_from, is_laid}
use Rattle.block.specs.Making.{size_of, entries_octets, sizes_of, block_of, EntryFits, OnPort, All}
use Rattle.block.proofs.Made.{end_read, port_read, then, first_read, zeros_of, block_length, block_count, block_first, behind_head}

zeros : (n : ℕ) → all_zero (replicate n 0) ≡ true
unfolding all_zero
zeros zero = refl
zeros (suc n) = zeros n

-- records one behind the other, where zeros follow to the end of the block, are laid as they must be
entries_laid : (s rest : List ℕ) → all_zero rest ≡ true → (es : List Entry) (k : ℕ) → drop k s ≡ entries_octets es rest → k + sizes_of es ≤ block_octets → All OnPort es
    → laid_from (length es) s k ≡ true
unfolding laid_from entries_octets sizes_of
entries_laid s rest z [] k here size ports = ap all_zero here ∙ z
entries_laid s rest z (e ∷ es) k here size ports =
    let l : length e.message < 65536 = omega arith in
    let r = entries_octets es rest in
    let f : end_at s k ≡ k + size_of e = end_read s k e r here l in
    let inside : leb (end_at s k) block_octets ≡ true = le-leb (end_at s k) block_octets (omega arith) in
    let port : is_port (port_at s k) ≡ true = ap is_port (port_read s k e r here l) ∙ ports.0 in
    let more : laid_from (length es) s (end_at s k) ≡ true = entries_laid s rest z es (end_at s k) (then s k e r here l) (omega arith) ports.1 in
    λ i. inside i && (port i && more i)

-- the layout of a block that was made is right
pub block_laid : (n : ℕ) (es : List Entry) → sizes_of es ≤ 496 → All EntryFits es → 0 < length es → All OnPort es → is_laid (block_of n es) ≡ true
unfolding is_laid
block_laid n es size fits some ports =
    let s = block_of n es in
    let t = first_read s (zeros_of n es size) es records_at (behind_head n es size) (omega arith) fits some in
    let whole : eqb (length s) block_octets ≡ true = eq-eqb _ _ (block_length n es size) in
    let held : leb 1 (count_of s) ≡ true = ap (leb 1) (block_count n es size) ∙ le-leb 1 (length es) some in
    let time : eqb (first_time_of s) (time_at s records_at) ≡ true = eq-eqb _ _ (block_first n es size t.1 ∙ sym t.0) in
    let laid : laid_from (count_of s) s records_at ≡ true =
    ap (λ (c : ℕ). laid_from c s records_at) (block_count n es size)
    ∙ entries_laid s (zeros_of n es size) (zeros (496 - sizes_of es)) es records_at (behind_head n es size) (omega arith) ports in
    λ i. whole i && (held i && (time i && laid i))
