-- `seal` meets its contract: the block is copied, what its words leave gives the check, which is put over the
-- first two octets.
use mathlib.Core.Path.{◌≡◌, ap, ◌∙◌}
use Prim.Native.Nat.{ℕ, ◌-◌}
use native.Mathlib.Omega.{arith}
use lib.ListN.{drop}
use Rattle.octets.specs.Be.{octets_of}
use Rattle.stores.proofs.Buffer.{put_all}
use Rattle.block.specs.Making.{sealed}
use Rattle.block.proofs.Check.{check_by_all}
use Rattle.block.proofs.making.seal.Goals as goal

pub returns : goal.returns
unfolding sealed
returns c =
    let d = c.args.block.now in
    let e : c.copy_in.new.dst ≡ d = c.copy_in.ensures ∙ put_all c.args.out.now d (omega arith) in
    let f = check_by_all d (omega arith) (c.from.ensures ∙ c.u16_at-first.ensures) c.remainder.ensures in
    let g = ap (λ (t : ℕ). 65535 - t) c.folded-check.ensures ∙ f in
    c.two.ensures ∙ (λ i. octets_of 2 (g i) (drop 2 (e i)))
