-- `search::data_of` meets its contract: the TLV that was found is whole, so its data lie in the tail.
use Prim.Native.Nat.{◌+◌, ◌≤◌}
use native.Mathlib.Omega.{arith}
use lib.ListN.{length}
use Rattle.tlv.specs.Walk.{size_at}
use Rattle.tlv.specs.declared.walk.Sought.TheVariants.{OfType}
use Rattle.tlv.proofs.FaultLaws.{place_found}
use Rattle.contents.proofs.search.data_of.Goals as goal

-- what was found is whole
found : (c : goal.Then-p-t) → let t = c.args.t.now in
    c.place-p.result + 4 + size_at t c.place-p.result ≤ length t
found c =
    (place_found (OfType c.args.kind) _ c.place-p.ensures c.if-p-t.true).whole.fits

pub u16_at-n-requires : goal.u16_at-n-requires
u16_at-n-requires c =
    let f = found c in omega arith

pub slice_bounds-result-end : goal.slice_bounds-result-end
slice_bounds-result-end c =
    let f = (let it : let t = c.args.t.now in c.place-p.result + 4 + size_at t c.place-p.result ≤ length t = (place_found (OfType c.args.kind) _ c.place-p.ensures c.if-p-t.true).whole.fits in it) in omega arith
