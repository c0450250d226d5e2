-- `wr::first_link` meets its contract: what the walk found has the form, so its number is there.
use native.Mathlib.Omega.{arith}
use Prim.Native.Nat.{◌+◌, ◌≤◌}
use lib.ListN.{length}
use Rattle.tlv.specs.Walk.{size_at}
use borrow.Author.Tests.{lt-ltb, le-ltb}
use Rattle.tlv.specs.Wr.{link_in}
use Rattle.tlv.proofs.FormLaws.{link_form}
use Rattle.tlv.specs.declared.walk.Sought.TheVariants.{Link}
use Rattle.tlv.proofs.FaultLaws.{place_found}
use Rattle.contents.proofs.wr.first_link.Goals as goal

pub link_at-requires : goal.link_at-requires
link_at-requires c =
    let t = c.args.t.now in
    let p = c.place-p.result in
    let f = place_found (Link c.args.magic) t c.place-p.ensures c.if-p-t.true in
    let h : p + 4 + size_at t p ≤ length t = f.whole.fits in
    let o : 8 ≤ size_at t p = (link_form c.args.magic t p f.passes).size in
    omega arith

pub returns-then-p-t : goal.returns-then-p-t
unfolding link_in
returns-then-p-t c =
    rw (← c.place-p.ensures, lt-ltb _ _ c.if-p-t.true, ← c.link_at.ensures)

pub returns : goal.returns
unfolding link_in
returns c =
    rw (← c.place-p.ensures, le-ltb _ _ c.if-p-t.false)
