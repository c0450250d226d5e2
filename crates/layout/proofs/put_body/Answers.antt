-- `put_body` meets its contract: the first ten octets, and what follows them.
use mathlib.Core.Path.{◌≡◌, refl, ap, ◌∙◌}
use mathlib.Core.List.{[]}
use Prim.Native.Nat.{◌+◌, ◌≤◌}
use native.Mathlib.Omega.{arith}
use lib.ListN.{length}
use Rattle.stores.specs.Stores.{over}
use Rattle.stores.proofs.Buffer.{put_two}
use Rattle.layout.specs.Layout.{first_octets, more_octets}
use Rattle.layout.proofs.Buffer.{least, first_length, first_append}
use Rattle.layout.proofs.put_body.Goals as goal

pub put_first-requires : goal.put_first-requires
put_first-requires c =
    omega (arith, c.requires, least c.args.b)

pub returns : goal.returns
returns c =
    let b = c.args.b in
    let d = c.args.out.now in
    let h : 34 ≤ length d = omega (arith, least b, c.requires) in
    let e : 44 ≡ 34 + length (first_octets b []) = omega (arith, first_length b) in
    put_two d 34 h (first_octets b []) (more_octets b []) e refl refl c.put_first.ensures c.put_more.ensures
    ∙ ap (over d 34) (first_append b (more_octets b []))
