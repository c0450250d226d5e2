-- `put_identity` meets its contract: clock and port, one behind the other.
use mathlib.Core.Path.{refl}
use mathlib.Core.List.{[]}
use native.Mathlib.Omega.{arith}
use Rattle.octets.specs.Be.{octets_of}
use Rattle.stores.proofs.Buffer.{put_two}
use Rattle.layout.specs.Layout.{identity_octets}
use Rattle.layout.proofs.put_identity.Goals as goal

pub returns : goal.returns
unfolding identity_octets
returns c =
    let s = c.args in
    put_two s.out.now s.at (omega arith) (octets_of 8 s.p.clock []) (octets_of 2 s.p.port []) refl refl refl c.eight.ensures c.two.ensures
