-- `put_announce` meets its contract: two parts, one behind the other.
use mathlib.Core.Path.{refl}
use native.Mathlib.Omega.{arith}
use Rattle.stores.proofs.Buffer.{put_two}
use Rattle.layout.specs.Layout.{announce_octets}
use Rattle.layout.specs.Put.{offset_octets, grandmaster_octets}
use Rattle.layout.proofs.put_announce.Goals as goal

pub returns : goal.returns
unfolding announce_octets grandmaster_octets offset_octets
returns c =
    let s = c.args in
    put_two s.out.now 44 (omega arith) (offset_octets s.a) (grandmaster_octets s.a) refl refl refl c.put_offset.ensures c.put_grandmaster.ensures
