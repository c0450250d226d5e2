-- `put_stamp` meets its contract: seconds and nanoseconds, one behind the other.
use mathlib.Core.Path.{refl}
use mathlib.Core.List.{[]}
use native.Mathlib.Omega.{arith}
use Rattle.octets.specs.Be.{octets_of}
use Rattle.stores.proofs.Buffer.{put_two}
use Rattle.layout.specs.Layout.{stamp_octets}
use Rattle.layout.proofs.put_stamp.Goals as goal

pub returns : goal.returns
unfolding stamp_octets
returns c =
    let s = c.args in
    put_two s.out.now 34 (omega arith) (octets_of 6 s.t.seconds []) (octets_of 4 s.t.nanoseconds []) refl refl refl c.six.ensures c.four.ensures
