-- `put_packet` meets its contract: the heads, and the message behind them.
use Prim.Native.Nat.{◌+◌, ◌≤◌}
use mathlib.Core.Path.{◌≡◌, refl, sym, ◌∙◌}
use mathlib.Core.List.{◌++◌, append-nil}
use native.Mathlib.Omega.{arith}
use lib.ListN.{length}
use Rattle.stores.specs.Stores.{over}
use Rattle.stores.proofs.Buffer.{put_two}
use Rattle.pcap.specs.Written.{framed}
use Rattle.exporting.specs.Exporting.{heads_of}
use Rattle.exporting.proofs.put_packet.Goals as goal

pub returns : goal.returns
returns c =
    let a = c.args in
    let o = a.out.now in
    let m = a.message.now in
    let h : a.at ≤ length o = omega (arith, c.requires) in
    let n : 14 + length m ≡ length (framed m) = omega arith in
    put_two o a.at h (heads_of a.t (14 + length m)) m refl refl refl c.put_heads.ensures c.copy_in.ensures
    ∙ (λ i. over o a.at (heads_of a.t (n i) ++ sym (append-nil m) i))
