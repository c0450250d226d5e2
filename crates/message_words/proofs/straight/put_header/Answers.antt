-- `straight::put_header` meets its contract: three parts, one behind the other.
use mathlib.Core.Path.{◌≡◌, refl}
use mathlib.Core.List.{[], ◌++◌}
use native.Mathlib.Omega.{arith}
use Rattle.stores.proofs.Buffer.{put_two}
use Rattle.layout.specs.Layout.{kind_of, control_of, lead_octets, identity_octets, close_octets}
use Rattle.message_words.specs.Words.{header_of, body_of}
use Rattle.message_words.proofs.straight.put_header.Goals as goal

pub returns : goal.returns
unfolding close_octets identity_octets lead_octets
returns c =
    let a = c.args in
    let w = a.w.now in
    let b = body_of w in
    let h = header_of w in
    let eh = c.header_of-h.ensures in
    let L = lead_octets h (kind_of b) a.size [] in
    let I = identity_octets h.source [] in
    let C = close_octets h (control_of b) [] in
    let el : lead_octets c.header_of-h.result c.kind_of-kind.result a.size [] ≡ L = λ i. lead_octets (eh i) (c.kind_of-kind.ensures i) a.size [] in
    let ei : identity_octets c.header_of-h.result.source [] ≡ I = λ i. identity_octets (eh i).source [] in
    let ec : close_octets c.header_of-h.result c.control_of-control.result [] ≡ C = λ i. close_octets (eh i) (c.control_of-control.ensures i) [] in
    put_two a.out.now 0 (omega arith) (L ++ I) C refl refl ec
    (put_two a.out.now 0 (omega arith) L I refl el ei c.put_lead.ensures c.put_identity.ensures)
    c.put_close.ensures
