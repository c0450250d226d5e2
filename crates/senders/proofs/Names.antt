-- Whose a record is and whose an Announce is: senders are told apart by clock and port.
use Rattle.std.proofs.Common.{◌≡◌, true, false, not, ◌&&◌, eqb, ap, eq-eqb, eqb-true}
use borrow.Author.Tests.{not-true}
use Rattle.identity.specs.declared.PortIdentity.{PortIdentity}
use Rattle.rank.proofs.Merging.{both}
use Rattle.senders.specs.declared.Notice.{Notice}
use Rattle.senders.specs.declared.Record.{Record}
use Rattle.senders.specs.Record.{is_of}
use Rattle.senders.specs.History.{is_by}

named : (x y : PortIdentity) → eqb x.clock y.clock ≡ true → eqb x.port y.port ≡ true → x ≡ y
named x y c p = λ i. record { clock = eqb-true x.clock y.clock c i; port = eqb-true x.port y.port p i }

-- a record is x's: its sender is x, and it was heard
pub of_name : (x : PortIdentity) (r : Record) → is_of x r ≡ true → r.notice.sender ≡ x
of_name x r o = let c = both _ _ o in let d = both _ _ c.1 in named r.notice.sender x c.0 d.0

pub of_heard : (x : PortIdentity) (r : Record) → is_of x r ≡ true → eqb r.receipts 0 ≡ false
of_heard x r o =
    let s = r.notice.sender in
    let c = both (eqb s.clock x.clock) (eqb s.port x.port && not (eqb r.receipts 0)) o in
    let d = both (eqb s.port x.port) (not (eqb r.receipts 0)) c.1 in
    not-true _ d.1

pub is_of_lem : (x : PortIdentity) (r : Record) → r.notice.sender ≡ x → eqb r.receipts 0 ≡ false → is_of x r ≡ true
is_of_lem x r e n = rw (eq-eqb _ _ (ap (λ (s : PortIdentity). s.clock) e), eq-eqb _ _ (ap (λ (s : PortIdentity). s.port) e), n)

-- an Announce is x's
pub by_name : (x : PortIdentity) (a : Notice) → is_by x a ≡ true → a.sender ≡ x
by_name x a h = let c = both _ _ h in named a.sender x c.0 c.1

pub is_by_lem : (x : PortIdentity) (a : Notice) → a.sender ≡ x → is_by x a ≡ true
is_by_lem x a e = rw (eq-eqb _ _ (ap (λ (s : PortIdentity). s.clock) e), eq-eqb _ _ (ap (λ (s : PortIdentity). s.port) e))
