-- What a sender has to do to keep its place: be live whenever somebody else announces on its port. Its own Announces, and
-- whatever happens on other ports, are no danger to it.
use Rattle.std.specs.Prelude.{ℕ, ◌≡◌, List, [], ◌∷◌, true, false, Ok}
use Rattle.identity.specs.declared.PortIdentity.{PortIdentity}
use Rattle.senders.specs.declared.Notice as kept
use Rattle.senders.specs.Record.{is_of}
use Rattle.senders.specs.Port.{slot_of, Live}
use Rattle.ports.specs.Words.{port_at}
use Rattle.ports.specs.Intake.{admitted_of}
use Rattle.ports.specs.History.{Call, taking, setting, asking, after}

-- slot i of port q holds a record of sender x
abbrev pub IsPlaceOf : List ℕ → ℕ → ℕ → PortIdentity → Type 0
IsPlaceOf ws q i x = is_of x (slot_of (port_at ws q) i) ≡ true

-- a call finds the record in slot i of port q live: an Announce that is admitted there is the record's own sender's, or comes
-- at a time at which the record is live
abbrev pub FindsLive : List ℕ → ℕ → ℕ → Call → Type 0
FindsLive ws q i (taking set port t s) =
    (a : kept.Notice) → admitted_of set port s ≡ Ok a → port ≡ q → is_of a.sender (slot_of (port_at ws q) i) ≡ false → Live (port_at ws q) t i
FindsLive ws q i (setting port k) = Unit {0}
FindsLive ws q i (asking port) = Unit {0}

-- each call of a history does, when its turn comes: the sender does not fall silent
abbrev pub StaysLive : List ℕ → ℕ → ℕ → List Call → Type 0
StaysLive ws q i [] = Unit {0}
StaysLive ws q i (c ∷ cs) = FindsLive ws q i c × StaysLive (after ws c) q i cs
