-- "Given exactly when" of 11, 12 and 13 (01, "Numbers that refuse"), for whatever records a port holds.
use Rattle.std.specs.Prelude.{◌≡◌, ℕ, ◌<◌, ◌≤◌, true, false}
use Rattle.identity.specs.declared.PortIdentity.{PortIdentity}
use Rattle.senders.specs.declared.Notice.{Notice}
use Rattle.senders.specs.Record.{is_of, is_newer}
use Rattle.senders.specs.Port.{Port, slot_of, New, Live, AllLive}

-- the lowest slot that holds a record of the sender; where no sender has two records it is the only one
pub record Knows (p : Port) (x : PortIdentity) : Type 0 where
  pub at : ℕ
  pub inside : at < 16
  pub its : is_of x (slot_of p at) ≡ true
  pub lowest : (k : ℕ) → k < at → is_of x (slot_of p k) ≡ false

-- 11: "time below this port's last accepted time"
abbrev pub WhenBackward : Port → ℕ → Notice → Type 0
WhenBackward p t a = t < p.last

-- 12: "live record, sequenceId not newer"
pub record WhenStale (p : Port) (t : ℕ) (a : Notice) : Type 0 where
  pub later : p.last ≤ t
  pub known : Knows p a.sender
  pub live : Live p t known.at
  pub old : is_newer a.sequence (slot_of p known.at).notice.sequence ≡ false

-- 13: "new sender, 16 live records on the port"
abbrev pub WhenFull : Port → ℕ → Notice → Type 0
WhenFull p t a = (p.last ≤ t) × New p a × AllLive p t

-- taken: none of the three
abbrev pub WhenTaken : Port → ℕ → Notice → Type 0
WhenTaken p t a = (WhenBackward p t a → ⊥) × (WhenStale p t a → ⊥) × (WhenFull p t a → ⊥)
