-- What a trace has to hold so that its replay gives what was live (02, (iv): "if the settings are the same and never changed, and the recorded
-- messages are ones those calls were given, in that order and with that port and time, every accepted Announce among them").
use Rattle.std.specs.Prelude.{ℕ, ◌<◌, List, [], ◌∷◌}
use Rattle.block.specs.Layout.{Entry}
use Rattle.ports.specs.declared.intake.Settings.{Settings}
use Rattle.ports.specs.History.{Call, taking, setting, asking, after}
use Rattle.ports.specs.When.{take_number}

-- the records hold a history of a clock whose words were ws: each call asked, or was given a message under the settings; that one is the next record,
-- or it was refused and is left out
pub data Holds (by : Settings) : List ℕ → List Call → List Entry → Type 0 where
  none : {ws : List ℕ} → Holds by ws [] []
  asked : {ws : List ℕ} {p : ℕ} {cs : List Call} {es : List Entry} → Holds by ws cs es → Holds by ws (asking p ∷ cs) es
  recorded : {ws : List ℕ} {p t : ℕ} {s : List ℕ} {cs : List Call} {es : List Entry} → Holds by (after ws (taking by p t s)) cs es
      → Holds by ws (taking by p t s ∷ cs) (record { time = t; port = p; message = s } ∷ es)
  left_out : {ws : List ℕ} {p t : ℕ} {s : List ℕ} {cs : List Call} {es : List Entry} → 0 < take_number by ws p t s → Holds by ws cs es
      → Holds by ws (taking by p t s ∷ cs) es

-- ---- SETTINGS THAT NEVER CHANGED
-- the settings of the octets stand in each taking; a history sets no interval
abbrev pub SetsNone : List Call → Type 0
SetsNone [] = Unit {0}
SetsNone (taking by p t s ∷ cs) = SetsNone cs
SetsNone (setting p k ∷ cs) = ⊥
SetsNone (asking p ∷ cs) = SetsNone cs

-- a history that sets intervals alone: what a host does to a fresh clock before the first message
abbrev pub SetsOnly : List Call → Type 0
SetsOnly [] = Unit {0}
SetsOnly (taking by p t s ∷ cs) = ⊥
SetsOnly (setting p k ∷ cs) = SetsOnly cs
SetsOnly (asking p ∷ cs) = SetsOnly cs
