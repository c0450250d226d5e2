-- A recording beside a live clock: every message that the clock is given is recorded too (02, (iv): "the recorded messages are ones those calls were
-- given, in that order and with that port and time, every accepted Announce among them").
use Rattle.std.specs.Prelude.{ℕ, ◌≡◌, List, [], ◌∷◌, Ok}
use Rattle.block.specs.Layout.{Entry}
use Rattle.recording.specs.Recording.{entry_of, record_check}
use Rattle.ports.specs.declared.intake.Settings.{Settings}
use Rattle.ports.specs.History.{Call, taking, setting, asking, after}
use Rattle.ports.specs.When.{take_number}
use Rattle.traces.specs.Taped.{Tape, taped_with, taped_all, trace_of, fresh_tape}

-- the messages that the calls of a history were given, in their order
unfoldable pub messages_of : List Call → List Entry
messages_of [] = []
messages_of (taking by p tm s ∷ cs) = entry_of tm p s ∷ messages_of cs
messages_of (setting p k ∷ cs) = messages_of cs
messages_of (asking p ∷ cs) = messages_of cs

-- the trace of a fresh recording that was handed all of them; what the block held before it does not matter
abbrev pub trace_beside : List ℕ → List Call → List ℕ
trace_beside opened cs = trace_of (taped_all (fresh_tape opened 0) (messages_of cs))

-- a tape t beside a clock whose words are ws, over a history: each call asks, or takes a message under the settings; that message is recorded too, and
-- recording does not refuse it where the clock accepts it
pub data KeepsTaken (by : Settings) : List ℕ → Tape → List Call → Type 0 where
  over : {ws : List ℕ} {t : Tape} → KeepsTaken by ws t []
  asks : {ws : List ℕ} {t : Tape} {p : ℕ} {cs : List Call} → KeepsTaken by ws t cs → KeepsTaken by ws t (asking p ∷ cs)
  takes : {ws : List ℕ} {t : Tape} {p tm : ℕ} {s : List ℕ} {cs : List Call}
      → (take_number by ws p tm s ≡ 0 → record_check t.words (entry_of tm p s) ≡ Ok tt)
      → KeepsTaken by (after ws (taking by p tm s)) (taped_with t (entry_of tm p s)) cs
      → KeepsTaken by ws t (taking by p tm s ∷ cs)
