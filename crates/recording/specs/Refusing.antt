-- When recording refuses, and with which number (02, (iv): "Refusals: in recording 8, then 19 LONG, message over 485 octets, then 11 for a
-- time below the last recorded one on any port, then 17 past block number 4,294,967,295"), 0 where the message is recorded. In
-- proofs/Refusing.antt the answer has its line here, and a line that holds is the answer.
use Rattle.std.specs.Prelude.{ℕ, ◌≤◌, ◌<◌, ◌≡◌, List, true, false, ◌⊎◌, length, Result, Ok, Err, Bool}
use Rattle.refusal.specs.Refusal.{answer_of}
use Rattle.refusal.specs.Limits.{is_port}
use Rattle.block.specs.Layout.{longest, Entry}
use Rattle.recording.specs.Recording.{next_of, last_of, fits}
use Rattle.refusal.specs.declared.Refusal.{Refusal}

-- this page's number of the answer
abbrev pub recorded_code : Result Bool Refusal → ℕ
recorded_code (Err x) = answer_of x
recorded_code (Ok false) = 0
recorded_code (Ok true) = 0

-- the last number of a block
abbrev pub last_number : ℕ
last_number = 4294967295

-- a message that no line refuses
pub record Taken (ws : List ℕ) (e : Entry) : Type 0 where
  pub port : is_port e.port ≡ true
  pub short : length e.message ≤ longest
  pub later : last_of ws ≤ e.time
  pub place : (fits ws e ≡ true) ⊎ (next_of ws ≤ last_number)

pub data RecordWhen (ws : List ℕ) (e : Entry) : ℕ → Type 0 where
  -- "8", a port outside 1 to 18
  no_port : is_port e.port ≡ false → RecordWhen ws e 8
  -- "19 LONG, message over 485 octets"
  too_long : is_port e.port ≡ true → longest < length e.message → RecordWhen ws e 19
  -- "11 for a time below the last recorded one on any port"
  backward : is_port e.port ≡ true → length e.message ≤ longest → e.time < last_of ws → RecordWhen ws e 11
  -- "17 past block number 4,294,967,295": the record needs a new block, and there is no number for it
  many : is_port e.port ≡ true → length e.message ≤ longest → last_of ws ≤ e.time → fits ws e ≡ false → last_number < next_of ws
      → RecordWhen ws e 17
  taken : Taken ws e → RecordWhen ws e 0
