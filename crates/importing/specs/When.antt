-- When importing refuses, and with which number (02, (vi): "Refusals: 21 PCAP, a wrong head, link type or fraction, or a frame stored short or running past
-- the file, in that order; then 8, then what recording gives the first frame it refuses; .. last .. 16 for too little room"), 0 where the file is
-- read. In proofs/Exactly.antt the answer has its line here, and a line that holds is the answer.
use Rattle.std.specs.Prelude.{ℕ, ◌≤◌, ◌<◌, ◌≡◌, List, [], ◌∷◌, ◌++◌, true, false, length}
use Rattle.refusal.specs.Limits.{is_port}
use Rattle.block.specs.Layout.{Entry}
use Rattle.recording.specs.Recording.{words_after}
use Rattle.recording.specs.Refusing.{Taken, RecordWhen}
use Rattle.pcap.specs.File.{is_capture}
use Rattle.importing.specs.Importing.{words_after_all, fresh_words, trace_by, records_in}

-- recording takes one after another, from some words on
pub data AllTaken : List ℕ → List Entry → Type 0 where
  none : {ws : List ℕ} → AllTaken ws []
  more : {ws : List ℕ} {e : Entry} {es : List Entry} → Taken ws e → AllTaken (words_after ws e) es → AllTaken ws (e ∷ es)

-- "the first frame it refuses": those before it are taken, and behind them recording refuses it with n
pub record FirstRefused (ws : List ℕ) (es : List Entry) (n : ℕ) : Type 0 where
  pub before : List Entry
  pub refused : Entry
  pub after : List Entry
  pub all : before ++ (refused ∷ after) ≡ es
  pub taken : AllTaken ws before
  pub when : RecordWhen (words_after_all ws before) refused n
  pub number : 0 < n

pub data ImportWhen (room port : ℕ) (file : List ℕ) : ℕ → Type 0 where
  -- "21 PCAP": a fault anywhere in the file
  no_capture : is_capture file ≡ false → ImportWhen room port file 21
  -- "then 8", a port outside 1 to 18
  no_port : is_capture file ≡ true → is_port port ≡ false → ImportWhen room port file 8
  -- "then what recording gives the first frame it refuses"
  one_refused : {n : ℕ} → is_capture file ≡ true → is_port port ≡ true → FirstRefused fresh_words (records_in port file) n → ImportWhen room port file n
  -- "last .. 16 for too little room"
  no_room : is_capture file ≡ true → is_port port ≡ true → AllTaken fresh_words (records_in port file) → room < length (trace_by (records_in port file))
      → ImportWhen room port file 16
  read : is_capture file ≡ true → is_port port ≡ true → AllTaken fresh_words (records_in port file) → length (trace_by (records_in port file)) ≤ room
      → ImportWhen room port file 0
