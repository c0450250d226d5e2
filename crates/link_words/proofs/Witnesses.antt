-- A step in words whose numbers are all different, written out: an exchange of two words breaks the table, also where definition and code are changed
-- alike. include/dzervolat.h has the same order.
use mathlib.Core.Path.{◌≡◌, refl}
use mathlib.Core.Bool.{true, false}
use mathlib.Core.List.{[], ◌∷◌}
use Rattle.tlv.specs.declared.wr.LinkMessage.TheVariants.{Lock, Calibrate, Calibrated}
use Rattle.link.specs.declared.Role.TheVariants.{Slave, Master}
use Rattle.link.specs.declared.State.TheVariants.{MLock, RespCalibReq, Calibrated as IsCalibrated}
use Rattle.link.specs.declared.Sends.TheVariants.{Nothing, One, Two}
use Rattle.link_words.specs.Steps.{step_words, sends_words}

-- STATE ROLE MODE RETRIES REPORT N, then NUMBER PATTERN RETRY PERIOD TX RX of each message
pub record Words : Type 0 where
  pub two_sent : step_words (record { link = record { role = Slave; state = IsCalibrated; retries = 3; mode = true }; sends = Two (Calibrate 11 12 13) (Calibrated 14 15); report = false }) ≡ 6 ∷ 0 ∷ 1 ∷ 3 ∷ 0 ∷ 2 ∷ 0x1003 ∷ 11 ∷ 12 ∷ 13 ∷ 0 ∷ 0 ∷ 0x1004 ∷ 0 ∷ 0 ∷ 0 ∷ 14 ∷ 15 ∷ []
  pub one_sent : step_words (record { link = record { role = Master; state = MLock; retries = 0; mode = false }; sends = One Lock; report = false }) ≡ 2 ∷ 1 ∷ 0 ∷ 0 ∷ 0 ∷ 1 ∷ 0x1001 ∷ 0 ∷ 0 ∷ 0 ∷ 0 ∷ 0 ∷ 0 ∷ 0 ∷ 0 ∷ 0 ∷ 0 ∷ 0 ∷ []
  pub none_sent : step_words (record { link = record { role = Slave; state = RespCalibReq; retries = 2; mode = false }; sends = Nothing; report = true }) ≡ 7 ∷ 0 ∷ 0 ∷ 2 ∷ 1 ∷ 0 ∷ 0 ∷ 0 ∷ 0 ∷ 0 ∷ 0 ∷ 0 ∷ 0 ∷ 0 ∷ 0 ∷ 0 ∷ 0 ∷ 0 ∷ []

pub in_order : Words
unfolding step_words sends_words
in_order = record { two_sent = refl; one_sent = refl; none_sent = refl }
