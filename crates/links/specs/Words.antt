-- How eighteen links and their settings lie in the words that the host lends: four words a port, the link's, its settings', deltaTx
-- and deltaRx. Any words are links; zeroed words are fresh ones, with config 0.
use Rattle.std.specs.Prelude.{ℕ, ◌+◌, ◌-◌, ◌*◌, ◌/◌, ◌%◌, Bool, not, List, get_or, set, eqb, ltb, Result, Ok, Err}
use Rattle.refusal.specs.Limits.{is_port}
use Rattle.refusal.specs.Choice.{pick, refuse}
use Rattle.refusal.specs.declared.Refusal.TheVariants.{Port, Field}
use Rattle.link.specs.declared.Role.{Role}
use Rattle.link.specs.declared.Role.TheVariants.{Slave, Master}
use Rattle.link.specs.declared.Link.{Link}
use Rattle.link.specs.declared.Settings.{Settings}
use Rattle.link.specs.declared.Event.{Event}
use Rattle.link.specs.declared.Stepped.{Stepped}
use Rattle.link.specs.States.{state_number, state_of}
use Rattle.link.specs.Machine.{stepped, ignored}
use Rattle.refusal.specs.declared.Refusal.{Refusal}

abbrev pub bit : Bool → ℕ
bit b = pick b 1 0

abbrev pub role_number : Role → ℕ
role_number Slave = 0
role_number Master = 1

abbrev pub role_of : ℕ → Role
role_of n = pick (eqb n 1) Master Slave

-- a link in a word: the state in three bits, the role, the mode, and the retry count
unfoldable pub word_of : Link → ℕ
word_of l = state_number l.state + 8 * role_number l.role + 16 * bit l.mode + 32 * l.retries

unfoldable pub link_of : ℕ → Link
link_of w =
    record { role = role_of (w / 8 % 2); state = state_of (w % 8); retries = w / 32 % 256; mode = eqb (w / 16 % 2) 1 }

-- the settings' first word: config in two bits, whether calibration is needed, retry in eight bits, period
unfoldable pub settings_word : Settings → ℕ
settings_word s = s.config + 4 * bit s.calibrate + 8 * s.retry + 2048 * s.period

unfoldable pub settings_of : ℕ → ℕ → ℕ → Settings
settings_of w tx rx =
    record {
      config = w % 4;
      calibrate = eqb (w / 4 % 2) 1;
      retry = w / 8 % 256;
      period = w / 2048 % 4294967296;
      tx = tx;
      rx = rx;
    }

-- "port outside 1 to 18"
abbrev pub IsPort : ℕ → Bool
IsPort = is_port

-- where a port's four words begin
abbrev pub base : ℕ → ℕ
base port = 4 * (port - 1)

abbrev pub link_at : List ℕ → ℕ → Link
link_at ws port = link_of (get_or ws (base port) 0)

abbrev pub settings_at : List ℕ → ℕ → Settings
settings_at ws port = settings_of (get_or ws (base port + 1) 0) (get_or ws (base port + 2) 0) (get_or ws (base port + 3) 0)

-- "Settings: 8, 18."
unfoldable pub setting_answer : ℕ → Settings → Result (Unit {0}) Refusal
setting_answer port s =
    refuse (not (IsPort port)) (Err Port)
    (refuse (ltb 3 s.config) (Err Field)
    (Ok tt))

-- the words afterwards: the settings' three, unless refused
unfoldable pub setting_words : List ℕ → ℕ → Settings → List ℕ
setting_words ws port s =
    refuse (not (IsPort port)) ws
    (refuse (ltb 3 s.config) ws
    (set (set (set ws (base port + 1) (settings_word s)) (base port + 2) s.tx) (base port + 3) s.rx))

-- the step of a port's link under its settings
abbrev pub step_at : List ℕ → ℕ → Event → Stepped
step_at ws port e = stepped (settings_at ws port) (link_at ws port) e

-- "port outside 1 to 18", else the step
unfoldable pub take_answer : List ℕ → ℕ → Event → Result Stepped Refusal
take_answer ws port e = refuse (not (IsPort port)) (Err Port) (Ok (step_at ws port e))

-- the words afterwards: the link's own, unless refused
unfoldable pub take_words : List ℕ → ℕ → Event → List ℕ
take_words ws port e = refuse (not (IsPort port)) ws (set ws (base port) (word_of (step_at ws port e).link))

-- a link as it stands, "port outside 1 to 18" aside: what an event that is ignored answers, which "changes nothing"
unfoldable pub look_answer : List ℕ → ℕ → Result Stepped Refusal
look_answer ws port = refuse (not (IsPort port)) (Err Port) (Ok (ignored (link_at ws port)))
