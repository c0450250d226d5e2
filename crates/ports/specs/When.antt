-- Taking an Announce by its numbers: what `take` answers, and an Announce that is admitted and then refused by the port's records
-- (01, "Numbers that refuse": "Taking an Announce: 8, the reading checks, 3 if it isn't an Announce, 9, 10, 11, 12, 13.").
use Rattle.std.specs.Prelude.{ℕ, ◌≡◌, List, Ok}
use Rattle.refusal.specs.Refusal.{code_of}
use Rattle.senders.specs.declared.Notice as kept
use Rattle.senders.specs.Port.{Port, outcome_of}
use Rattle.ports.specs.declared.intake.Settings.{Settings}
use Rattle.ports.specs.Words.{port_at}
use Rattle.ports.specs.Intake.{admitted_of, plan_at}

-- the number that taking the octets s on a port at t answers with, a 6 or 7 with its place; 0 is taken
abbrev pub take_number : Settings → List ℕ → ℕ → ℕ → List ℕ → ℕ
take_number set ws port t s = code_of (outcome_of (plan_at set ws port t s))

-- the octets are an Announce that 1 to 10 do not refuse, and the port's records are as a line of the table says
pub record Given (When : Port → ℕ → kept.Notice → Type 0) (set : Settings) (ws : List ℕ) (port t : ℕ) (s : List ℕ) : Type 0 where
  pub notice : kept.Notice
  pub admitted : admitted_of set port s ≡ Ok notice
  pub when : When (port_at ws port) t notice
