-- When deciding is refused, by its numbers, 0 where it is not (01, "Numbers that refuse": "Deciding: 8, 15."). In proofs/Exactly.antt the number given
-- has its line here, and a line that holds is the number given.
use Rattle.std.specs.Prelude.{ℕ, ◌≡◌, true, false, Result, Ok, Err}
use Rattle.refusal.specs.Refusal.{number_of}
use Rattle.rank.specs.declared.Ranked.{Ranked}
use Rattle.rank.specs.Ranked.{is_port, is_ranked}
use Rattle.decide.specs.declared.Decision.{Decision}
use Rattle.refusal.specs.declared.Refusal.{Refusal}

-- this page's number of the answer
abbrev pub decided_code : Result Decision Refusal → ℕ
decided_code (Ok d) = 0
decided_code (Err x) = number_of x

pub data DecideWhen (list : Ranked) (port : ℕ) : ℕ → Type 0 where
  -- "port outside 1 to 18"
  no_port : is_port port ≡ false → DecideWhen list port 8
  -- "a list to .. decide by is not a ranked list"
  unranked : is_port port ≡ true → is_ranked list ≡ false → DecideWhen list port 15
  decided : is_port port ≡ true → is_ranked list ≡ true → DecideWhen list port 0
