-- Single numbers in words.
use Rattle.std.specs.Prelude.{ℕ, List, leb, Result, Ok, Err}
use Rattle.refusal.specs.Choice.{pick}
use Rattle.refusal.specs.Limits.{port_count}

-- the port that a word names: a word past the last port names none, as 0 does ("port outside 1 to 18"), and is never taken modulo 256
abbrev pub port_of : ℕ → ℕ
port_of w = pick (leb w port_count) w 0

-- what a call returns that writes its result into words that are lent: 0 where it has one, else the code that refuses it
abbrev pub returned : Result (List ℕ) ℕ → ℕ
returned (Ok ws) = 0
returned (Err code) = code

-- and those words afterwards: a refusal leaves them as they were
abbrev pub lent : Result (List ℕ) ℕ → List ℕ → List ℕ
lent (Ok ws) before = ws
lent (Err code) before = before
