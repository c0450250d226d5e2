-- `divided` meets its contract: every digit doubles what n was, less the digits of the quotient so far times the divisor.
use Rattle.std.proofs.Common.{◌≡◌, ℕ, ◌+◌, ◌-◌, ◌*◌, ◌^◌, ◌<◌}
use Rattle.quotient.proofs.Laws.{Dealt}
use Rattle.quotient.proofs.divided.Given as goal

-- what holds of the divisor in its high place
pub record High (q digits half less : ℕ) : Type 0 where
  pub is : 2 * half ≡ q * 2 ^ digits
  pub less-is : less + 2 * half ≡ 2 ^ 64 + 1

abbrev pub invariant-loop : goal.invariant-loop
invariant-loop l = High l.q l.digits l.half l.less × Dealt l.n (2 * l.half - 1) l.counter l.v × (l.v < 2 * l.half)
