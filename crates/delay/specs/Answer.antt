-- What the engine answers to one exchange.
use Rattle.std.specs.Prelude.{ℕ, List, [], ◌∷◌, ℤ, pos, Result, Ok, Err}
use Rattle.refusal.specs.Choice.{pick}
use Rattle.refusal.specs.Refusal.{number_of}
use Rattle.refusal.specs.declared.Refusal.TheVariants.{Range}
use Rattle.delay.specs.declared.Exchange.{Exchange}
use Rattle.delay.specs.Delay.{delay, offset, in_seconds}
use Rattle.delay.specs.Range.{in_range}
use Rattle.delay.specs.declared.Offset.{Offset}
use Rattle.refusal.specs.declared.Refusal.{Refusal}
use Rattle.delay.specs.declared.ScaledNs.{ScaledNs}

-- delay and offset, "else 14"
abbrev pub measure_of : Exchange → Result (ScaledNs × Offset) Refusal
measure_of x = pick (in_range x) (Ok (record { 0 = delay x }, in_seconds (offset x))) (Err Range)

-- this page's number of an answer, 0 where nothing is refused
abbrev pub code_of : Result (ScaledNs × Offset) Refusal → ℕ
code_of (Ok (d, o)) = 0
code_of (Err r) = number_of r

-- and its values: the delay, the offset's whole seconds and its rest
abbrev pub values_of : Result (ScaledNs × Offset) Refusal → List ℤ
values_of (Ok (d, o)) = d.0 ∷ o.seconds ∷ pos o.rest ∷ []
values_of (Err r) = []
