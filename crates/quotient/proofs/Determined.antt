-- Any two results that a contract allows are equal.
use Rattle.std.proofs.Common.{sym, refl, ◌∙◌}
use Rattle.laws.proofs.Fixes.{Fixes}
use Rattle.quotient.specs.contracts as contracts
use Rattle.quotient.proofs as its

pub divided_determined : Fixes contracts.divided.ended its.divided.Reads.Post
divided_determined κs a x y v w p q = (λ i. record { whole = (p.0 ∙ sym q.0) i; rest = (p.1 ∙ sym q.1) i }, refl)

pub portion_determined : Fixes contracts.portion.ended its.portion.Reads.Post
portion_determined κs a x y v w p q = (p ∙ sym q, refl)

pub thousandth_determined : Fixes contracts.thousandth.ended its.thousandth.Reads.Post
thousandth_determined κs a x y v w p q = (p ∙ sym q, refl)

pub times_determined : Fixes contracts.times.ended its.times.Reads.Post
times_determined κs a x y v w p q = (p ∙ sym q, refl)
