-- Any two results that a contract allows are equal; and a `measure` that refuses everything, or gives one answer to all, is not allowed.
use Rattle.std.specs.Prelude.{Result, Ok, Err}
use mathlib.Core.Path.{◌≡◌, refl, sym, ap, ◌∙◌}
use Prim.Native.Nat.{ℕ, ◌^◌}
use native.Mathlib.Omega.{arith}
use contract.Lifetimes.{Lfts}
use denote.Triple.Clauses.{AtExit}
use denote.Triple.Entry.{Args, Res}
use lib.IntN.{pos}
use Rattle.laws.proofs.Fixes.{Fixes}
use Rattle.refusal.specs.declared.Refusal.TheVariants.{Range}
use Rattle.delay.specs.Answer.{measure_of, code_of}
use Rattle.delay.proofs.Edges.{latencies, fractions, row10, row11}
use Rattle.delay.specs.contracts as contracts
use Rattle.delay.proofs as its
use Rattle.delay.specs.declared.Offset.{Offset}
use Rattle.refusal.specs.declared.Refusal.{Refusal}
use Rattle.delay.specs.declared.ScaledNs.{ScaledNs}

abbrev rest_of : Result (ScaledNs × Offset) Refusal → ℕ
rest_of (Ok (d, o)) = o.rest
rest_of (Err r) = 0

pub measure_determined : Fixes contracts.measure.ended its.measure.Reads.Post
measure_determined κs a x y v w p q = (p ∙ sym q, refl)

pub in_ns_determined : Fixes contracts.in_ns.ended its.in_ns.Reads.Post
in_ns_determined κs a x y v w p q = (λ i. record { 0 = (p ∙ sym q) i }, refl)

-- 01's rows 10 and 11 have an answer, and not the same one
module _ (κs : Lfts 0) (a b : Args contracts.measure.signature κs) (r : Res contracts.measure.signature κs) (e f : AtExit contracts.measure.ended κs)
    (ten : a.0 ≡ fractions 10 0 (latencies 0 0 0 0) (pos (2 ^ 38))) (eleven : b.0 ≡ fractions 0 1 (latencies 0 0 0 0) (pos (2 ^ 38))) where
  pub not_all_refused : its.measure.Reads.Post κs a r e → r ≡ Err Range → ⊥
  not_all_refused p q =
      let z : ◌≡◌ {A = ℕ} 0 14 = ap code_of (sym row10 ∙ ap measure_of (sym ten) ∙ sym p ∙ q) in
      omega arith

  pub not_one_answer : its.measure.Reads.Post κs a r e → its.measure.Reads.Post κs b r f → ⊥
  not_one_answer p q =
      let z : ◌≡◌ {A = ℕ} 5 1 = ap rest_of (sym row10 ∙ ap measure_of (sym ten) ∙ sym p ∙ q ∙ ap measure_of eleven ∙ row11) in
      omega arith
