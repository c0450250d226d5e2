-- Where there are two ways they agree: what the contract of the one allows is what the contract of the other allows.
use Rattle.std.proofs.Common.{◌≡◌, ℕ, ◌+◌, ◌*◌, ◌/◌, ◌^◌, ◌<◌, sym, ap, ◌∙◌, subst, arith}
use contract.Lifetimes.{Lfts}
use denote.Triple.Clauses.{AtExit}
use denote.Triple.Entry.{Args, Res}
use lib.Arith.{digits_div}
use Rattle.quotient.specs.declared.Part.{Part}
use Rattle.quotient.specs.contracts as contracts
use Rattle.quotient.proofs as its

-- a thousandth is the division by 1000, with however many digits
module _ (κs : Lfts 0) (a : Args contracts.thousandth.signature κs) (b : Args contracts.divided.signature κs) (r : Res contracts.thousandth.signature κs) (s : Res contracts.divided.signature κs)
    (e : AtExit contracts.thousandth.ended κs) (f : AtExit contracts.divided.ended κs) (same : a.0 ≡ b.0) (thousand : b.1.0 ≡ 1000) where
  pub thousandth_divides : its.thousandth.Reads.Post κs a r e → its.divided.Reads.Post κs b s f → r ≡ s.whole
  thousandth_divides p q = p ∙ ap (λ (n : ℕ). n / 1000) same ∙ sym (q.0 ∙ ap (λ (d : ℕ). b.0 / d) thousand)

-- a quotient and a rest below the divisor are those of their sum
parts_alike : (q : ℕ) (a b : Part) → a.rest < q → b.rest < q → a.whole * q + a.rest ≡ b.whole * q + b.rest → a ≡ b
parts_alike q a b l m e =
    let w : a.whole ≡ b.whole = sym (digits_div a.whole l) ∙ ap (λ (n : ℕ). n / q) e ∙ digits_div b.whole m in
    let s = ap (λ (n : ℕ). n * q) w in
    let r : a.rest ≡ b.rest = omega arith in
    λ i. record { whole = w i; rest = r i }

-- the short way of the asymmetry's quotient gives what all its digits give
module _ (κs : Lfts 0) (a : Args contracts.few_digits.signature κs) (b : Args contracts.all_digits.signature κs) (r : Res contracts.few_digits.signature κs) (s : Res contracts.all_digits.signature κs)
    (e : AtExit contracts.few_digits.ended κs) (f : AtExit contracts.all_digits.ended κs) (x : a.0 ≡ b.0) (q : a.1.0 ≡ b.1.0) where
  pub few_are_all : its.few_digits.Reads.Post κs a r e → its.all_digits.Reads.Post κs b s f → r ≡ s
  few_are_all u v =
      let sum = ap (λ (d : ℕ). r.whole * d + r.rest) (sym q) ∙ u.0 ∙ ap (λ (n : ℕ). 2 ^ 40 * n) x ∙ sym v.0 in
      parts_alike b.1.0 r s (subst (λ (d : ℕ). r.rest < d) q u.1) v.1 sum
