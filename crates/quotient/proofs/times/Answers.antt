-- `times` meets its contract: the sum, and what is left of k times the unit, make up the product.
use Rattle.std.proofs.Common.{◌≡◌, ℕ, ◌+◌, ◌*◌, ◌/◌, ◌%◌, ap, ◌∙◌, mul_assoc, add-mul, arith}
use Rattle.quotient.proofs.times.Goals as goal

-- the last digit of what is left, and the rest of it twice
halved : (left unit : ℕ) → left * unit ≡ left % 2 * unit + left / 2 * (unit + unit)
halved left unit =
    let e : left ≡ left % 2 + left / 2 * 2 = omega arith in
    let a = ap (λ (t : ℕ). t * unit) e in
    let b = add-mul (left % 2) (left / 2 * 2) unit in
    let c : left / 2 * 2 * unit ≡ left / 2 * (unit + unit) = mul_assoc (left / 2) 2 unit ∙ ap (λ (t : ℕ). left / 2 * t) (omega arith) in
    a ∙ b ∙ ap (λ (t : ℕ). left % 2 * unit + t) c

pub loop-left-preserved : goal.loop-left-preserved
loop-left-preserved c =
    let l = c.loop-left in
    let h = halved l.left l.unit in
    omega arith
