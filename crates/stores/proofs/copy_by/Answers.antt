-- `copy_by` meets its contract: whole parts, and the last N octets, which overlap them.
use Rattle.std.proofs.Common.{◌≡◌, ℕ, ◌+◌, ◌-◌, ◌*◌, ◌/◌, ◌<◌, ◌≤◌, ◌++◌, List, length, take, drop, sym, ap, ◌∙◌, arith}
use Rattle.std.proofs.Math.Nat.{div-mul-le_self, lt-div-mul-add}
use Rattle.std.proofs.Math.ListN.{length-drop}
use Rattle.std.proofs.Math.Seq.{length-take-le, take-add, take-length}
use Rattle.stores.specs.Stores.{over}
use Rattle.stores.proofs.Buffer.{overlap}
use Rattle.stores.proofs.copy_by.Goals as goal

pub returns : goal.returns
returns g c =
    let n = g.row.N in
    let d = c.args.dst.now in
    let at = c.args.at in
    let s = c.args.src.now in
    let r = length s / n * n in
    let j = length s - n in
    let z = take n (drop j s) in
    let le : r ≤ length s = div-mul-le_self (length s) n in
    let lt : length s < r + n = lt-div-mul-add c.requires.some.0 in
    let all : j + n ≡ length s = omega arith in
    let whole : take j s ++ z ≡ s = sym (take-add j n s) ∙ ap (λ (m : ℕ). take m s) all ∙ take-length s in
    let last : length z ≡ n = length-take-le n (drop j s) (omega (arith, length-drop j s)) in
    c.copy_part.ensures
    ∙ ap (λ (l : List ℕ). over l (at + j) z) c.copy_parts.ensures
    ∙ overlap d at s j r z (omega arith) (omega arith) le (omega arith) whole
