-- `copy_parts` meets its contract: the first k parts are copied.
use Rattle.std.proofs.Common.{◌≡◌, ℕ, ◌+◌, ◌*◌, ◌≤◌, length, take, drop, refl, sym, ap, ◌∙◌, arith}
use Rattle.std.proofs.Math.Nat.{le-div_iff_mul-le}
use Rattle.std.proofs.Math.Seq.{length-take-le, take-add}
use Rattle.stores.specs.Stores.{over}
use Rattle.stores.proofs.Buffer.{put_two}
use Rattle.stores.proofs.copy_parts.Goals as goal

pub loop-k-preserved : goal.loop-k-preserved
loop-k-preserved g c =
    let n = g.row.N in
    let d = c.args.dst.now in
    let at = c.args.at in
    let s = c.args.src.now in
    let i = c.loop-k.k * n in
    let within : (c.loop-k.k + 1) * n ≤ length s = (le-div_iff_mul-le c.requires.some).0 (omega arith) in
    let next : i + n ≡ (c.loop-k.k + 1) * n = grind arith in
    let e : at + i ≡ at + length (take i s) = omega (arith, length-take-le i s (omega arith)) in
    put_two d at (omega arith) (take i s) (take n (drop i s)) e refl refl c.loop-k.invariant c.copy_part.ensures
    ∙ ap (over d at) (sym (take-add i n s) ∙ ap (λ (m : ℕ). take m s) next)
