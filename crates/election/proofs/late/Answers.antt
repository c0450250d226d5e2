-- `late` meets its contract: what is left of the ports has a late one exactly when all of them do.
use Prim.Native.Nat.{ℕ, ◌-◌}
use mathlib.Core.Path.{◌≡◌, sym, ap, ◌∙◌}
use native.Mathlib.Omega.{arith}
use lib.ListN.{drop}
use Rattle.election.specs.Elected.{every_port, any_late}
use Rattle.election.proofs.Electing.{from_port, no_port_left, late_hit, late_miss, late_end}
use Rattle.election.proofs.late.Goals as goal

pub returns-then-is_late : goal.returns-then-is_late
returns-then-is_late c =
    let g = c.args in
    let p = c.loop-p.p in
    sym (ap (any_late g.words.now g.t) (from_port p (omega arith) (omega arith)) ∙ late_hit g.words.now g.t p _ (sym c.is_late.ensures ∙ c.if-is_late.true))
    ∙ c.loop-p.invariant.2

pub loop-p-preserved : goal.loop-p-preserved
loop-p-preserved c =
    let g = c.args in
    let p = c.loop-p.p in (
      omega arith,
      omega arith,
      sym (ap (any_late g.words.now g.t) (from_port p (omega arith) (omega arith)) ∙ late_miss g.words.now g.t p _ (sym c.is_late.ensures ∙ c.if-is_late.false))
          ∙ c.loop-p.invariant.2,
    )

pub returns : goal.returns
returns c =
    let g = c.args in
    let e : c.loop-p.p - 1 ≡ 18 = omega arith in
    sym (ap (λ (k : ℕ). any_late g.words.now g.t (drop k every_port)) e ∙ ap (any_late g.words.now g.t) no_port_left ∙ late_end g.words.now g.t)
    ∙ c.loop-p.invariant.2
