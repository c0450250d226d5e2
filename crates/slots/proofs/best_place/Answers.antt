-- `best_place` meets its contract: from the slot reached to the last, the best is the one whose place is held.
use mathlib.Core.Path.{◌≡◌, refl, ap, sym, ◌∙◌}
use Prim.Native.Nat.{ℕ, suc, ◌+◌, ◌-◌, ◌≤◌, ◌<◌}
use mathlib.Core.Bool.{Bool}
use mathlib.Core.List.{List}
use native.Mathlib.Omega.{arith}
use Rattle.refusal.specs.Choice.{pick}
use borrow.Author.Rules.{rules}
use Rattle.slots.specs.Words.{begin_of, outdoes_in}
use Rattle.slots.specs.Places.{place_among}
use Rattle.slots.proofs.Begins.{among_bound}
use Rattle.slots.proofs.Window.{place_since}
use Rattle.slots.proofs.best_place.Goals as goal

-- one slot more: the place that is held after it
turned : (ws : List ℕ) (from i b : ℕ) (o : Bool) → 0 < i → i ≤ 16 → o ≡ outdoes_in ws (begin_of (i - 1)) b 0 from → b ≡ place_among ws 0 from (16 - i)
    → pick o (begin_of (i - 1)) b ≡ place_among ws 0 from (16 - (i - 1))
unfolding place_among
turned ws from i b o low high told held =
    let n = 16 - i in
    let e : i - 1 ≡ 15 - n = omega arith in
    let f : 16 - (i - 1) ≡ suc n = omega arith in
    ap (λ (q : Bool). pick q (begin_of (i - 1)) b) told
    ∙ ap (λ (b : ℕ). pick (outdoes_in ws (begin_of (i - 1)) b 0 from) (begin_of (i - 1)) b) held
    ∙ ap (λ (k : ℕ). pick (outdoes_in ws (begin_of k) (place_among ws 0 from n) 0 from) (begin_of k) (place_among ws 0 from n)) e
    ∙ sym (ap (place_among ws 0 from) f)

pub loop-i-init : goal.loop-i-init
unfolding place_among
loop-i-init c = refl

pub outdoes-requires : goal.outdoes-requires
outdoes-requires c =
    let ws = c.args.ws.now in
    let bound : c.loop-i.b + 6 ≤ 98 = rw c.loop-i.invariant (among_bound ws 0 c.since-begin.result (16 - c.loop-i.i)) in
    search rules

pub loop-i-preserved-then-outdoes : goal.loop-i-preserved-then-outdoes
loop-i-preserved-then-outdoes c =
    rw c.if-outdoes.true at (turned c.args.ws.now c.since-begin.result c.loop-i.i c.loop-i.b _ c.loop-i-test.true c.loop-i.auto.i c.outdoes.ensures c.loop-i.invariant)

pub loop-i-preserved : goal.loop-i-preserved
loop-i-preserved c =
    rw c.if-outdoes.false at (turned c.args.ws.now c.since-begin.result c.loop-i.i c.loop-i.b _ c.loop-i-test.true c.loop-i.auto.i c.outdoes.ensures c.loop-i.invariant)

pub returns : goal.returns
returns c =
    let g = c.args in
    let ws = g.ws.now in
    let e : 16 - c.loop-i.i ≡ 16 = omega arith in
    c.loop-i.invariant
    ∙ ap (place_among ws 0 c.since-begin.result) e
    ∙ ap (λ (from : ℕ). place_among ws 0 from 16) c.since-begin.ensures
    ∙ sym (place_since ws g.w g.t 16)
