-- `take` meets its contract: what is not admitted, or has no plan, is refused; else the part of the words that is the port's is written.
use Rattle.std.specs.Prelude.{Ok}
use borrow.Author.Rules.{rules}
use mathlib.Core.List.{List}
use mathlib.Core.Path.{◌≡◌, ◌∙◌, sym, ap, refl}
use Prim.Native.Nat.{ℕ}
use native.Mathlib.Omega.{arith}
use Rattle.std.proofs.lemmas.Result.{err_from_is_err_and}
use Rattle.senders.specs.Port.{plan_of, outcome_of}
use Rattle.slots.specs.Words.{port_of, words_after, splice}
use Rattle.slots.proofs.Laws.{back}
use Rattle.slots.proofs.Places.{plan_place, plan_notice}
use Rattle.ports.specs.Words.{own}
use Rattle.ports.proofs.Laws.{admitted_port, lent_own, take_refused, take_on, plan_refused}
use Rattle.ports.proofs.Kept.{admitted_stands, last_two}
use Rattle.ports.proofs.intake.take.Goals as goal

pub returns-in_err-a : goal.returns-in_err-a
returns-in_err-a c =
    let g = c.args in
    let p = err_from_is_err_and c.from_residual.result c.from_residual.ensures.1 in
    rw (p.1, p.2) (take_refused g.set g.words.now g.port g.t g.s.now _ _ c.in_err-a.ensures refl)

pub own-requires : goal.own-requires
own-requires c =
    let g = c.args in
    admitted_port g.set g.port g.s.now _ (sym c.in_ok-a.ensures)

pub returns-in_err-i : goal.returns-in_err-i
returns-in_err-i c =
    let g = c.args in
    let p = err_from_is_err_and c.from_residual-in_err-i.result c.from_residual-in_err-i.ensures.1 in
    rw (p.1, p.2) (plan_refused g.set g.words.now g.port g.t g.s.now _ _ c.in_ok-a.ensures (c.in_err-i.ensures ∙ ap (λ (l : List ℕ). plan_of (port_of l) g.t c.in_ok-a.a) c.own.ensures))

pub u64_at-identity-requires : goal.u64_at-identity-requires
u64_at-identity-requires c =
    let g = c.args in
    let w = admitted_stands g.set g.port g.s.now _ (sym c.in_ok-a.ensures) in
    omega (arith, w.0)

pub grade_at-grade-requires : goal.grade_at-grade-requires
grade_at-grade-requires c =
    let g = c.args in
    (admitted_stands g.set g.port g.s.now _ (sym c.in_ok-a.ensures)).0

pub start-b-requires : goal.start-b-requires
start-b-requires c =
    let g = c.args in
    admitted_port g.set g.port g.s.now _ (sym c.in_ok-a.ensures)

pub put-requires-clause-ws_len : goal.put-requires-clause-ws_len
put-requires-clause-ws_len c =
    let g = c.args in
    (search rules, plan_place c.own.result.now g.t _ _ _ (sym c.in_ok-i.ensures))

pub put-requires-clause-identity_value : goal.put-requires-clause-identity_value
put-requires-clause-identity_value c =
    let g = c.args in
    let w = admitted_stands g.set g.port g.s.now _ (sym c.in_ok-a.ensures) in
    last_two g.s.now c.in_ok-a.a c.in_ok-i.r _ _ (plan_notice c.own.result.now g.t _ _ c.in_ok-i.r (sym c.in_ok-i.ensures)) w.1 c.u64_at-identity.ensures c.grade_at-grade.ensures

pub returns : goal.returns
returns c =
    let g = c.args in
    let ws = g.words.now in
    let b = c.start-b.result in
    let a = c.in_ok-a.a in
    let part = lent_own ws g.port b c.start-b.ensures.0 in
    let plan : Ok (c.in_ok-i.i, c.in_ok-i.r) ≡ plan_of (port_of (own ws g.port)) g.t a =
    c.in_ok-i.ensures ∙ ap (λ (l : List ℕ). plan_of (port_of l) g.t a) c.own.ensures in
    let w =
    take_on g.set ws g.port g.t g.s.now _ a (own ws g.port) c.put.new.ws _ c.in_ok-a.ensures refl refl
    (ap outcome_of plan, c.put.ensures ∙ ap (λ (l : List ℕ). words_after l g.t (Ok (c.in_ok-i.i, c.in_ok-i.r))) part ∙ ap (words_after (own ws g.port) g.t) plan) in
    (w.0, back ws c.put.new.ws b 98 ∙ ap (λ (n : ℕ). splice ws n 98 c.put.new.ws) c.start-b.ensures.0 ∙ w.1)
