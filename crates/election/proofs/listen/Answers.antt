-- `listen` meets its contract. The invariant: the places of the ports passed are written, and with those of the ports left what is
-- gathered becomes the whole.
use Prim.Native.Nat.{ℕ, suc, ◌+◌, ◌-◌}
use mathlib.Core.Path.{◌≡◌, refl, sym, ap, subst, ◌∙◌}
use mathlib.Core.List.{List}
use native.Mathlib.Omega.{arith}
use lib.ListN.{drop}
use borrow.Author.Rules.{rules}
use Rattle.ports.specs.Places.{place_on}
use Rattle.election.specs.Elected.{every_port}
use Rattle.election.specs.Places.{top_of, with_place, gather, Each}
use Rattle.election.proofs.Electing.{port_in_lem, from_port, no_port_left}
use Rattle.election.proofs.Filling.{none_written, one_written, all_written}
use Rattle.election.proofs.Gathering.{Lower, each_map, lower_with, joins, gather_one, gather_end}
use Rattle.election.proofs.listen.Goals as goal

pub loop-p-init : goal.loop-p-init
loop-p-init c =
    record { filled = none_written _ _ c.told-places; whole = refl; few = omega arith; lower = tt }

pub place-a-requires : goal.place-a-requires
place-a-requires c =
    let n = c.loop-p.invariant.filled.from in
    port_in_lem c.loop-p.p (omega arith) (omega arith)

pub overflow_sub-places : goal.overflow_sub-places
overflow_sub-places c =
    let n = c.loop-p.invariant.filled.from in
    search rules

pub with_place-top-requires : goal.with_place-top-requires
with_place-top-requires c =
    let n = c.loop-p.invariant.filled.from in
    let p = c.loop-p.p in
    let i = port_in_lem p (omega arith) (omega arith) in
    joins c.args.words.now c.args.t p i c.loop-p.top _ c.place-a.ensures c.loop-p.invariant.few c.loop-p.invariant.lower

pub loop-p-preserved : goal.loop-p-preserved
loop-p-preserved c =
    let ws = c.args.words.now in
    let t = c.args.t in
    let n = c.loop-p.invariant.filled.from in
    let p = c.loop-p.p in
    let i = port_in_lem p (omega arith) (omega arith) in
    let e = c.with_place-top.ensures.0 ∙ ap (with_place ws (top_of c.loop-p.top)) c.place-a.ensures in
    record {
      filled = one_written _ _ p _ c.loop-p.invariant.filled (omega arith) c.place-a.ensures;
      whole =
          ap (λ (x : List ℕ). gather ws t x (drop (p + 1 - 1) every_port)) e
          ∙ sym (ap (gather ws t (top_of c.loop-p.top)) (from_port p (omega arith) (omega arith)) ∙ gather_one ws t (top_of c.loop-p.top) p _)
          ∙ c.loop-p.invariant.whole;
      few = c.with_place-top.ensures.1;
      lower =
          subst (Each (Lower (p + 1))) (sym e)
          (each_map (Lower (suc p)) (Lower (p + 1)) (with_place ws (top_of c.loop-p.top) (place_on ws p t)) (λ b k. (k.0, let m = k.1 in omega arith)) (lower_with ws t p i (top_of c.loop-p.top) c.loop-p.invariant.lower));
    }

pub returns-clause-top : goal.returns-clause-top
returns-clause-top c =
    let ws = c.args.words.now in
    let t = c.args.t in
    let h = c.loop-p.invariant.filled.to in
    let e : c.loop-p.p - 1 ≡ 18 = omega arith in
    let n = ap (λ (k : ℕ). drop k every_port) e ∙ no_port_left in
    (sym (ap (gather ws t (top_of c.loop-p.top)) n ∙ gather_end ws t _) ∙ c.loop-p.invariant.whole, c.loop-p.invariant.few)

pub returns-clause-places : goal.returns-clause-places
returns-clause-places c =
    let ws = c.args.words.now in
    let t = c.args.t in
    let h = c.loop-p.invariant.filled.to in
    let e : c.loop-p.p - 1 ≡ 18 = omega arith in
    let n = ap (λ (k : ℕ). drop k every_port) e ∙ no_port_left in
    all_written _ _ _ c.loop-p.invariant.filled (omega arith)
