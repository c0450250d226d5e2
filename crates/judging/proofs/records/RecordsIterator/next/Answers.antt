-- `next` meets its contract: where a record is left it is whole, and the others behind it are laid out right.
use Rattle.std.proofs.Common.{◌∷◌, length, sym, ap, ap₂, ◌∙◌, arith, rules}
use Rattle.block.specs.Layout.{entries_from}
use Rattle.judging.proofs.Passed.{one_laid, lent}
use Rattle.judging.proofs.records.RecordsIterator.next.Goals as goal

pub returns-then-self-eq0-clause-steps : goal.returns-then-self-eq0-clause-steps
unfolding entries_from
returns-then-self-eq0-clause-steps c =
    let e = rw c.if-self-eq0.true at c.self.view_is in (sym e, sym e)

pub end_at-end-requires : goal.end_at-end-requires
end_at-end-requires c =
    let r = c.self.inside in
    let k = one_laid r.block.now r.at r.left (omega arith) c.self.invariant.1 in
    omega arith

pub time_at-requires : goal.time_at-requires
time_at-requires c =
    let r = c.self.inside in
    let k = one_laid r.block.now r.at r.left (omega arith) c.self.invariant.1 in
    omega arith

pub port_at-requires : goal.port_at-requires
port_at-requires c =
    let r = c.self.inside in
    let k = one_laid r.block.now r.at r.left (omega arith) c.self.invariant.1 in
    omega arith

pub slice_bounds-arrival-end : goal.slice_bounds-arrival-end
slice_bounds-arrival-end c =
    let r = c.self.inside in
    let k = one_laid r.block.now r.at r.left (omega arith) c.self.invariant.1 in
    omega arith

pub invariant_of-self : goal.invariant_of-self
invariant_of-self c =
    let r = c.self.inside in
    let k = one_laid r.block.now r.at r.left (omega arith) c.self.invariant.1 in
    (c.self.invariant.0, rw c.end_at-end.ensures k.others)

-- the record that is lent, and those that are left
pub returns-clause-steps : goal.returns-clause-steps
returns-clause-steps c =
    let r = c.self.inside in
    let k = one_laid r.block.now r.at r.left (omega arith) c.self.invariant.1 in
    sym c.self.view_is ∙ k.first
    ∙ ap₂ ◌∷◌ (lent r.block.now r.at _ _ _ c.time_at.ensures c.port_at.ensures c.end_at-end.ensures) (rw c.end_at-end.ensures)

pub returns-clause-goes : goal.returns-clause-goes
returns-clause-goes c =
    let r = c.self.inside in
    let k = one_laid r.block.now r.at r.left (omega arith) c.self.invariant.1 in
    let shorter = ap length (sym c.self.view_is ∙ k.first) in
    rw c.end_at-end.ensures (search rules)

pub invariant_of-arrival : goal.invariant_of-arrival
invariant_of-arrival c =
    let r = c.self.inside in
    let k = one_laid r.block.now r.at r.left (omega arith) c.self.invariant.1 in
    record { of_port = rw c.port_at.ensures k.port }
