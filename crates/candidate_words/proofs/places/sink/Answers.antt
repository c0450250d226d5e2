-- `sink` meets its contract: what is done to the places is what `rank` does to the slots of the list that they stand for.
use Prim.Native.Nat.{◌+◌}
use mathlib.Core.Path.{◌≡◌, sym, ap, ◌∙◌}
use mathlib.Core.List.{List, [], map}
use native.Mathlib.Omega.{arith}
use borrow.Author.Tests.{eq-eqb, ne_eqb}
use lib.ListN.{set, get_or, length-set, get_or-map}
use Rattle.rank.specs.declared.Candidate.{Candidate}
use Rattle.rank.proofs.Sinking.{stays, goes, down_on, down_spent, down_dropped, down_grown}
use Rattle.candidate_words.specs.Places.{candidate_of, Fit, Inside}
use Rattle.candidate_words.proofs.PlaceLaws.{order, port_word, map_set, turn_taken, turn_left, each_set, sinks}
use Rattle.candidate_words.proofs.places.sink.Goals as goal
use Rattle.candidate_words.proofs.places.sink.Goals.{Joined-lower, then-lower, else-lower}

-- after the exchange: the earlier of the two stays, the other goes on
turned : (c : Joined-lower) → let f = candidate_of c.args.run.now in
    let y = get_or (map f c.loop-i.at) c.loop-i.i (f 0) in
    (map f c.if-lower.at ≡ set (map f c.loop-i.at) c.loop-i.i (stays (f c.loop-i.x) y)) × (f c.if-lower.x ≡ goes (f c.loop-i.x) y)
turned c =
    let l = c.loop-i in
    let run = c.args.run.now in
    let f = candidate_of run in
    let told = sym (order run l.x (get_or l.at l.i 0) l.invariant.1 (l.invariant.0.each l.i c.loop-i-test.true)) ∙ sym c.lower.ensures in
    elim c.if-lower.branch [
      | then-lower w ↦ let r = turn_taken f l.at l.i l.x (told ∙ w.if-lower.true) in (ap (map f) w.at-is ∙ r.0, ap f w.x-is ∙ r.1)
      | else-lower w ↦ let r = turn_left f l.at l.i l.x (told ∙ w.if-lower.false) in (ap (map f) w.at-is ∙ r.0, ap f w.x-is ∙ r.1)
    ]

-- and both are places of the run
inside_still : (c : Joined-lower) → Inside c.args.run.now (record { len = c.args.p.len; at = c.if-lower.at }) × Fit c.args.run.now c.if-lower.x
inside_still c =
    let l = c.loop-i in
    let run = c.args.run.now in
    let old = l.invariant.0 in
    elim c.if-lower.branch [
      | then-lower w ↦ rw (w.at-is, w.x-is) (
        record {
          few = old.few;
          size = length-set l.at l.i l.x ∙ old.size;
          each = each_set (Fit run) l.at l.i l.x c.args.p.len (omega (arith, old.size, old.few)) l.invariant.1 (λ k h n. old.each k h);
        },
        old.each l.i c.loop-i-test.true,
      )
      | else-lower w ↦ rw (w.at-is, w.x-is) (old, l.invariant.1)
    ]

-- the port at a place, by its word
port_here : (c : Joined-lower) → let run = c.args.run.now in
    (get_or (map (candidate_of run) c.loop-i.at) c.loop-i.i (candidate_of run 0)).port ≡ get_or (get_or run (get_or c.loop-i.at c.loop-i.i 0) []) 9 0
port_here c =
    let run = c.args.run.now in
    ap (λ (x : Candidate). x.port) (get_or-map (candidate_of run) c.loop-i.at c.loop-i.i 0)
    ∙ port_word run (get_or c.loop-i.at c.loop-i.i 0) (c.loop-i.invariant.0.each c.loop-i.i c.loop-i-test.true)

pub returns-then-run-y-clause-inside : goal.returns-then-run-y-clause-inside
returns-then-run-y-clause-inside c = (inside_still (goal.at.returns-then-run-y-clause-inside c).Joined-lower).0

pub returns-then-run-y-clause-list : goal.returns-then-run-y-clause-list
returns-then-run-y-clause-list c =
    let j = (goal.at.returns-then-run-y-clause-list c).Joined-lower in
    let run = c.args.run.now in
    ap (λ (k : List Candidate). record { len = c.args.p.len; slots = k }) (turned j).0
    ∙ down_spent _ _ _ _ _ _ _ c.loop-i.invariant.2 (candidate_of run 0) c.loop-i-test.true (eq-eqb _ _ (port_here j ∙ c.if-run-y.true))
    ∙ sinks run c.args.p c.args.c c.requires.0 c.requires.1

pub loop-i-preserved : goal.loop-i-preserved
loop-i-preserved c =
    let j = (goal.at.loop-i-preserved c).Joined-lower in
    let t = turned j in
    let s = inside_still j in (
      s.0,
      s.1,
      rw (t.0, t.1)
          (down_on _ _ _ _ _ _ _ c.loop-i.invariant.2 (candidate_of c.args.run.now 0) c.loop-i-test.true (ne_eqb _ _ (λ e. c.if-run-y.false (sym (port_here j) ∙ e)))),
    )

pub returns-then-n-lt-PLACES-clause-inside : goal.returns-then-n-lt-PLACES-clause-inside
returns-then-n-lt-PLACES-clause-inside c =
    let l = c.loop-i in
    let run = c.args.run.now in
    let n = c.args.p.len in
    let old = l.invariant.0 in
    record {
      few = omega arith;
      size = length-set l.at n l.x ∙ old.size;
      each = each_set (Fit run) l.at n l.x (n + 1) (omega (arith, old.size, c.if-n-lt-PLACES.true)) l.invariant.1 (λ k h m. old.each k (omega arith));
    }

pub returns-then-n-lt-PLACES-clause-list : goal.returns-then-n-lt-PLACES-clause-list
returns-then-n-lt-PLACES-clause-list c =
    let l = c.loop-i in
    let run = c.args.run.now in
    let n = c.args.p.len in
    ap (λ (k : List Candidate). record { len = n + 1; slots = k }) (map_set (candidate_of run) l.at n l.x)
    ∙ down_grown _ _ _ _ _ _ _ l.invariant.2 c.loop-i-test.false c.if-n-lt-PLACES.true
    ∙ sinks run c.args.p c.args.c c.requires.0 c.requires.1

pub returns-clause-list : goal.returns-clause-list
returns-clause-list c =
    down_dropped _ _ _ _ _ _ _ c.loop-i.invariant.2 c.loop-i-test.false c.if-n-lt-PLACES.false
    ∙ sinks c.args.run.now c.args.p c.args.c c.requires.0 c.requires.1
