-- `fill` meets its contract. The loop's invariant: inserting what is left into the list so far gives the whole.
use Prim.Native.Nat.{◌+◌}
use mathlib.Core.Path.{◌≡◌, sym, ap, ◌∙◌}
use mathlib.Core.Bool.{Bool}
use native.Mathlib.Omega.{arith}
use lib.Seq.{slice}
use Rattle.refusal.specs.Choice.{pick}
use Rattle.rank.specs.declared.Ranked.{Ranked}
use Rattle.rank.specs.Ranked.{sink_of, insert_of, insert_all}
use Rattle.candidate_words.specs.Runs.{run_of}
use Rattle.candidate_words.specs.Places.{candidate_of, list_of, Inside}
use Rattle.candidate_words.proofs.RunLaws.{slice_here}
use Rattle.candidate_words.proofs.places.fill.Goals as goal
use Rattle.candidate_words.proofs.places.fill.Goals.{Joined-not-left_out, then-not-left_out, else-not-left_out}

-- a turn inserts one candidate
turned : (c : Joined-not-left_out) → let run = c.args.run.now in
    Inside run c.if-not-left_out.q × (list_of run c.if-not-left_out.q ≡ insert_of (list_of run c.loop-i.q) (candidate_of run c.loop-i.i))
turned c =
    let run = c.args.run.now in
    let r = list_of run c.loop-i.q in
    let x = candidate_of run c.loop-i.i in
    let told = sym c.left_out.ensures in
    elim c.if-not-left_out.branch [
      | then-not-left_out w ↦ rw w.q-is (w.sink-q.ensures.inside, w.sink-q.ensures.list ∙ ap (λ (b : Bool). pick b r (sink_of r x)) (sym (told ∙ w.if-not-left_out.true)))
      | else-not-left_out w ↦ rw w.q-is (c.loop-i.invariant.2, ap (λ (b : Bool). pick b r (sink_of r x)) (sym (told ∙ w.if-not-left_out.false)))
    ]

pub loop-i-preserved : goal.loop-i-preserved
loop-i-preserved c =
    let run = c.args.run.now in
    let turn = turned (goal.at.loop-i-preserved c).Joined-not-left_out in
    let to = c.args.to in
    let i = c.loop-i.i in (
      omega (arith, c.loop-i.invariant.0),
      omega (arith, c.loop-i-test.true),
      turn.0,
      ap (λ (r : Ranked). insert_all r (slice (i + 1) to (run_of run))) turn.1
          ∙ ap (insert_all (list_of run c.loop-i.q)) (sym (slice_here run i to c.loop-i-test.true c.requires.2))
          ∙ c.loop-i.invariant.3,
    )
