-- `sink` meets its contract: the slots gone through, then what comes of sinking the one that goes on into the others,
-- is what comes of sinking the candidate into the list.
use Prim.Native.Nat.{ℕ}
use mathlib.Core.Path.{◌≡◌, sym, ap, ◌∙◌}
use borrow.Author.Tests.{eq-eqb, ne_eqb}
use mathlib.Core.Bool.{Bool}
use mathlib.Core.List.{List}
use lib.ListN.{set, get_or}
use lib.Seq.{set-get_or}
use Rattle.refusal.specs.Choice.{pick}
use Rattle.rank.specs.declared.Candidate.{Candidate}
use Rattle.rank.specs.Order.{earlier_of}
use Rattle.rank.specs.Ranked.{blank_of}
use Rattle.rank.proofs.Sinking.{stays, goes, down_on, down_spent, down_grown, to_spec}
use Rattle.rank.proofs.sink.Goals as goal
use Rattle.rank.proofs.sink.Goals.{Joined-earlier, then-earlier, else-earlier}

-- which stays and which goes on, by what `earlier` told
stayed : (slots : List Candidate) (i : ℕ) (x y : Candidate) {b : Bool} → earlier_of x y ≡ b → set slots i (pick b x y) ≡ set slots i (stays x y)
stayed slots i x y e = ap (λ (t : Bool). set slots i (pick t x y)) (sym e)

went : (x y : Candidate) {b : Bool} → earlier_of x y ≡ b → pick b y x ≡ goes x y
went x y e = ap (λ (t : Bool). pick t y x) (sym e)

-- after the swap: the earlier of the two stays, the other goes on
turned : (c : Joined-earlier) → let l = c.loop-i in
    let y = get_or l.slots l.i blank_of in (c.if-earlier.slots ≡ set l.slots l.i (stays l.x y)) × (c.if-earlier.x ≡ goes l.x y)
turned c =
    let l = c.loop-i in
    let y = get_or l.slots l.i blank_of in
    let told = sym c.earlier.ensures in
    elim c.if-earlier.branch [
      | then-earlier w ↦ let e = told ∙ w.if-earlier.true in (w.slots-is ∙ stayed l.slots l.i l.x y e, w.x-is ∙ went l.x y e)
      | else-earlier w ↦ let e = told ∙ w.if-earlier.false in (w.slots-is ∙ sym (set-get_or l.slots l.i blank_of) ∙ stayed l.slots l.i l.x y e, w.x-is ∙ went l.x y e)
    ]

pub returns-then-y-p : goal.returns-then-y-p
returns-then-y-p c =
    let t = turned (goal.at.returns-then-y-p c).Joined-earlier in
    ap (λ (s : List Candidate). record { len = c.min-n.result; slots = s }) t.0
    ∙ down_spent _ _ _ _ _ _ _ c.loop-i.invariant blank_of c.loop-i-test.true (eq-eqb _ _ c.if-y-p.true)
    ∙ to_spec _ _ _ c.well_formed.0.1.1.1.0.1.0.1 c.min-n.ensures

pub loop-i-preserved : goal.loop-i-preserved
loop-i-preserved c =
    let t = turned (goal.at.loop-i-preserved c).Joined-earlier in
    rw (t.0, t.1)
    (down_on _ _ _ _ _ _ _ c.loop-i.invariant blank_of c.loop-i-test.true (ne_eqb _ _ c.if-y-p.false))

pub returns-then-n-lt-PLACES : goal.returns-then-n-lt-PLACES
returns-then-n-lt-PLACES c =
    down_grown _ _ _ _ _ _ _ c.loop-i.invariant c.loop-i-test.false c.if-n-lt-PLACES.true
    ∙ to_spec _ _ _ c.well_formed.0.1.1.1.0.1.0.1 c.min-n.ensures
