-- Worked inputs, computed: 01's own, and one for each rule that a constant answer or a habit of other systems would break.
use Rattle.std.specs.Prelude.{Some, None, Result, Ok, Err}
use Prim.Native.Nat.{ℕ}
use mathlib.Core.Path.{◌≡◌, refl, sym, ◌∙◌}
use mathlib.Core.List.{[], ◌∷◌}
use native.Mathlib.Omega.{arith}
use contract.Lifetimes.{Lfts}
use borrow.Fn.Kinds.{ended_of}
use denote.Triple.Clauses.{AtExit}
use Rattle.refusal.specs.Choice.{refuse}
use Rattle.refusal.specs.declared.Refusal.TheVariants.{Port, Unranked}
use Rattle.rank.specs.declared.Grandmaster.{Grandmaster}
use Rattle.rank.specs.declared.Candidate.{Candidate}
use Rattle.rank.specs.declared.Ranked.{Ranked}
use Rattle.rank.specs.Ranked.{rank_of, pack}
use Rattle.decide.specs.declared.DataSet.{DataSet}
use Rattle.decide.specs.declared.Comparison.TheVariants.{ABetter, BBetter, ABetterByTopology, BBetterByTopology, Error1, Error2}
use Rattle.decide.specs.declared.Decision.TheVariants.{M1, M2, M3, P1, P2, S1, S2}
use Rattle.decide.specs.Comparing.{different_of, fewer_of, even_of, same_of, compare_of}
use Rattle.decide.specs.Deciding.{set_of, own_beats, nearer_of, decide_of}
use Rattle.decide.proofs.decide.Reads as decide
use Rattle.decide.proofs.decide.Kinds as decide-kinds
use Rattle.decide.specs.declared.Decision.{Decision}
use Rattle.refusal.specs.declared.Refusal.{Refusal}

-- a clock by its priority1, class and identity
abbrev clock : ℕ → ℕ → ℕ → Grandmaster
clock p class x = record { priority1 = p; class = class; accuracy = 254; variance = 65535; priority2 = 128; identity = x }

-- a candidate by its grandmaster, steps, sender and port
abbrev cand : Grandmaster → ℕ → ℕ → ℕ → Candidate
cand gm steps sender port = record { grandmaster = gm; steps = steps; sender = record { clock = sender; port = 1 }; port = port; wrflags = 0 }

-- "One grandmaster X with priority1 1 and steps 5 (A), X with 9 and steps 1 (B), Y with 5 (C)"; our clock is 100
abbrev cand_a : Candidate
cand_a = cand (clock 1 248 7) 5 7 1

abbrev cand_b : Candidate
cand_b = cand (clock 9 248 7) 1 7 2

abbrev cand_c : Candidate
cand_c = cand (clock 5 248 8) 0 8 3

abbrev set : Candidate → DataSet
set c = set_of c 100 c.port

-- THE COMPARISON GOES IN A CIRCLE: "B beats A, C beats B, A beats C."
pub circle : (compare_of (set cand_b) (set cand_a) ≡ ABetter) × (compare_of (set cand_c) (set cand_b) ≡ ABetter) × (compare_of (set cand_a) (set cand_c) ≡ ABetter)
unfolding compare_of same_of fewer_of different_of
circle = (refl, refl, refl)

-- "Rank order is A, C, B."
pub in_rank_order : rank_of (cand_a ∷ cand_b ∷ cand_c ∷ []) ≡ cand_a ∷ cand_c ∷ cand_b ∷ []
in_rank_order = refl

-- differing by one: the set with more steps was received at 100, below or above its sender, or sent by its own receiver
pub one_step_better : compare_of (set (cand (clock 1 248 7) 1 7 1)) (set (cand (clock 1 248 7) 2 101 2)) ≡ ABetter
unfolding compare_of same_of fewer_of
one_step_better = refl

pub one_step_topology : compare_of (set (cand (clock 1 248 7) 1 7 1)) (set (cand (clock 1 248 7) 2 99 2)) ≡ ABetterByTopology
unfolding compare_of same_of fewer_of
one_step_topology = refl

pub one_step_error_1 : compare_of (set (cand (clock 1 248 7) 1 7 1)) (set (cand (clock 1 248 7) 2 100 1)) ≡ Error1
unfolding compare_of same_of fewer_of
one_step_error_1 = refl

-- differing by two: better, whatever its receiver and sender are
pub two_steps_better : compare_of (set (cand (clock 1 248 7) 1 7 1)) (set (cand (clock 1 248 7) 3 99 2)) ≡ ABetter
unfolding compare_of same_of fewer_of
two_steps_better = refl

pub two_steps_no_error : compare_of (set (cand (clock 1 248 7) 3 100 1)) (set (cand (clock 1 248 7) 1 7 1)) ≡ BBetter
unfolding compare_of same_of fewer_of
two_steps_no_error = refl

-- equal steps: the sender, then the receiver's port number, whatever the receiver's clock
pub lower_sender : compare_of (set (cand (clock 1 248 7) 1 8 1)) (set (cand (clock 1 248 7) 1 7 2)) ≡ BBetterByTopology
unfolding compare_of same_of even_of
lower_sender = refl

pub lower_receiver : (compare_of (set_of (cand (clock 1 248 7) 1 7 1) 100 2) (set_of (cand (clock 1 248 7) 1 7 1) 100 3) ≡ ABetterByTopology) × (compare_of (set_of (cand (clock 1 248 7) 1 7 1) 100 3) (set_of (cand (clock 1 248 7) 1 7 1) 100 2) ≡ BBetterByTopology)
unfolding compare_of same_of even_of
lower_receiver = (refl, refl)

pub receiver_clock_unread : compare_of (set_of (cand (clock 1 248 7) 1 7 1) 100 1) (set_of (cand (clock 1 248 7) 1 7 1) 200 1) ≡ Error2
unfolding compare_of same_of even_of
receiver_clock_unread = refl

-- DECISIONS, with Ebest on port 3 from grandmaster 7; our clock is 100
abbrev ebest : Candidate
ebest = cand (clock 1 248 7) 1 7 3

abbrev list : Ranked
list = pack (ebest ∷ cand (clock 1 248 7) 1 8 4 ∷ [])

abbrev weak : Grandmaster
weak = clock 128 248 100

-- on Ebest's port
pub s1 : decide_of weak list 3 None ≡ Ok S1
unfolding refuse own_beats nearer_of compare_of same_of fewer_of even_of different_of
s1 = refl

-- better by topology than the port's best: S2 for a port of the list, P2 for another
pub s2 : decide_of weak list 4 (Some (cand (clock 1 248 7) 1 8 4)) ≡ Ok S2
unfolding refuse own_beats nearer_of compare_of same_of fewer_of even_of different_of
s2 = refl

pub p2 : decide_of weak list 5 (Some (cand (clock 1 248 7) 1 9 5)) ≡ Ok P2
unfolding refuse own_beats nearer_of compare_of same_of fewer_of even_of different_of
p2 = refl

-- an absent best is beaten, but not by topology; and an error beats nothing
pub m3_absent : decide_of weak list 5 None ≡ Ok M3
unfolding refuse own_beats nearer_of compare_of same_of fewer_of even_of different_of
m3_absent = refl

pub m3_error : decide_of weak list 1 (Some (cand (clock 1 248 7) 2 100 1)) ≡ Ok M3
unfolding refuse own_beats nearer_of compare_of same_of fewer_of even_of different_of
m3_error = refl

-- no Ebest, or one that we beat
pub m2_none : decide_of weak (pack []) 5 None ≡ Ok M2
unfolding refuse own_beats nearer_of compare_of same_of fewer_of even_of different_of
m2_none = refl

pub m2_beaten : decide_of (clock 0 248 100) list 3 None ≡ Ok M2
unfolding refuse own_beats nearer_of compare_of same_of fewer_of even_of different_of
m2_beaten = refl

-- our class is 1 to 127: M1 or P1. Class 0 and class 128 are not
pub m1 : decide_of (clock 128 127 100) list 3 None ≡ Ok M1
unfolding refuse own_beats nearer_of compare_of same_of fewer_of even_of different_of
m1 = refl

pub p1 : decide_of (clock 128 6 100) list 3 (Some ebest) ≡ Ok P1
unfolding refuse own_beats nearer_of compare_of same_of fewer_of even_of different_of
p1 = refl

pub class_128 : decide_of (clock 128 128 100) list 3 None ≡ Ok S1
unfolding refuse own_beats nearer_of compare_of same_of fewer_of even_of different_of
class_128 = refl

pub class_0 : decide_of (clock 128 0 100) (pack []) 3 None ≡ Ok M2
unfolding refuse own_beats nearer_of compare_of same_of fewer_of even_of different_of
class_0 = refl

-- error-1 between our set and the port's best: it does not beat it
pub p1_error : decide_of (clock 128 6 100) (pack []) 1 (Some (cand (clock 128 6 100) 1 100 1)) ≡ Ok P1
unfolding refuse own_beats nearer_of compare_of same_of fewer_of even_of different_of
p1_error = refl

-- refused: the port first; a list that is not looked at too
pub port_19 : decide_of weak (pack (ebest ∷ ebest ∷ [])) 19 None ≡ Err Port
unfolding refuse
port_19 = refl

pub unranked : decide_of (clock 128 6 100) (pack (ebest ∷ ebest ∷ [])) 3 None ≡ Err Unranked
unfolding refuse
unranked = refl

-- ONE CONSTANT ANSWER is ruled out by the contract itself
module _ (κs : Lfts 0) (r : Result Decision Refusal) (e f : AtExit (ended_of 0 decide-kinds.ps decide-kinds.r) κs) where
  pub not_constant : decide.Post κs (weak, (list, (3, (None, tt)))) r e → decide.Post κs (weak, (list, (5, (None, tt)))) r f → ⊥
  not_constant p q = let d : ◌≡◌ {A = Result Decision Refusal} (Ok S1) (Ok M3) = sym s1 ∙ sym p ∙ q ∙ m3_absent in let z : ◌≡◌ {A = ℕ} 0 1 = cc in omega arith
