-- Worked inputs, computed: 01's own, and one for each wrong program that no edit of the same shape can show.
use Rattle.std.specs.Prelude.{Result, Err}
use Prim.Native.Nat.{ℕ, zero, suc}
use mathlib.Core.Path.{◌≡◌, refl, sym, ap, ◌∙◌}
use mathlib.Core.List.{List, [], ◌∷◌, map}
use mathlib.Core.Bool.{true, false}
use native.Mathlib.Omega.{arith}
use contract.Lifetimes.{Lfts}
use borrow.Fn.Kinds.{ended_of}
use denote.Triple.Clauses.{AtExit}
use Rattle.refusal.specs.Choice.{refuse}
use Rattle.refusal.specs.declared.Refusal.{Refusal}
use Rattle.refusal.specs.declared.Refusal.TheVariants.{Many, Port, Unranked}
use Rattle.rank.specs.declared.Candidate.{Candidate}
use Rattle.rank.specs.declared.Ranked.{Ranked}
use Rattle.rank.specs.Order.{keys_of, earlier_of}
use Rattle.rank.specs.Ranked.{rank_of, receiver_of, pack, is_ranked}
use Rattle.rank.specs.Calls.{done_of, ranking_of, merge_of, list_of}
use Rattle.rank.proofs.merge.Reads as merge
use Rattle.rank.proofs.merge.Kinds as merge-kinds

-- by priority1, grandmaster, steps, the sender's port, and the port
abbrev cand : ℕ → ℕ → ℕ → ℕ → ℕ → Candidate
cand p gm steps sender port =
    record {
      grandmaster = record { priority1 = p; class = 248; accuracy = 254; variance = 65535; priority2 = 128; identity = gm };
      steps = steps;
      sender = record { clock = gm; port = sender };
      port = port;
      wrflags = 0;
    }

-- the ten keys in 01's order, all different; the sender is two numbers
pub keys_in_order :
    keys_of
    (record {
      grandmaster = record { priority1 = 1; class = 2; accuracy = 3; variance = 4; priority2 = 5; identity = 6 };
      steps = 7;
      sender = record { clock = 8; port = 9 };
      port = 10;
      wrflags = 11;
    })
    ≡ 1 ∷ 2 ∷ 3 ∷ 4 ∷ 5 ∷ 6 ∷ 7 ∷ 8 ∷ 9 ∷ 10 ∷ 11 ∷ []
keys_in_order = refl

-- "Rank order is A, C, B."
pub a_c_b : rank_of (cand 1 7 5 1 1 ∷ cand 9 7 1 1 2 ∷ cand 5 8 0 1 3 ∷ []) ≡ cand 1 7 5 1 1 ∷ cand 5 8 0 1 3 ∷ cand 9 7 1 1 2 ∷ []
a_c_b = refl

-- "Cutting to four before keeping one per port": four of port 1 leave room for the others
pub one_per_port : map receiver_of (rank_of (cand 1 1 0 1 1 ∷ cand 2 1 0 1 1 ∷ cand 3 1 0 1 1 ∷ cand 4 1 0 1 1 ∷ cand 5 1 0 1 18 ∷ cand 6 1 0 1 2 ∷ [])) ≡ 1 ∷ 18 ∷ 2 ∷ []
one_per_port = refl

-- cut after four: the fifth port is left out
pub four_kept : map receiver_of (rank_of (cand 5 1 0 1 5 ∷ cand 4 1 0 1 4 ∷ cand 3 1 0 1 3 ∷ cand 2 1 0 1 2 ∷ cand 1 1 0 1 1 ∷ [])) ≡ 1 ∷ 2 ∷ 3 ∷ 4 ∷ []
four_kept = refl

-- a sender's port is a number and no row of octets in the machine's order: 1 comes before 256
pub port_1_before_256 : earlier_of (cand 1 1 0 1 2) (cand 1 1 0 256 1) ≡ true
port_1_before_256 = refl

-- one candidate, n times
abbrev times : ℕ → List Candidate
times zero = []
times (suc n) = cand 1 1 0 1 1 ∷ times n

-- repeats count: 288 are ranked, 289 are too many, and 17 is looked at before 8
pub run_288 : ranking_of (times 288) ≡ done_of (cand 1 1 0 1 1 ∷ [])
unfolding refuse
run_288 = refl

pub run_289 : ranking_of (cand 1 1 0 1 0 ∷ times 288) ≡ Err Many
unfolding refuse
run_289 = refl

-- a port outside 1 to 18, though better ones would push it out
pub port_19 : ranking_of (cand 1 1 0 1 1 ∷ cand 9 1 0 1 19 ∷ []) ≡ Err Port
unfolding refuse
port_19 = refl

-- no ranked lists: out of order, one port twice, a port outside 1 to 18
pub falling : is_ranked (pack (cand 2 1 0 1 1 ∷ cand 1 1 0 1 2 ∷ [])) ≡ false
falling = refl

pub port_twice : is_ranked (pack (cand 1 1 0 1 1 ∷ cand 2 1 0 1 1 ∷ [])) ≡ false
port_twice = refl

pub port_0 : is_ranked (pack (cand 1 1 0 1 0 ∷ [])) ≡ false
port_0 = refl

pub unranked : merge_of (pack (cand 2 1 0 1 1 ∷ cand 1 1 0 1 2 ∷ [])) (pack []) ≡ Err Unranked
unfolding refuse
unranked = refl

-- A MERGE THAT DOES NOTHING, and one that gives one constant answer, are ruled out by the contract itself
abbrev one : ℕ → Ranked
one p = pack (cand p 1 0 1 p ∷ [])

module _ (κs : Lfts 0) (r : Result Ranked Refusal) (e f : AtExit (ended_of 0 merge-kinds.ps merge-kinds.r) κs) where
  -- handing back the first list, whatever the second
  pub not_the_first : merge.Post κs (one 1, (one 2, tt)) r e → list_of r ≡ one 1 → ⊥
  unfolding refuse
  not_the_first p q =
      let z : ◌≡◌ {A = ℕ} 2 1 = ap (λ (m : Result Ranked Refusal). (list_of m).len) (sym p) ∙ ap (λ (l : Ranked). l.len) q in
      omega arith

  pub not_constant : merge.Post κs (one 1, (one 2, tt)) r e → merge.Post κs (one 1, (one 1, tt)) r f → ⊥
  unfolding refuse
  not_constant p q =
      let z : ◌≡◌ {A = ℕ} 2 1 = ap (λ (m : Result Ranked Refusal). (list_of m).len) (sym p ∙ q) in
      omega arith
