-- What the decisions of the ports come to.
use Rattle.std.specs.Prelude.{Option, Some, Result, Ok, Err}
use Prim.Native.Nat.{ℕ}
use mathlib.Core.Path.{◌≡◌, refl, sym, ap, ◌∙◌, subst}
use mathlib.Core.List.{List, [], ◌∷◌}
use mathlib.Core.Bool.{Bool, true, false, not, ◌&&◌}
use native.Mathlib.Omega.{arith}
use lib.Dec.{leb, eqb}
use borrow.Author.Tests.{eq-eqb, eqb-true}
use Rattle.refusal.specs.Choice.{pick, refuse}
use Rattle.refusal.specs.declared.Refusal.TheVariants.{Port, Unranked}
use Rattle.rank.specs.declared.Grandmaster.{Grandmaster}
use Rattle.rank.specs.declared.Candidate.{Candidate}
use Rattle.rank.specs.declared.Ranked.{Ranked}
use Rattle.rank.specs.Ranked.{is_port, unpack, holds_of, stands_of, in_rank, is_ranked}
use Rattle.rank.proofs.Best.{cases}
use Rattle.rank.proofs.Merging.{both}
use Rattle.decide.specs.declared.Decision.{Decision}
use Rattle.decide.specs.declared.Decision.TheVariants.{M1, M3, P1, P2, S1, S2}
use Rattle.decide.specs.Deciding.{own_beats, beats_erbest, nearer_of, by_list_of, decision_of, decide_of}
use Rattle.refusal.specs.declared.Refusal.{Refusal}

-- "port outside 1 to 18", whatever the list
pub port_first : (own : Grandmaster) (list : Ranked) (port : ℕ) (best : Option Candidate) → is_port port ≡ false
    → decide_of own list port best ≡ Err Port
unfolding refuse
port_first own list port best h = rw h

-- "not a ranked list", also where our class is 1 to 127 and the list is not looked at
pub list_next : (own : Grandmaster) (list : Ranked) (port : ℕ) (best : Option Candidate) → is_port port ≡ true → is_ranked list ≡ false
    → decide_of own list port best ≡ Err Unranked
unfolding refuse
list_next own list port best h k = rw (h, k)

decides : (own : Grandmaster) (list : Ranked) (port : ℕ) (best : Option Candidate) → is_port port ≡ true → is_ranked list ≡ true
    → decide_of own list port best ≡ Ok (decision_of own (unpack list) port best)
unfolding refuse
decides own list port best h k = rw (h, k)

-- "its receiver port isn't read": a best that differs in its port alone gets the same decision
abbrev moved : Candidate → ℕ → Candidate
moved c q = record { grandmaster = c.grandmaster; steps = c.steps; sender = c.sender; port = q; wrflags = c.wrflags }

list_unread : (own : Grandmaster) (l : List Candidate) (port : ℕ) (c : Candidate) (q : ℕ)
    → by_list_of own l port (Some c) ≡ by_list_of own l port (Some (moved c q))
unfolding nearer_of
list_unread own [] port c q = refl
list_unread own (e ∷ l) port c q = refl

pub best_port_unread : (own : Grandmaster) (list : Ranked) (port : ℕ) (c : Candidate) (q : ℕ)
    → decide_of own list port (Some c) ≡ decide_of own list port (Some (moved c q))
unfolding own_beats
best_port_unread own list port c q =
    ap
    (λ (d : Decision).
    refuse (not (is_port port)) (Err Port)
    (refuse (not (is_ranked list)) (Err Unranked)
    (Ok (pick (leb 1 own.class && leb own.class 127) (pick (beats_erbest own port (Some c)) M1 P1) d))))
    (list_unread own (unpack list) port c q)

not_s1 : (n h : Bool) → pick n (pick h S2 P2) M3 ≡ S1 → ⊥
not_s1 true true e = let z : ◌≡◌ {A = ℕ} 0 1 = cc in omega arith
not_s1 true false e = let z : ◌≡◌ {A = ℕ} 0 1 = cc in omega arith
not_s1 false h e = let z : ◌≡◌ {A = ℕ} 0 1 = cc in omega arith

-- S1 ON EXACTLY ONE PORT, Ebest's, where there is an Ebest that our set does not beat
module _ (own : Grandmaster) (list : Ranked) (e : Candidate) (l : List Candidate) (ranked : is_ranked list ≡ true)
    (ebest : unpack list ≡ e ∷ l) (class : (leb 1 own.class && leb own.class 127) ≡ false)
    (unbeaten : own_beats own e e.port ≡ false) where
  its_port : is_port e.port ≡ true
  its_port =
      let r : in_rank (e ∷ l) ≡ true = subst (λ (m : List Candidate). in_rank m ≡ true) ebest (both (leb list.len 4) (in_rank (unpack list)) ranked).1 in
      (both (is_port e.port) _ (both (stands_of (e ∷ l)) (in_rank l) r).0).0

  pub s1_on_ebest : (best : Option Candidate) → decide_of own list e.port best ≡ Ok S1
  s1_on_ebest best =
      decides own list e.port best its_port ranked
      ∙ rw (ebest, class, unbeaten, eq-eqb e.port e.port refl)

  pub s1_nowhere_else : (port : ℕ) (best : Option Candidate) → decide_of own list port best ≡ Ok S1 → port ≡ e.port
  s1_nowhere_else port best h =
      cases (is_port port)
      (λ p.
      let d : ◌≡◌ {A = Result Decision Refusal} (Ok (decision_of own (unpack list) port best)) (Ok S1) = sym (decides own list port best p ranked) ∙ h in
      let s : decision_of own (unpack list) port best ≡ S1 = cc in
      let o : pick (eqb e.port port) S1 (pick (nearer_of e own.identity port best) (pick (holds_of port (e ∷ l)) S2 P2) M3) ≡ S1 =
      rw (ebest, class, unbeaten) at s in
      cases (eqb e.port port)
      (λ k. sym (eqb-true e.port port k))
      (λ k. absurd (not_s1 (nearer_of e own.identity port best) (holds_of port l) (rw k at o))))
      (λ p. let d : ◌≡◌ {A = Result Decision Refusal} (Err Port) (Ok S1) = sym (port_first own list port best p) ∙ h in let z : ◌≡◌ {A = ℕ} 0 1 = cc in absurd (omega arith))
