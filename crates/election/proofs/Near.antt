-- NO DISTANT CLOCK COMES OUT (02, (iii)): of the candidates that calls hand out from a clock's words, whatever words are lent, none is
-- 255 steps or more from its grandmaster. Ranking, merging and deciding by a list take what they are given.
use Rattle.std.specs.Prelude.{Option, Some, None, Result, Ok, Err}
use Prim.Native.Nat.{ℕ, ◌-◌, ◌<◌}
use mathlib.Core.Path.{◌≡◌, sym, subst, ◌∙◌}
use mathlib.Core.List.{List, [], ◌∷◌, map}
use mathlib.Core.Bool.{true, not, ◌&&◌}
use native.Mathlib.Omega.{arith}
use lib.Dec.{leb}
use borrow.Author.Tests.{leb-false, not-true}
use Rattle.refusal.specs.Choice.{refuse}
use Rattle.refusal.specs.declared.Refusal.{Refusal}
use Rattle.refusal.specs.declared.Refusal.TheVariants as refusal
use Rattle.refusal.proofs.Choice.{passed}
use Rattle.rank.specs.declared.Grandmaster.{Grandmaster}
use Rattle.rank.specs.declared.Candidate.{Candidate}
use Rattle.rank.specs.Order.{earlier_of}
use Rattle.rank.specs.Ranked.{is_port, rank_of, unpack, is_ranked, receiver_of}
use Rattle.rank.specs.Calls.{list_of}
use Rattle.rank.proofs.Best.{All, cases, rank_all}
use Rattle.rank.proofs.Order.{ordered}
use Rattle.rank.proofs.Merging.{AllValid, defined, unpack_pack, all_append, both, valid_sound}
use Rattle.senders.specs.declared.Record.{Record}
use Rattle.senders.specs.Record.{window_of, is_distant, is_qualified, candidate_of}
use Rattle.senders.specs.Port.{Port, slot_of, kept, candidates_of, candidate_in, head_of, best_of}
use Rattle.senders.proofs.Candidates.{candidates_valid}
use Rattle.ports.specs.Words.{port_at}
use Rattle.ports.specs.Asking.{candidate_on, best_on}
use Rattle.ports.proofs.Laws.{asked_found}
use Rattle.election.specs.Elected.{every_port, any_late, heard_on, elected_of}
use Rattle.election.specs.Decisions.{parent_by, parent_of}
use Rattle.election.proofs.Electing.{every_port_lem, best_first, heard_valid}
use Rattle.election.proofs.Promises.{parent_first}

-- "255 or more"
abbrev pub Near : Candidate → Type 0
Near c = c.steps < 255

-- ---- one port
module _ (port w t : ℕ) where
  near_record : (r : Record) → is_qualified w t r ≡ true → Near (candidate_of port r)
  near_record r q =
      let close = (both (leb 2 r.receipts && leb (t - r.older) w) (not (is_distant r.notice)) q).1 in
      leb-false 255 r.notice.steps (not-true _ close)

  near_kept : (l : List Record) → All Near (map (candidate_of port) (kept (is_qualified w t) l))
  unfolding kept
  near_kept [] = tt
  near_kept (r ∷ l) = cases (is_qualified w t r) (λ q. rw q (near_record r q, near_kept l)) (λ q. rw q (near_kept l))

near_candidates : (port : ℕ) (p : Port) (t : ℕ) → All Near (candidates_of port p t)
unfolding candidates_of
near_candidates port p t = near_kept port (window_of p.e) t p.slots

near_in : (port : ℕ) (p : Port) (slot t : ℕ) (c : Candidate) → candidate_in port p slot t ≡ Ok (Some c) → Near c
unfolding candidate_in
near_in port p slot t c e =
    cases (is_qualified (window_of p.e) t (slot_of p slot))
    (λ q.
    let f : ◌≡◌ {A = Result (Option Candidate) Refusal} (Ok (Some (candidate_of port (slot_of p slot)))) (Ok (Some c)) = rw q at e in
    let same : candidate_of port (slot_of p slot) ≡ c = cc in
    subst Near same (near_record port (window_of p.e) t (slot_of p slot) q))
    (λ q.
    let f : ◌≡◌ {A = Result (Option Candidate) Refusal} (Ok None) (Ok (Some c)) = rw q at e in
    absurd (let z : ◌≡◌ {A = ℕ} 0 1 = cc in omega arith))

-- ---- ranked lists
near_rank : (s : List Candidate) → AllValid s → All Near s → All Near (rank_of s)
near_rank s v h = subst (All Near) (defined s v) (rank_all earlier_of receiver_of ordered 4 Near s h)

near_head : (l : List Candidate) (c : Candidate) → All Near l → head_of l ≡ Ok (Some c) → Near c
near_head [] c h e = absurd (let z : ◌≡◌ {A = ℕ} 0 1 = cc in omega arith)
near_head (x ∷ l) c h e =
    let same : x ≡ c = cc in
    subst Near same h.0

-- ---- the calls
not_master : (x : Refusal) (c : Candidate) → ◌≡◌ {A = Result (Option Candidate) Refusal} (Err x) (Ok (Some c)) → ⊥
not_master x c e = let z : ◌≡◌ {A = ℕ} 0 1 = cc in omega arith

-- what comes out of a clock's words at t
pub record NoneDistant (own : Grandmaster) (ws : List ℕ) (t : ℕ) : Type 0 where
  pub candidate : (port slot : ℕ) (c : Candidate) → candidate_on ws port slot t ≡ Ok (Some c) → Near c
  pub best : (port : ℕ) (c : Candidate) → best_on ws port t ≡ Ok (Some c) → Near c
  pub listed : All Near (unpack (list_of (elected_of ws t every_port)))
  pub parent : (c : Candidate) → parent_of own (list_of (elected_of ws t every_port)) ≡ Ok (Some c) → Near c

module _ (own : Grandmaster) (ws : List ℕ) (t : ℕ) where
  near_heard : (ps : List ℕ) → All Near (heard_on ws t ps)
  unfolding heard_on
  near_heard [] = tt
  near_heard (p ∷ ps) = all_append Near (candidates_of p (port_at ws p) t) (heard_on ws t ps) (near_candidates p (port_at ws p) t) (near_heard ps)

  near_best : (port : ℕ) (c : Candidate) → is_port port ≡ true → best_of port (port_at ws port) t ≡ Ok (Some c) → Near c
  near_best port c h e =
      let p = port_at ws port in
      let s = candidates_of port p t in
      near_head (rank_of s) c (near_rank s (valid_sound s (candidates_valid port p t h)) (near_candidates port p t)) (sym (best_first port p t h) ∙ e)

  near_listed : All Near (unpack (list_of (elected_of ws t every_port)))
  unfolding elected_of refuse
  near_listed =
      let l = rank_of (heard_on ws t every_port) in
      cases (any_late ws t every_port)
      (λ e. rw e tt)
      (λ e. rw (e, unpack_pack l) (near_rank (heard_on ws t every_port) (heard_valid ws t every_port every_port_lem) (near_heard every_port)))

  near_parent : (c : Candidate) → parent_of own (list_of (elected_of ws t every_port)) ≡ Ok (Some c) → Near c
  near_parent c e =
      let list = list_of (elected_of ws t every_port) in
      let f = (passed (Err refusal.Unranked) (parent_by own (unpack list)) (Ok (Some c)) (not (is_ranked list)) (not_master refusal.Unranked c) e).1 in
      (subst (All Near) (parent_first own (unpack list) c f) near_listed).0

  -- THEY ARE ALL NEAR
  pub none_distant : NoneDistant own ws t
  none_distant =
      record {
        candidate = λ port slot c e. near_in port (port_at ws port) slot t c (asked_found ws port t (candidate_in port (port_at ws port) slot t) c e).1;
        best = λ port c e. let a = asked_found ws port t (best_of port (port_at ws port) t) c e in near_best port c a.0 a.1;
        listed = near_listed;
        parent = near_parent;
      }
