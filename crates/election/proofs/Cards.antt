-- However the ports are spread over cards, and the cards' lists merged: the list at the top is the same, and with it
-- every decision.
use Rattle.std.specs.Prelude.{Result, Ok}
use Prim.Native.Nat.{ℕ, suc, ◌*◌, ◌≤◌, ◌<◌}
use mathlib.Core.Path.{◌≡◌, refl, sym, ap, ap₂, subst, ◌∙◌}
use mathlib.Core.List.Memᴰ
use mathlib.Core.List.{List, [], ◌∷◌, ◌++◌, append_assoc, Memᴰ}
use mathlib.Core.Bool.{true, false}
use native.Mathlib.Omega.{arith}
use lib.ListN.{length, length-append}
use Rattle.refusal.specs.Choice.{refuse}
use Rattle.refusal.specs.declared.Refusal.{Refusal}
use Rattle.rank.specs.declared.Grandmaster.{Grandmaster}
use Rattle.rank.specs.declared.Candidate.{Candidate}
use Rattle.rank.specs.declared.Ranked.{Ranked}
use Rattle.rank.specs.Ranked.{is_port, rank_of}
use Rattle.rank.specs.Calls.{done_of, merge_of, list_of}
use Rattle.rank.proofs.Best.{either}
use Rattle.rank.proofs.Laws.{Same, any_order, ranked, merge_of_ranks}
use Rattle.senders.specs.Port.{candidates_of}
use Rattle.senders.proofs.Candidates.{at_most_sixteen}
use Rattle.slots.specs.Words.{slot_at}
use Rattle.slots.proofs.Laws.{length_tab}
use Rattle.ports.specs.Words.{own, port_at}
use Rattle.ports.specs.Asking.{best_on}
use Rattle.decide.specs.Deciding.{decide_of}
use Rattle.election.specs.Elected.{every_port, any_late, heard_on, elected_of}
use Rattle.election.specs.Decisions.{erbest_of, list_at, decision_at}
use Rattle.election.specs.Cards.{Cards, card, join, ports_of, gathered_of, FewPorts, Covers}
use Rattle.election.proofs.Electing.{Ports, every_port_lem, heard_passes, heard_valid}
use Rattle.election.proofs.Deciding.{decided}

-- ports in a list of ports of the clock
ports_in_lem : (ps : List ℕ) (p : ℕ) → Ports ps → Memᴰ p ps → is_port p ≡ true
ports_in_lem [] p h m = absurd (Memᴰ.not-nil m)
ports_in_lem (x ∷ ps) p h (Memᴰ.head e) = ap is_port e ∙ h.0
ports_in_lem (x ∷ ps) p h (Memᴰ.tail m) = ports_in_lem ps p h.1 m

ports_by : (ps : List ℕ) → ((p : ℕ) → Memᴰ p ps → is_port p ≡ true) → Ports ps
ports_by [] h = tt
ports_by (x ∷ ps) h = (h x (Memᴰ.head refl), ports_by ps (λ p m. h p (Memᴰ.tail m)))

ports_left : (ps qs : List ℕ) → Ports (ps ++ qs) → Ports ps
ports_left ps qs h = ports_by ps (λ p m. ports_in_lem (ps ++ qs) p h (Memᴰ.append_left qs m))

ports_right : (ps qs : List ℕ) → Ports (ps ++ qs) → Ports qs
ports_right ps qs h = ports_by qs (λ p m. ports_in_lem (ps ++ qs) p h (Memᴰ.append_right ps m))

module _ (ws : List ℕ) (t : ℕ) where
  abbrev candidates : ℕ → List Candidate
  candidates p = candidates_of p (port_at ws p) t

  heard_append : (ps qs : List ℕ) → heard_on ws t (ps ++ qs) ≡ heard_on ws t ps ++ heard_on ws t qs
  unfolding heard_on
  heard_append [] qs = refl
  heard_append (p ∷ ps) qs =
      ap (λ (l : List Candidate). candidates p ++ l) (heard_append ps qs) ∙ sym (append_assoc (candidates p) (heard_on ws t ps) (heard_on ws t qs))

  -- sixteen a port at most
  heard_few : (ps : List ℕ) → length (heard_on ws t ps) ≤ 16 * length ps
  unfolding heard_on
  heard_few [] = omega arith
  heard_few (p ∷ ps) =
      let few = at_most_sixteen p (port_at ws p) t (length_tab 16 (slot_at (own ws p))) in
      let rest = heard_few ps in
      let n = length-append (candidates p) (heard_on ws t ps) in
      omega arith

  -- which ports there are decides what is heard
  heard_in_lem : (ps : List ℕ) (p : ℕ) (c : Candidate) → Memᴰ p ps → Memᴰ c (candidates p) → Memᴰ c (heard_on ws t ps)
  unfolding heard_on
  heard_in_lem [] p c m k = absurd (Memᴰ.not-nil m)
  heard_in_lem (x ∷ ps) p c (Memᴰ.head e) k =
      Memᴰ.append_left (heard_on ws t ps) (subst (λ (q : ℕ). Memᴰ c (candidates q)) e k)
  heard_in_lem (x ∷ ps) p c (Memᴰ.tail m) k = Memᴰ.append_right (candidates x) (heard_in_lem ps p c m k)

  heard_within : (ps qs : List ℕ) → ((p : ℕ) → Memᴰ p ps → Memᴰ p qs) → (c : Candidate)
      → Memᴰ c (heard_on ws t ps) → Memᴰ c (heard_on ws t qs)
  unfolding heard_on
  heard_within [] qs h c m = absurd (Memᴰ.not-nil m)
  heard_within (p ∷ ps) qs h c m =
      either (Memᴰ.append_cases (candidates p) m)
      (λ k. heard_in_lem qs p c (h p (Memᴰ.head refl)) k)
      (λ k. heard_within ps qs (λ q n. h q (Memᴰ.tail n)) c k)

  -- a tree of cards gives the ranked list of all that their ports hear
  gathers : (c : Cards) → FewPorts c → Ports (ports_of c) → gathered_of ws t c ≡ done_of (rank_of (heard_on ws t (ports_of c)))
  gathers (card ps) s h = ranked (heard_on ws t ps) (heard_passes ws t ps h) (omega (arith, heard_few ps))
  gathers (join l r) s h =
      let hl = ports_left (ports_of l) (ports_of r) h in
      let hr = ports_right (ports_of l) (ports_of r) h in
      ap₂ (λ (x y : Result Ranked Refusal). merge_of (list_of x) (list_of y)) (gathers l s.0 hl) (gathers r s.1 hr)
      ∙ merge_of_ranks (heard_on ws t (ports_of l)) (heard_on ws t (ports_of r)) (heard_valid ws t (ports_of l) hl) (heard_valid ws t (ports_of r) hr)
      ∙ ap (λ (k : List Candidate). done_of (rank_of k)) (sym (heard_append (ports_of l) (ports_of r)))

  module _ (c : Cards) (covers : Covers c) (none : any_late ws t every_port ≡ false) where
    -- WHATEVER THE CARDS AND THE TREE, the list is that of one card with all ports
    pub any_cards : gathered_of ws t c ≡ elected_of ws t every_port
    unfolding elected_of refuse
    any_cards =
        let h = ports_by (ports_of c) (λ p m. ports_in_lem every_port p every_port_lem (covers.only p m)) in
        let same : Same (heard_on ws t (ports_of c)) (heard_on ws t every_port) =
        record { forth = heard_within (ports_of c) every_port covers.only; back = heard_within every_port (ports_of c) covers.every } in
        gathers c covers.small h
        ∙ ap done_of (any_order (heard_on ws t (ports_of c)) (heard_on ws t every_port) same)
        ∙ sym (rw none)

    -- AND SO IS EVERY DECISION
    pub any_cards_decide : (own : Grandmaster) (i : ℕ) → i < 18
        → decide_of own (list_of (gathered_of ws t c)) (suc i) (erbest_of (best_on ws (suc i) t)) ≡ Ok (decision_at own ws t (suc i))
    unfolding elected_of refuse
    any_cards_decide own i h =
        let e : gathered_of ws t c ≡ done_of (list_at ws t) = any_cards ∙ rw none in
        ap (λ (r : Result Ranked Refusal). decide_of own (list_of r) (suc i) (erbest_of (best_on ws (suc i) t))) e
        ∙ decided own ws t none i h
