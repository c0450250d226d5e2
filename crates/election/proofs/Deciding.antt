-- Deciding every port by the ranked list of all of them: nothing is refused here, the calls of a single port give the
-- decisions that are defined, and so do the places of the candidates.
use Rattle.std.specs.Prelude.{Option, Some, None, Result, Ok, Err}
use Prim.Native.Nat.{ℕ, suc, ◌<◌}
use mathlib.Core.Path.{◌≡◌, refl, sym, ap, ap₂, subst, ◌∙◌}
use mathlib.Core.List.{List, [], ◌∷◌, map}
use mathlib.Core.Bool.{Bool, true, false, ◌&&◌}
use lib.Dec.{ltb, leb}
use lib.ListN.{get_or}
use borrow.Author.Tests.{le-leb, eq-eqb}
use Rattle.laws.proofs.Bools.{neither}
use Rattle.refusal.specs.Choice.{pick, refuse}
use Rattle.refusal.specs.declared.Refusal.TheVariants.{Backward}
use Rattle.rank.specs.declared.Grandmaster.{Grandmaster}
use Rattle.rank.specs.declared.Candidate.{Candidate}
use Rattle.rank.specs.declared.Ranked.{Ranked}
use Rattle.rank.specs.Ranked.{is_port, pack, unpack, holds_of, is_ranked}
use Rattle.rank.proofs.Best.{All, cases}
use Rattle.rank.proofs.Merging.{AllValid, unpack_pack, ranked_valid, ranked_passes}
use Rattle.senders.specs.Port.{tab, best_of}
use Rattle.slots.proofs.Laws.{tab_ext, get_d_tab}
use Rattle.slots.proofs.Cases.{Words64}
use Rattle.ports.specs.Words.{port_at}
use Rattle.ports.specs.Asking.{best_on}
use Rattle.ports.specs.Places.{place_on, candidate_at, found_at}
use Rattle.ports.proofs.Placing.{best_at}
use Rattle.decide.specs.Deciding.{own_beats, beats_erbest, decision_of, decide_of}
use Rattle.decide.specs.declared.Lead.{Lead}
use Rattle.decide.specs.declared.Lead.TheVariants.{Class, Ours, Ebest}
use Rattle.decide.specs.Leading.{lead_of, led_of}
use Rattle.decide.proofs.ByLead.{led_is}
use Rattle.election.specs.Elected.{every_port, any_late, heard_on, elected_of}
use Rattle.election.specs.Decisions.{code_of, erbest_of, list_at, decision_at, octets_at, out_after, leads, parent_by, parent_of, followed_by, chosen_by}
use Rattle.election.specs.Places.{gather, places_at, listed_in, octet_by}
use Rattle.election.proofs.Electing.{all_tab, every_port_lem, heard_valid}
use Rattle.election.proofs.Gathering.{listed_holds, gathered}
use Rattle.decide.specs.declared.Decision.{Decision}
use Rattle.refusal.specs.declared.Refusal.{Refusal}

-- a port of the clock and a ranked list: decided
pub decides : (own : Grandmaster) (list : Ranked) (port : ℕ) (best : Option Candidate) → is_port port ≡ true → is_ranked list ≡ true
    → decide_of own list port best ≡ Ok (decision_of own (unpack list) port best)
unfolding refuse
decides own list port best h k = rw (h, k)

-- where no port is late, none of them is
pub none_late : (ws : List ℕ) (t : ℕ) (ps : List ℕ) → any_late ws t ps ≡ false → All (λ p. ltb t (port_at ws p).last ≡ false) ps
unfolding any_late
none_late ws t [] h = tt
none_late ws t (p ∷ ps) h =
    let b = neither (ltb t (port_at ws p).last) (any_late ws t ps) h in (b.0, none_late ws t ps b.1)

module _ (own : Grandmaster) (ws : List ℕ) (t : ℕ) where
  -- THE LIST IS A RANKED LIST
  pub list_ranked : is_ranked (pack (list_at ws t)) ≡ true
  list_ranked = ranked_passes (heard_on ws t every_port) (heard_valid ws t every_port every_port_lem)

  module _ (none : any_late ws t every_port ≡ false) where
    -- DECIDING REFUSES NOTHING HERE: each port is decided, and by its best
    pub decided : (i : ℕ) → i < 18
        → decide_of own (pack (list_at ws t)) (suc i) (erbest_of (best_on ws (suc i) t)) ≡ Ok (decision_at own ws t (suc i))
    unfolding decision_at refuse
    decided i h =
        let p = all_tab (λ p. is_port p ≡ true) 18 suc every_port_lem i h in
        let l = all_tab (λ p. ltb t (port_at ws p).last ≡ false) 18 suc (none_late ws t every_port none) i h in
        let b : best_on ws (suc i) t ≡ best_of (suc i) (port_at ws (suc i)) t = rw (p, l) in
        decides own (pack (list_at ws t)) (suc i) (erbest_of (best_on ws (suc i) t)) p list_ranked
        ∙ rw (b, unpack_pack (list_at ws t))

-- what every port's place, the places of the list and the lead decide
module _ (own : Grandmaster) (ws : List ℕ) (t : ℕ) (words : Words64 ws) where
  abbrev top : List ℕ
  top = gather ws t [] every_port

  octet_is : (lead : Lead) → lead ≡ lead_of own (list_at ws t) → (i : ℕ) → i < 18
      → octet_by ws own lead top (suc i) (get_or (places_at ws t) i 0) ≡ code_of (decision_at own ws t (suc i))
  unfolding decision_at
  octet_is lead e i h =
      let p = all_tab (λ p. is_port p ≡ true) 18 suc every_port_lem i h in
      let a = get_d_tab 18 (λ k. place_on ws (suc k) t) i 0 h in
      let l : listed_in (suc i) top ≡ holds_of (suc i) (list_at ws t) = listed_holds ws (suc i) top ∙ ap (holds_of (suc i)) (gathered ws t words) in
      let f = ap (found_at ws) a ∙ best_at (suc i) p ws t words in
      ap code_of
      (ap (λ (b : Result (Option Candidate) Refusal). led_of own lead (listed_in (suc i) top) (suc i) (erbest_of b)) f
      ∙ ap (λ (b : Bool). led_of own lead b (suc i) (erbest_of (best_of (suc i) (port_at ws (suc i)) t))) l
      ∙ ap (λ (x : Lead). led_of own x (holds_of (suc i) (list_at ws t)) (suc i) (erbest_of (best_of (suc i) (port_at ws (suc i)) t))) e
      ∙ led_is own (list_at ws t) (suc i) (erbest_of (best_of (suc i) (port_at ws (suc i)) t)))

  octets : (lead : Lead) → lead ≡ lead_of own (list_at ws t)
      → tab 18 (λ i. octet_by ws own lead top (suc i) (get_or (places_at ws t) i 0)) ≡ octets_at own ws t
  octets lead e = tab_ext 18 _ _ (octet_is lead e)

  -- EVERY PORT'S NUMBER
  pub octets_are : (lead : Lead) (l places new : List ℕ) → lead ≡ lead_of own (list_at ws t) → l ≡ top → places ≡ places_at ws t
      → new ≡ tab 18 (λ i. octet_by ws own lead l (suc i) (get_or places i 0)) → new ≡ octets_at own ws t
  octets_are lead l places new e f g h =
      h
      ∙ ap₂ (λ (x y : List ℕ). tab 18 (λ i. octet_by ws own lead x (suc i) (get_or y i 0))) f g
      ∙ octets lead e

-- the ranked list that is made of the places
module _ (ws : List ℕ) (t : ℕ) (words : Words64 ws) (list : Ranked) (e : list ≡ pack (map (candidate_at ws) (gather ws t [] every_port))) where
  pub listed_is : list ≡ pack (list_at ws t)
  listed_is = e ∙ ap pack (gathered ws t words)

  pub list_of_all : unpack list ≡ list_at ws t
  list_of_all = ap unpack listed_is ∙ unpack_pack (list_at ws t)

module _ (ws : List ℕ) (t : ℕ) (late : Bool) (e : late ≡ any_late ws t every_port) where
  pub elected_late : late ≡ true → Err Backward ≡ elected_of ws t every_port
  unfolding elected_of refuse
  elected_late h = rw (sym e ∙ h)

  pub elected_done : late ≡ false → (list : Ranked) → list ≡ pack (list_at ws t) → Ok list ≡ elected_of ws t every_port
  unfolding elected_of refuse
  elected_done h list f = rw (sym e ∙ h) (ap (λ (r : Ranked). Ok r) f)

  pub out_left : late ≡ true → (own : Grandmaster) (out : List ℕ) → out ≡ out_after own ws t out
  out_left h own out = rw (sym e ∙ h)

  pub out_written : late ≡ false → (own : Grandmaster) (out new : List ℕ) → new ≡ octets_at own ws t → new ≡ out_after own ws t out
  out_written h own out new f = rw (sym e ∙ h) f

-- ---- the parent
-- the decision of Ebest's port, whatever the best of that port
pub follows : (own : Grandmaster) (e : Candidate) (l : List Candidate) (best : Option Candidate)
    → followed_by (decision_of own (e ∷ l) e.port best) e ≡ pick (leads own e) (Ok None) (Ok (Some e))
unfolding leads
follows own e l best =
    cases (leb 1 own.class && leb own.class 127)
    (λ h. cases (beats_erbest own e.port best) (λ k. rw (h, k)) (λ k. rw (h, k)))
    (λ h.
    cases (own_beats own e e.port)
    (λ k. rw (h, k))
    (λ k. rw (h, k, eq-eqb e.port e.port refl)))

-- what `parent` makes of what deciding answers for Ebest's port
pub chosen_parent : (own : Grandmaster) (list : Ranked) (e : Candidate) (l : List Candidate) → is_ranked list ≡ true → unpack list ≡ e ∷ l
    → chosen_by (decide_of own list e.port None) e ≡ parent_of own list
unfolding refuse
chosen_parent own list e l h f =
    let v = subst AllValid f (ranked_valid list h) in
    let p : is_port e.port ≡ true = simp (le-leb 1 e.port v.0.0, le-leb e.port 18 v.0.1) in
    ap (λ (a : Result Decision Refusal). chosen_by a e) (decides own list e.port None p h)
    ∙ ap (λ (m : List Candidate). followed_by (decision_of own m e.port None) e) f
    ∙ follows own e l None
    ∙ sym (rw (h, f))

-- and by the lead
abbrev pub parent_led : Lead → Result (Option Candidate) Refusal
parent_led Class = Ok None
parent_led Ours = Ok None
parent_led (Ebest e) = Ok (Some e)

pub led_parent : (own : Grandmaster) (l : List Candidate) → parent_led (lead_of own l) ≡ parent_by own l
unfolding leads
led_parent own [] = cases (leb 1 own.class && leb own.class 127) (λ h. rw h) (λ h. rw h)
led_parent own (e ∷ l) =
    cases (leb 1 own.class && leb own.class 127)
    (λ h. rw h)
    (λ h. cases (own_beats own e e.port) (λ k. rw (h, k)) (λ k. rw (h, k)))
