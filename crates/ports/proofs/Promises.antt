-- What the customer is promised over any history of calls on any ports: nobody is pushed out, the words mean the port that the
-- rules give, and no sender has two records.
use Rattle.std.specs.Prelude.{Result, Ok, Err}
use mathlib.Core.Path.{◌≡◌, refl, sym, ap, subst, ◌∙◌}
use mathlib.Core.Bool.{Bool, true, false, not, ◌&&◌}
use mathlib.Core.List.{List, [], ◌∷◌}
use Prim.Native.Nat.{ℕ, zero, suc, ◌+◌, ◌-◌, ◌*◌, ◌≤◌, ◌<◌}
use native.Mathlib.Omega.{arith}
use lib.Dec.{eqb}
use lib.ListN.{length, get_or, take, drop, set}
use lib.Seq.{drop-set-lt, get_or-drop}
use borrow.Author.Tests.{le-ltb}
use Rattle.laws.proofs.Bools.{clash}
use Rattle.octets.proofs.Laws.{Octets}
use Rattle.refusal.specs.Choice.{pick, refuse}
use Rattle.refusal.specs.declared.Refusal.TheVariants.{Full}
use Rattle.rank.specs.Ranked.{is_port, all_valid}
use Rattle.identity.specs.declared.PortIdentity.{PortIdentity}
use Rattle.senders.specs.declared.Notice as kept
use Rattle.senders.specs.Record.{window_of, is_of, is_live}
use Rattle.senders.specs.Port.{slot_of, tab, port_after, plan_of, candidate_in, candidates_of, gather, New, Live, AllLive, Single}
use Rattle.senders.proofs.Intake.{single_kept}
use Rattle.senders.proofs.Intake as intake
use Rattle.senders.proofs.Candidates.{slots_give}
use Rattle.senders.proofs.Candidates as candidates
use Rattle.slots.specs.Words.{record_of, slot_at, port_of, words_after}
use Rattle.slots.proofs.Laws.{length_tab, tab_ext}
use Rattle.slots.proofs.Cases.{slot_is}
use Rattle.slots.proofs.Meaning.{Fitting, means, keeps_slot, exponent_means}
use Rattle.ports.specs.declared.intake.Settings.{Settings}
use Rattle.ports.specs.Words.{own, port_at}
use Rattle.ports.specs.Intake.{admitted_of, plan_by, plan_at, state_after}
use Rattle.ports.specs.Interval.{is_interval, exponent_of}
use Rattle.ports.specs.Asking.{candidate_on}
use Rattle.ports.specs.History.{Call, taking, setting, asking, port_of_call, after, run, own_after, fresh, Spares, LivesThrough, OctetCall, OctetCalls}
use Rattle.ports.proofs.Follows.{own_length, after_all, own_after_lem, by_own}
use Rattle.ports.proofs.Fits.{notice_fits}
use Rattle.senders.specs.declared.Notice.{Notice}
use Rattle.refusal.specs.declared.Refusal.{Refusal}

-- ---- nobody is pushed out
module _ (l : List ℕ) (n : length l ≡ 98) (i : ℕ) (h : i < 16) where
  take_keeps : (t : ℕ) (x : Result Notice Refusal)
      → ((a : kept.Notice) → x ≡ Ok a → (is_of a.sender (slot_of (port_of l) i) ≡ false) × Live (port_of l) t i)
      → slot_at (words_after l t (plan_by (port_of l) t x)) i ≡ slot_at l i
  take_keeps t (Err x) spares = refl
  take_keeps t (Ok a) spares =
      let s = spares a refl in
      keeps_slot l t a n i h s.0 s.1

  set_keeps : (e : ℕ) (b : Bool) → slot_at (pick b (set l 1 e) l) i ≡ slot_at l i
  set_keeps e true = ap (λ (m : List ℕ). record_of (take 6 m)) (drop-set-lt (2 + 6 * i) l 1 e (omega arith))
  set_keeps e false = refl

module _ (q i : ℕ) (iq : is_port q ≡ true) (h : i < 16) where
  own_keeps : (ws : List ℕ) (n : length ws ≡ 1764) (c : Call) → port_of_call c ≡ q → Spares ws q i c → slot_at (own_after (own ws q) c) i ≡ slot_at (own ws q) i
  own_keeps ws n (taking set port t s) e spares =
      take_keeps (own ws q) (own_length ws n q iq) i h t (admitted_of set port s) (λ a f. spares a f e)
  own_keeps ws n (setting port k) e spares = set_keeps (own ws q) (own_length ws n q iq) i h (exponent_of k) (is_interval k)
  own_keeps ws n (asking port) e spares = refl

  slots_keep : (ws : List ℕ) (cs : List Call) → length ws ≡ 1764 → LivesThrough ws q i cs → slot_at (own (run ws cs) q) i ≡ slot_at (own ws q) i
  slots_keep ws [] n lives = refl
  slots_keep ws (c ∷ cs) n lives =
      slots_keep (after ws c) cs (after_all ws n c) lives.1
      ∙ by_own ws n c (λ l. slot_at l i ≡ slot_at (own ws q) i) q iq (λ e. own_keeps ws n c e lives.0) refl

  -- NOBODY IS PUSHED OUT: over any calls on any ports, a record keeps its slot and its data until its own sender announces or it expires
  pub nobody_pushed_out : (ws : List ℕ) (cs : List Call) → length ws ≡ 1764 → LivesThrough ws q i cs → slot_of (port_at (run ws cs) q) i ≡ slot_of (port_at ws q) i
  nobody_pushed_out ws cs n lives =
      sym (slot_is (own (run ws cs) q) i h) ∙ slots_keep ws cs n lives ∙ slot_is (own ws q) i h

-- ---- the words mean the port that the rules give
module _ (l : List ℕ) (t : ℕ) (n : length l ≡ 98) where
  pub by_means : (x : Result Notice Refusal) → ((a : kept.Notice) → x ≡ Ok a → Fitting a)
      → port_of (words_after l t (plan_by (port_of l) t x)) ≡ port_after (port_of l) t (plan_by (port_of l) t x)
  by_means (Err x) fits = refl
  by_means (Ok a) fits = means l t a n (fits a refl)

  by_single : (x : Result Notice Refusal) → Single (port_of l) → Single (port_after (port_of l) t (plan_by (port_of l) t x))
  by_single (Err x) single = single
  by_single (Ok a) single = single_kept (port_of l) t a (length_tab 16 (slot_at l)) single

-- THE EXIT WORDS MEAN THE PORT AFTER THE PLAN
pub take_means : (set : Settings) (ws : List ℕ) (port t : ℕ) (s : List ℕ) → length ws ≡ 1764 → is_port port ≡ true → Octets s
    → port_at (state_after ws port t (plan_at set ws port t s)) port ≡ port_after (port_at ws port) t (plan_at set ws port t s)
unfolding plan_at
take_means set ws port t s n ip o =
    ap port_of (own_after_lem ws n (taking set port t s) port ip refl)
    ∙ by_means (own ws port) t (own_length ws n port ip) (admitted_of set port s) (λ a e. notice_fits set port s a e o)

-- ---- 13, and the places that are used again: what is admitted is planned by the port's records
pub planned : (set : Settings) (ws : List ℕ) (port t : ℕ) (s : List ℕ) (a : kept.Notice) → admitted_of set port s ≡ Ok a
    → plan_at set ws port t s ≡ plan_of (port_at ws port) t a
unfolding plan_at
planned set ws port t s a e = ap (plan_by (port_at ws port) t) e

module _ (set : Settings) (ws : List ℕ) (port t : ℕ) (s : List ℕ) (a : kept.Notice) (admitted : admitted_of set port s ≡ Ok a) where
  size : length (port_at ws port).slots ≡ 16
  size = length_tab 16 (slot_at (own ws port))

  -- REFUSED 13 EXACTLY WHEN THE SENDER IS NEW AND SIXTEEN ARE LIVE
  pub full_only : plan_at set ws port t s ≡ Err Full → ((port_at ws port).last ≤ t) × New (port_at ws port) a × AllLive (port_at ws port) t
  full_only e = intake.full_only (port_at ws port) t a size (sym (planned set ws port t s a admitted) ∙ e)

  pub full_when : (port_at ws port).last ≤ t → New (port_at ws port) a → AllLive (port_at ws port) t → plan_at set ws port t s ≡ Err Full
  full_when h new live = planned set ws port t s a admitted ∙ intake.full_when (port_at ws port) t a size h new live

  -- AN EXPIRED PLACE IS USED AGAIN, the lowest first
  pub expired_place_used : (i : ℕ) → (port_at ws port).last ≤ t → New (port_at ws port) a → i < 16
      → is_live (window_of (port_at ws port).e) t (slot_of (port_at ws port) i) ≡ false → intake.Reused (port_at ws port) t a i (plan_at set ws port t s)
  expired_place_used i h new g v =
      subst (intake.Reused (port_at ws port) t a i) (sym (planned set ws port t s a admitted)) (intake.expired_place_used (port_at ws port) t a size i h new g v)

-- ---- candidates
-- CANDIDATES ARE EXACTLY THE QUALIFIED RECORDS, IN SLOT ORDER: at a time that is not refused, the sixteen slots give them
pub candidates_are : (ws : List ℕ) (port t : ℕ) → is_port port ≡ true → (port_at ws port).last ≤ t
    → gather (tab 16 (λ i. candidate_on ws port i t)) ≡ candidates_of port (port_at ws port) t
unfolding refuse
candidates_are ws port t ip h =
    ap gather (tab_ext 16 (λ i. candidate_on ws port i t) (λ i. candidate_in port (port_at ws port) i t) (λ i g. rw (ip, le-ltb _ _ h)))
    ∙ slots_give port (port_at ws port) t (length_tab 16 (slot_at (own ws port)))

-- and valid for ranking
pub candidates_valid : (ws : List ℕ) (port t : ℕ) → is_port port ≡ true → all_valid (candidates_of port (port_at ws port) t) ≡ true
candidates_valid ws port t ip = candidates.candidates_valid port (port_at ws port) t ip

-- ---- one sender has at most one record
interval_single : (l : List ℕ) (e : ℕ) (b : Bool) → length l ≡ 98 → Single (port_of l) → Single (port_of (pick b (set l 1 e) l))
interval_single l e true n single = subst Single (sym (exponent_means l e n)) single
interval_single l e false n single = single

own_single : (l : List ℕ) (c : Call) → length l ≡ 98 → OctetCall c → Single (port_of l) → Single (port_of (own_after l c))
own_single l (taking set port t s) n o single =
    subst Single (sym (by_means l t n (admitted_of set port s) (λ a e. notice_fits set port s a e o))) (by_single l t n (admitted_of set port s) single)
own_single l (setting port k) n o single = interval_single l (exponent_of k) (is_interval k) n single
own_single l (asking port) n o single = single

module _ (q : ℕ) (iq : is_port q ≡ true) where
  pub single_run : (ws : List ℕ) (cs : List Call) → length ws ≡ 1764 → OctetCalls cs → Single (port_at ws q) → Single (port_at (run ws cs) q)
  single_run ws [] n o single = single
  single_run ws (c ∷ cs) n o single =
      single_run (after ws c) cs (after_all ws n c) o.1
      (by_own ws n c (λ l. Single (port_of l)) q iq (λ e. own_single (own ws q) c (own_length ws n q iq) o.0 single) single)

-- words of zero hold nobody
abbrev pub Zeros : List ℕ → Type 0
Zeros l = (k : ℕ) → get_or l k 0 ≡ 0

pub zeros_tab : (n : ℕ) → Zeros (tab n (λ i. 0))
unfolding tab
zeros_tab zero k = refl
zeros_tab (suc n) zero = refl
zeros_tab (suc n) (suc k) = zeros_tab n k

zeros_take : (n : ℕ) (l : List ℕ) → Zeros l → Zeros (take n l)
zeros_take zero l z k = refl
zeros_take (suc n) [] z k = refl
zeros_take (suc n) (x ∷ l) z zero = z 0
zeros_take (suc n) (x ∷ l) z (suc k) = zeros_take n l (λ j. z (suc j)) k

zeros_drop : (n : ℕ) (l : List ℕ) → Zeros l → Zeros (drop n l)
zeros_drop n l z k = get_or-drop n l k 0 ∙ z (n + k)

pub zeros_block : (l : List ℕ) (b n : ℕ) → Zeros l → Zeros (take n (drop b l))
zeros_block l b n z = zeros_take n (drop b l) (zeros_drop b l z)

and_none : (a b c : Bool) → c ≡ false → (a && (b && c)) ≡ false
and_none true true c e = e
and_none true false c e = refl
and_none false b c e = refl

nobody : (x : PortIdentity) (l : List ℕ) → Zeros l → is_of x (record_of l) ≡ false
unfolding record_of
nobody x l z =
    let s = (record_of l).notice.sender in
    and_none (eqb s.clock x.clock) (eqb s.port x.port) (not (eqb (record_of l).receipts 0)) (rw (z 1))

-- ONE SENDER HAS AT MOST ONE RECORD, in every state that is reached from fresh words
fresh_single : (q : ℕ) → Single (port_at fresh q)
fresh_single q x i j hi hj oi oj =
    let l = own fresh q in
    let zeros : Zeros (take 6 (drop (2 + 6 * i) l)) =
    zeros_block l (2 + 6 * i) 6 (zeros_block fresh (98 * (q - 1)) 98 (zeros_tab 1764)) in
    clash (ap (is_of x) (slot_is l i hi) ∙ oi) (nobody x (take 6 (drop (2 + 6 * i) l)) zeros)

pub one_record : (q : ℕ) → is_port q ≡ true → (cs : List Call) → OctetCalls cs → Single (port_at (run fresh cs) q)
one_record q iq cs o = single_run q iq fresh cs (length_tab 1764 (λ i. 0)) o (fresh_single q)
