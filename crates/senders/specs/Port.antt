-- A port's records, and what an Announce does to them (01, "Sender records" and "Numbers that refuse").
use Rattle.std.specs.Prelude.{◌≡◌, ℕ, zero, suc, ◌<◌, Bool, true, false, not, List, [], ◌∷◌, map, nat_lt, slice_index_or, slice_set, Option, Some, None, Result, Ok, Err}
use Rattle.refusal.specs.Choice.{pick, refuse}
use Rattle.refusal.specs.declared.Refusal.TheVariants.{Backward, Stale, Full}
use Rattle.rank.specs.declared.Candidate.{Candidate}
use Rattle.identity.specs.declared.PortIdentity.{PortIdentity}
use Rattle.rank.specs.Order.{earlier_of}
use Rattle.rank.specs.Ranked.{blank_of}
use Rattle.rank.specs.Ranked as ranked
use Rattle.rank.specs.Best.{best}
use Rattle.senders.specs.declared.Notice.{Notice}
use Rattle.senders.specs.declared.Record.{Record}
use Rattle.senders.specs.Record.{window_of, is_of, is_live, is_free, is_qualified, is_newer, fresh_of, next_of, candidate_of}
use Rattle.refusal.specs.declared.Refusal.{Refusal}

-- "Per port: last accepted time .., an announce interval of 2^k seconds .., and 16 slots."; e is k modulo 8
pub record Port : Type 0 where
  pub last : ℕ
  pub e : ℕ
  pub slots : List Record

-- the list f 0, f 1, .. of n elements
unfoldable pub tab : {A : Type 0} → ℕ → (ℕ → A) → List A
tab zero f = []
tab (suc n) f = f 0 ∷ tab n (λ i. f (suc i))

-- an empty slot
abbrev pub empty_slot : Record
empty_slot =
    record {
      notice =
          record { sender = blank_of.sender; sequence = 0; grandmaster = blank_of.grandmaster; steps = 0; wrflags = 0 };
      receipts = 0;
      newest = 0;
      older = 0;
    }

abbrev pub slot_of : Port → ℕ → Record
slot_of p i = slice_index_or p.slots i empty_slot

-- the lowest slot that passes a test; the number of slots where none does
unfoldable pub first : (Record → Bool) → List Record → ℕ
first test [] = 0
first test (r ∷ l) = pick (test r) 0 (suc (first test l))

-- "An Announce from a live sender must be newer"; "A sender with an expired record restarts in its own slot with one receipt."
abbrev pub known_of : ℕ → ℕ → Notice → ℕ → Record → Result (ℕ × Record) Refusal
known_of w t a i r =
    pick (is_live w t r)
    (refuse (not (is_newer a.sequence r.notice.sequence)) (Err Stale) (Ok (i, next_of r t a)))
    (Ok (i, fresh_of t a))

-- "A new sender takes the lowest slot that is empty or expired."; "new sender, 16 live records on the port"
abbrev pub new_of : ℕ → Notice → ℕ → Result (ℕ × Record) Refusal
new_of t a j = refuse (not (nat_lt j 16)) (Err Full) (Ok (j, fresh_of t a))

-- the same by the slot, where there is one; one past the sixteenth is none
abbrev pub new_in : ℕ → Notice → Option ℕ → Result (ℕ × Record) Refusal
new_in t a None = new_of t a 16
new_in t a (Some j) = new_of t a j

abbrev pub sender_plan : ℕ → ℕ → Notice → List Record → ℕ → Result (ℕ × Record) Refusal
sender_plan w t a l i = pick (nat_lt i 16) (known_of w t a i (slice_index_or l i empty_slot)) (new_of t a (first (is_free w t) l))

-- what an Announce does at t: ".., 11, 12, 13"
unfoldable pub plan_of : Port → ℕ → Notice → Result (ℕ × Record) Refusal
plan_of p t a =
    refuse (nat_lt t p.last) (Err Backward)
    (sender_plan (window_of p.e) t a p.slots (first (is_of a.sender) p.slots))

-- what a plan answers, and the port after it: "A refusal returns its number alone. State .. stay as they were."
abbrev pub outcome_of : Result (ℕ × Record) Refusal → Result (Unit {0}) Refusal
outcome_of (Err x) = Err x
outcome_of (Ok (i, r)) = Ok tt

abbrev pub port_after : Port → ℕ → Result (ℕ × Record) Refusal → Port
port_after p t (Err x) = p
port_after p t (Ok (i, r)) = record { last = t; e = p.e; slots = slice_set p.slots i r }

-- those that pass a test, in slot order
unfoldable pub kept : (Record → Bool) → List Record → List Record
kept test [] = []
kept test (r ∷ l) = pick (test r) (r ∷ kept test l) (kept test l)

-- the candidates of a port at t: the qualified records, in slot order
unfoldable pub candidates_of : ℕ → Port → ℕ → List Candidate
candidates_of port p t = map (candidate_of port) (kept (is_qualified (window_of p.e) t) p.slots)

-- "Asking for candidates at T changes nothing and is refused with 8, then 11."
abbrev pub asked_of : Port → ℕ → Result (Option Candidate) Refusal → Result (Option Candidate) Refusal
asked_of p t answer = refuse (nat_lt t p.last) (Err Backward) answer

-- the candidate in one slot
unfoldable pub candidate_in : ℕ → Port → ℕ → ℕ → Result (Option Candidate) Refusal
candidate_in port p i t =
    pick (is_qualified (window_of p.e) t (slot_of p i)) (Ok (Some (candidate_of port (slot_of p i)))) (Ok None)

-- the candidates among answers, in their order
unfoldable pub gather : List (Result (Option Candidate) Refusal) → List Candidate
gather [] = []
gather (Err x ∷ l) = gather l
gather (Ok None ∷ l) = gather l
gather (Ok (Some c) ∷ l) = c ∷ gather l

-- the best candidate of a port
abbrev pub head_of : List Candidate → Result (Option Candidate) Refusal
head_of [] = Ok None
head_of (c ∷ l) = Ok (Some c)

unfoldable pub best_of : ℕ → Port → ℕ → Result (Option Candidate) Refusal
best_of port p t = head_of (best earlier_of ranked.receiver_of port (candidates_of port p t))

-- "new sender": no slot has a record of it
abbrev pub New : Port → Notice → Type 0
New p a = (k : ℕ) → k < 16 → is_of a.sender (slot_of p k) ≡ false

-- live at t, and "16 live records on the port"
abbrev pub Live : Port → ℕ → ℕ → Type 0
Live p t k = is_live (window_of p.e) t (slot_of p k) ≡ true

abbrev pub AllLive : Port → ℕ → Type 0
AllLive p t = (k : ℕ) → k < 16 → Live p t k

-- one sender has at most one record
abbrev pub Single : Port → Type 0
Single p = (x : PortIdentity) (i j : ℕ) → i < 16 → j < 16 → is_of x (slot_of p i) ≡ true → is_of x (slot_of p j) ≡ true → i ≡ j
