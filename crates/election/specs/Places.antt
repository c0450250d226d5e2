-- What only the code needs: the best candidates of all ports, kept by their places in the words until the list is made.
use Rattle.std.specs.Prelude.{ℕ, suc, ◌+◌, ◌/◌, ◌≤◌, ◌<◌, ◌≡◌, List, [], ◌∷◌, ◌++◌, Bool, eqb, take, drop}
use Rattle.std.specs.List.{list_any}
use Rattle.refusal.specs.Limits.{port_count}
use Rattle.refusal.specs.Choice.{pick}
use Rattle.rank.specs.declared.Grandmaster.{Grandmaster}
use Rattle.rank.specs.Order.{earlier_of}
use Rattle.senders.specs.Port.{tab}
use Rattle.slots.specs.Words.{port_words}
use Rattle.ports.specs.Words.{all_words}
use Rattle.ports.specs.Places.{place_on, port_by, candidate_at, found_at}
use Rattle.decide.specs.declared.Lead.{Lead}
use Rattle.decide.specs.Leading.{led_of}
use Rattle.election.specs.declared.Top.{Top}
use Rattle.election.specs.Decisions.{code_of, erbest_of}

-- the places of a top, best first
abbrev pub top_of : Top → List ℕ
top_of x = take x.len x.places

-- how many of some places a candidate does not stand before
unfoldable pub rank_among : List ℕ → ℕ → List ℕ → ℕ
rank_among ws a [] = 0
rank_among ws a (b ∷ l) = pick (earlier_of (candidate_at ws a) (candidate_at ws b)) 0 (suc (rank_among ws a l))

-- one place more behind the first i, cut after four
abbrev pub put_at : ℕ → ℕ → List ℕ → List ℕ
put_at i a l = take 4 (take i l ++ a ∷ drop i l)

-- a port's place more, where it has one
abbrev pub with_place : List ℕ → List ℕ → ℕ → List ℕ
with_place ws l a = pick (eqb a 0) l (put_at (rank_among ws a l) a l)

-- and that of each port in turn
unfoldable pub gather : List ℕ → ℕ → List ℕ → List ℕ → List ℕ
gather ws t l [] = l
gather ws t l (p ∷ ps) = gather ws t (with_place ws l (place_on ws p t)) ps

-- each port's place
abbrev pub places_at : List ℕ → ℕ → List ℕ
places_at ws t = tab port_count (λ i. place_on ws (suc i) t)

-- one of some places is of port p
abbrev pub listed_in : ℕ → List ℕ → Bool
listed_in p l = list_any (λ a. eqb (port_by a) p) l

-- a port's number by the lead, the places of the list, and the port's place
abbrev pub octet_by : List ℕ → Grandmaster → Lead → List ℕ → ℕ → ℕ → ℕ
octet_by ws own lead l p a = code_of (led_of own lead (listed_in p l) p (erbest_of (found_at ws a)))

-- each of a list
abbrev pub Each : (ℕ → Type 0) → List ℕ → Type 0
Each P [] = Unit {0}
Each P (x ∷ xs) = P x × Each P xs

-- a record lies in the words
abbrev pub Inside : ℕ → Type 0
Inside a = a + 6 ≤ all_words

-- and its port is below that of another
abbrev pub Below : ℕ → ℕ → Type 0
Below a b = Inside b × (b / port_words < a / port_words)

-- a place that can be compared with those of a top
pub record Comes (a : ℕ) (top : Top) : Type 0 where
  pub inside : Inside a
  pub small : top.len ≤ 4
  pub below : Each (Below a) (top_of top)

-- the same of a place that is one
pub record Joins (a : ℕ) (top : Top) : Type 0 where
  pub inside : Inside a
  pub small : top.len ≤ 4
  pub below : (a ≡ 0 → ⊥) → Each (Below a) (top_of top)

-- a top whose candidates can be taken out of the words
pub record Held (top : Top) : Type 0 where
  pub small : top.len ≤ 4
  pub inside : Each Inside (top_of top)
