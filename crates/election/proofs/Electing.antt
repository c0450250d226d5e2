-- The ports of the clock, one after the other, and their candidates.
use Prim.Native.Nat.{ℕ, zero, suc, ◌+◌, ◌-◌, ◌≤◌, ◌<◌, zero-le, suc-le-suc}
use mathlib.Core.Path.{◌≡◌, refl, sym, ap, ap₂, ◌∙◌}
use mathlib.Core.List.{List, [], ◌∷◌, map}
use mathlib.Core.Bool.{Bool, true, false}
use native.Mathlib.Omega.{arith}
use native.Mathlib.Nat.{le_of_suc-le-suc, not-suc-le-zero}
use lib.Dec.{ltb}
use lib.ListN.{drop}
use lib.Seq.{drop-cons}
use borrow.Author.Tests.{le-leb}
use Rattle.rank.specs.declared.Candidate.{Candidate}
use Rattle.rank.specs.Ranked.{is_port, all_valid, rank_of}
use Rattle.rank.proofs.Best.{All}
use Rattle.rank.proofs.Merging.{AllValid, defined, valid_sound}
use Rattle.rank.proofs.Laws.{valid_append}
use Rattle.senders.specs.declared.Record.{Record}
use Rattle.senders.specs.Record.{window_of, is_qualified, candidate_of}
use Rattle.senders.specs.Port.{Port, tab, kept, candidates_of, head_of, best_of}
use Rattle.senders.proofs.Candidates.{candidates_valid}
use Rattle.slots.proofs.Laws.{length_tab, get_d_tab}
use Rattle.ports.specs.Words.{port_at}
use Rattle.election.specs.Elected.{every_port, any_late, heard_on}
use Rattle.election.proofs.Bests.{Own, rank_best}

-- ports of the clock alone
abbrev pub Ports : List ℕ → Type 0
Ports ps = All (λ p. is_port p ≡ true) ps

-- of a table, each entry
tab_all : {A : Type 0} (P : A → Type 0) (n : ℕ) (f : ℕ → A) → ((i : ℕ) → i < n → P (f i)) → All P (tab n f)
unfolding tab
tab_all P zero f h = tt
tab_all P (suc n) f h = (h 0 (suc-le-suc zero-le), tab_all P n (λ i. f (suc i)) (λ i g. h (suc i) (suc-le-suc g)))

pub all_tab : {A : Type 0} (P : A → Type 0) (n : ℕ) (f : ℕ → A) → All P (tab n f) → (i : ℕ) → i < n → P (f i)
unfolding tab
all_tab P zero f h i g = absurd (not-suc-le-zero g)
all_tab P (suc n) f h zero g = h.0
all_tab P (suc n) f h (suc i) g = all_tab P n (λ k. f (suc k)) h.1 i (le_of_suc-le-suc g)

pub every_port_lem : Ports every_port
every_port_lem = tab_all (λ p. is_port p ≡ true) 18 suc (λ i h. simp (le-leb 1 (suc i) (omega arith), le-leb (suc i) 18 (omega arith)))

pub port_in_lem : (p : ℕ) → 1 ≤ p → p ≤ 18 → is_port p ≡ true
port_in_lem p h k = simp (le-leb 1 p h, le-leb p 18 k)

-- the ports from p on: p and the rest, or none
pub from_port : (p : ℕ) → 1 ≤ p → p ≤ 18 → drop (p - 1) every_port ≡ p ∷ drop (p + 1 - 1) every_port
from_port p h k =
    let i : p - 1 < 18 = omega arith in
    let e : suc (p - 1) ≡ p = omega arith in
    let f : suc (p - 1) ≡ p + 1 - 1 = omega arith in
    drop-cons every_port (p - 1) 0 (rw (length_tab 18 suc) i)
    ∙ ap₂ ◌∷◌ (get_d_tab 18 suc (p - 1) 0 i ∙ e) (ap (λ (n : ℕ). drop n every_port) f)

pub no_port_left : drop 18 every_port ≡ []
unfolding tab
no_port_left = refl

-- a port's candidates are its own
own_by : (p : ℕ) (l : List Record) → Own p (map (candidate_of p) l)
own_by p [] = tt
own_by p (r ∷ l) = (refl, own_by p l)

pub own_candidates : (p : ℕ) (q : Port) (t : ℕ) → Own p (candidates_of p q t)
unfolding candidates_of
own_candidates p q t = own_by p (kept (is_qualified (window_of q.e) t) q.slots)

-- "Erbest a port's best" is the first of the ranked list of the port's candidates
pub best_first : (p : ℕ) (q : Port) (t : ℕ) → is_port p ≡ true → best_of p q t ≡ head_of (rank_of (candidates_of p q t))
unfolding best_of
best_first p q t h =
    let s = candidates_of p q t in
    ap head_of (sym (rank_best p s (own_candidates p q t)) ∙ defined s (valid_sound s (candidates_valid p q t h)))

module _ (ws : List ℕ) (t : ℕ) where
  abbrev candidates : ℕ → List Candidate
  candidates p = candidates_of p (port_at ws p) t

  abbrev late : ℕ → Bool
  late p = ltb t (port_at ws p).last

  -- valid for ranking
  pub heard_passes : (ps : List ℕ) → Ports ps → all_valid (heard_on ws t ps) ≡ true
  unfolding heard_on
  heard_passes [] h = refl
  heard_passes (p ∷ ps) h =
      valid_append (candidates p) (heard_on ws t ps) (candidates_valid p (port_at ws p) t h.0) (heard_passes ps h.1)

  pub heard_valid : (ps : List ℕ) → Ports ps → AllValid (heard_on ws t ps)
  heard_valid ps h = valid_sound (heard_on ws t ps) (heard_passes ps h)

  -- one port late, or the rest
  pub late_hit : (p : ℕ) (ps : List ℕ) → late p ≡ true → any_late ws t (p ∷ ps) ≡ true
  unfolding any_late
  late_hit p ps h = rw h

  pub late_miss : (p : ℕ) (ps : List ℕ) → late p ≡ false → any_late ws t (p ∷ ps) ≡ any_late ws t ps
  unfolding any_late
  late_miss p ps h = rw h

  pub late_end : any_late ws t [] ≡ false
  unfolding any_late
  late_end = refl
