-- Places in the words of eighteen ports: a place is in its port's words, tells the port, and is that of the port's best.
use Rattle.std.specs.Prelude.{Some, Ok}
use Prim.Native.Nat.{ℕ, zero, suc, ◌+◌, ◌-◌, ◌*◌, ◌/◌, ◌≤◌, ◌<◌}
use mathlib.Core.Path.{◌≡◌, refl, sym, ap, ◌∙◌}
use mathlib.Core.List.{List, [], ◌∷◌}
use mathlib.Core.Bool.{true, false}
use native.Mathlib.Omega.{arith}
use lib.Dec.{eqb}
use lib.ListN.{get_or, take, drop}
use lib.Seq.{take-take, drop-drop, get_or-drop}
use borrow.Author.Tests.{eqb-false, ne_eqb}
use Rattle.rank.specs.declared.Candidate.{Candidate}
use Rattle.rank.specs.Order.{earlier_of}
use Rattle.rank.specs.Ranked.{is_port}
use Rattle.rank.proofs.Best.{cases}
use Rattle.senders.specs.Record.{candidate_of}
use Rattle.senders.specs.Port.{best_of}
use Rattle.slots.specs.Words.{block, record_of}
use Rattle.slots.specs.Places.{place_in, found_in, above_in}
use Rattle.slots.proofs.Cases.{Words64}
use Rattle.slots.proofs.Begins.{place_best, place_bound, above_is}
use Rattle.ports.specs.Words.{own, port_at}
use Rattle.ports.specs.Places.{place_from, place_on, port_by, candidate_at, found_at}
use Rattle.ports.proofs.Laws.{port_bounds, lent_own}

-- words of a part are words of the whole
within : (i n m : ℕ) (l : List ℕ) → i + m ≤ n → take m (drop i (take n l)) ≡ take m (drop i l)
within zero n m l h = take-take m n l (omega arith)
within (suc i) zero m l h = absurd (omega arith)
within (suc i) (suc n) m [] h = refl
within (suc i) (suc n) m (x ∷ l) h = within i n m l (omega arith)

own_block : (ws : List ℕ) (port i : ℕ) → i + 6 ≤ 98 → block (own ws port) i 6 ≡ block ws (98 * (port - 1) + i) 6
own_block ws port i h =
    let b = 98 * (port - 1) in within i 98 6 (drop b ws) h ∙ ap (take 6) (drop-drop i b ws)

part_words : (n : ℕ) (l : List ℕ) → Words64 l → Words64 (take n l)
part_words zero l words k = omega arith
part_words (suc n) [] words k = omega arith
part_words (suc n) (x ∷ l) words zero = words 0
part_words (suc n) (x ∷ l) words (suc k) = part_words n l (λ j. words (suc j)) k

own_words : (ws : List ℕ) (port : ℕ) → Words64 ws → Words64 (own ws port)
own_words ws port words =
    let b = 98 * (port - 1) in part_words 98 (drop b ws) (λ k. rw (get_or-drop b ws k 0) (words (b + k)))

module _ (port : ℕ) (is : is_port port ≡ true) where
  -- the port of a place in the port's words
  port_back : (i : ℕ) → i + 6 ≤ 98 → port_by (98 * (port - 1) + i) ≡ port
  port_back i h = let b = port_bounds port is in omega (arith, b.0, b.1)

  module _ (ws : List ℕ) (t : ℕ) where
    found_by : (i : ℕ) → i + 6 ≤ 98 → found_at ws (place_from port i) ≡ found_in port (own ws port) i
    unfolding candidate_at
    found_by i h =
        let b = 98 * (port - 1) in
        cases (eqb i 0)
        (λ e. rw e)
        (λ e.
        let n = eqb-false i 0 e in
        let z : eqb (b + i) 0 ≡ false = ne_eqb (b + i) 0 (λ q. n (omega arith)) in
        rw (e, z) (ap (λ (c : Candidate). Ok (Some c)) (ap (λ (k : ℕ). candidate_of k (record_of (block ws (b + i) 6))) (port_back i h) ∙ ap (λ (l : List ℕ). candidate_of port (record_of l)) (sym (own_block ws port i h)))))

    -- THE CANDIDATE AT A PORT'S PLACE IS THE PORT'S BEST
    pub best_at : Words64 ws → found_at ws (place_on ws port t) ≡ best_of port (port_at ws port) t
    unfolding place_on
    best_at words =
        found_by (place_in (own ws port) t) (place_bound (own ws port) t) ∙ place_best port (own ws port) t (own_words ws port words)

    -- its record lies in the words, and it tells the port
    inside : (i : ℕ) → i + 6 ≤ 98 → place_from port i + 6 ≤ 1764
    inside i h =
        let b = port_bounds port is in
        cases (eqb i 0) (λ e. rw e (omega arith)) (λ e. rw e (omega (arith, b.0, b.1)))

    pub place_inside : place_on ws port t + 6 ≤ 1764
    unfolding place_on
    place_inside = inside (place_in (own ws port) t) (place_bound (own ws port) t)

    tells : (i : ℕ) → i + 6 ≤ 98 → (place_from port i ≡ 0 → ⊥) → port_by (place_from port i) ≡ port
    tells i h n =
        cases (eqb i 0)
        (λ e. absurd (n (rw e)))
        (λ e. rw e (port_back i h))

    pub place_port : (place_on ws port t ≡ 0 → ⊥) → port_by (place_on ws port t) ≡ port
    unfolding place_on
    place_port = tells (place_in (own ws port) t) (place_bound (own ws port) t)

-- rank order of two places, the second of a lower port
pub before_is : (ws : List ℕ) (a b : ℕ) → Words64 ws → b / 98 < a / 98
    → above_in (block ws a 6) (block ws b 6) ≡ earlier_of (candidate_at ws a) (candidate_at ws b)
unfolding candidate_at
before_is ws a b words h = above_is (port_by a) (port_by b) ws a b words (omega arith)

-- the first word of a port
pub last_is : (ws : List ℕ) (port b : ℕ) → b ≡ 98 * (port - 1) → get_or (take (b + 98 - b) (drop b ws)) 0 0 ≡ (port_at ws port).last
last_is ws port b e = ap (λ (l : List ℕ). get_or l 0 0) (lent_own ws port b e)
