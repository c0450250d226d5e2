-- The place of a port's best candidate: what begins there is the best, and it lies in the port's words.
use Prim.Native.Nat.{ℕ, zero, suc, ◌+◌, ◌-◌, ◌≤◌, ◌<◌}
use mathlib.Core.Path.{◌≡◌}
use mathlib.Core.List.{List}
use native.Mathlib.Omega.{arith}
use Rattle.rank.specs.Order.{earlier_of}
use Rattle.rank.proofs.Best.{cases}
use Rattle.senders.specs.Record.{window_of, candidate_of}
use Rattle.senders.specs.Port.{candidates_of, best_of}
use Rattle.slots.specs.Words.{block, begin_of, record_of, port_of, outdoes_in, best_in}
use Rattle.slots.specs.Places.{place_among, place_in, found_in, above_in}
use Rattle.slots.proofs.Order.{above_words}
use Rattle.slots.proofs.Cases.{Words64, best_among, grade_word_lem}

-- WHAT BEGINS AT THE PLACE IS THE BEST
pub place_best : (port : ℕ) (ws : List ℕ) (t : ℕ) → Words64 ws → found_in port ws (place_in ws t) ≡ best_of port (port_of ws) t
unfolding place_in best_in best_of candidates_of
place_best port ws t words =
    best_among port ws words (window_of (port_of ws).e) t 16 (omega arith)

-- and it lies in the port's words
pub among_bound : (ws : List ℕ) (w t n : ℕ) → place_among ws w t n + 6 ≤ 98
unfolding place_among
among_bound ws w t zero = omega arith
among_bound ws w t (suc n) =
    let b = place_among ws w t n in
    let l = among_bound ws w t n in
    cases (outdoes_in ws (begin_of (15 - n)) b w t) (λ h. rw h (omega arith)) (λ h. rw h l)

pub place_bound : (ws : List ℕ) (t : ℕ) → place_in ws t + 6 ≤ 98
unfolding place_in
place_bound ws t = among_bound ws (window_of (port_of ws).e) t 16

-- rank order of two records of the words, the second of a lower port
pub above_is : (p q : ℕ) (ws : List ℕ) (a b : ℕ) → Words64 ws → q < p
    → above_in (block ws a 6) (block ws b 6) ≡ earlier_of (candidate_of p (record_of (block ws a 6))) (candidate_of q (record_of (block ws b 6)))
unfolding record_of
above_is p q ws a b words h = above_words p q (block ws a 6) (block ws b 6) h (grade_word_lem ws a words) (grade_word_lem ws b words)
