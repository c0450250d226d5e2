-- Ranking is refused with 17 and 8, and merging with 15, exactly when 01 says.
use Prim.Native.Nat.{ℕ}
use mathlib.Core.Path.{◌≡◌}
use mathlib.Core.Bool.{◌&&◌}
use mathlib.Core.List.{List}
use borrow.Author.Tests.{lt-ltb, le-ltb, ltb-true, ltb-false}
use lib.Dec.{ltb}
use lib.ListN.{length}
use Rattle.laws.proofs.Bools.{cases, both}
use Rattle.refusal.specs.Choice.{refuse}
use Rattle.refusal.specs.Refusal.{code_of}
use Rattle.rank.specs.declared.Candidate.{Candidate}
use Rattle.rank.specs.declared.Ranked.{Ranked}
use Rattle.rank.specs.Ranked.{all_valid, is_ranked}
use Rattle.rank.specs.Calls.{ranking_of, merge_of, outcome_of}
use Rattle.rank.specs.When.{RankWhen, many, no_port, ranked, MergeWhen, unranked, merged}

-- the number that ranking and merging answer with
abbrev pub rank_code : List Candidate → ℕ
rank_code s = code_of (outcome_of (ranking_of s))

abbrev pub merge_code : Ranked → Ranked → ℕ
merge_code a b = code_of (outcome_of (merge_of a b))

-- A LINE THAT HOLDS: its number is given
pub when_rank : (s : List Candidate) {n : ℕ} → RankWhen s n → rank_code s ≡ n
unfolding refuse
when_rank s (many l) = rw (lt-ltb 288 (length s) l)
when_rank s (no_port l v) = rw (le-ltb 288 (length s) l, v)
when_rank s (ranked l v) = rw (le-ltb 288 (length s) l, v)

pub when_merge : (a b : Ranked) {n : ℕ} → MergeWhen a b n → merge_code a b ≡ n
unfolding refuse
when_merge a b (unranked e) = rw e
when_merge a b (merged x y) = rw (x, y)

-- THE NUMBER GIVEN: its line holds
pub rank_told : (s : List Candidate) → RankWhen s (rank_code s)
unfolding refuse
rank_told s =
    cases (ltb 288 (length s))
    (λ l. rw l (many (ltb-true 288 (length s) l)))
    (λ l.
    cases (all_valid s)
    (λ v. rw (l, v) (ranked (ltb-false 288 (length s) l) v))
    (λ v. rw (l, v) (no_port (ltb-false 288 (length s) l) v)))

pub merge_told : (a b : Ranked) → MergeWhen a b (merge_code a b)
unfolding refuse
merge_told a b =
    cases (is_ranked a && is_ranked b)
    (λ e. let r = both (is_ranked a) (is_ranked b) e in rw e (merged r.0 r.1))
    (λ e. rw e (unranked e))
