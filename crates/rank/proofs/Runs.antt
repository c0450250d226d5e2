-- Ranking a run one candidate at a time gives what ranking it whole is defined to give.
use Rattle.std.specs.Prelude.{Result, Ok, Err}
use Prim.Native.Nat.{◌≤◌}
use mathlib.Core.Path.{◌≡◌, refl, ap, ◌∙◌}
use mathlib.Core.List.{List, [], ◌∷◌, ◌++◌, append-nil}
use borrow.Author.Tests.{le-ltb}
use lib.ListN.{length}
use Rattle.refusal.specs.Choice.{pick, refuse}
use Rattle.refusal.specs.declared.Refusal.{Refusal}
use Rattle.refusal.specs.declared.Refusal.TheVariants.{Port}
use Rattle.rank.specs.declared.Candidate.{Candidate}
use Rattle.rank.specs.declared.Ranked.{Ranked}
use Rattle.rank.specs.Order.{earlier_of}
use Rattle.rank.specs.Ranked.{is_port, receiver_of, all_valid, pack, insert_of}
use Rattle.rank.specs.Calls.{done_of, ranking_of}
use Rattle.rank.proofs.Best.{cases, rank_middle}
use Rattle.rank.proofs.Order.{ordered}
use Rattle.rank.proofs.Merging.{R, defined, insert_rank, valid_sound}

-- the candidates of a list, one after the other
abbrev pub scan : Ranked → List Candidate → Result Ranked Refusal
scan r [] = Ok r
scan r (y ∷ ys) = pick (is_port y.port) (scan (insert_of r y) ys) (Err Port)

scan_rank : (l s : List Candidate) → scan (pack (R s)) l ≡ pick (all_valid l) (done_of (R (l ++ s))) (Err Port)
scan_rank [] s = refl
scan_rank (y ∷ ys) s =
    cases (is_port y.port)
    (λ e.
    simp e
    (ap (λ (r : Ranked). scan r ys) (insert_rank y s)
    ∙ scan_rank ys (y ∷ s)
    ∙ ap (λ (l : List Candidate). pick (all_valid ys) (done_of l) (Err Port)) (rank_middle earlier_of receiver_of ordered 4 ys y s)))
    (λ e. simp e)

pub scan_all : (l : List Candidate) → length l ≤ 288 → scan (pack []) l ≡ ranking_of l
unfolding refuse
scan_all l few =
    rw (le-ltb 288 (length l) few)
    (scan_rank l []
    ∙ cases (all_valid l)
    (λ v. simp v (ap done_of (ap R (append-nil l) ∙ defined l (valid_sound l v))))
    (λ v. simp v))
