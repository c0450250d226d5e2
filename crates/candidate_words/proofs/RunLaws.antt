-- A run one candidate at a time: what is refused of it, and the candidates that it holds.
use Rattle.std.specs.Prelude.{Result, Ok, Err}
use Prim.Native.Nat.{ℕ, zero, suc, ◌+◌, ◌≤◌, ◌<◌}
use mathlib.Core.Path.{◌≡◌, refl, sym, ap, ◌∙◌}
use mathlib.Core.Bool.{Bool, true, false, ◌&&◌, and_assoc}
use mathlib.Core.List.{List, [], ◌∷◌}
use native.Mathlib.Omega.{arith}
use native.Mathlib.Numerals.{add-one}
use borrow.Author.Tests.{lt-ltb, le-ltb}
use lib.ListN.{length, drop, get_or}
use lib.Seq.{slice, slice-cons, drop-cons, drop-length}
use Rattle.refusal.specs.Choice.{pick, refuse}
use Rattle.refusal.specs.declared.Refusal.{Refusal}
use Rattle.refusal.specs.declared.Refusal.TheVariants.{Many, Port, Field}
use Rattle.words.specs.Words.{port_of}
use Rattle.rank.specs.declared.Candidate.{Candidate}
use Rattle.rank.specs.Ranked.{is_port, all_valid}
use Rattle.rank.proofs.Best.{cases}
use Rattle.candidate_words.specs.Fits.{candidate_fits, run_fits, outcome_fitted}
use Rattle.candidate_words.specs.Runs.{run_of}
use Rattle.candidate_words.specs.Places.{candidate_of, checked_of}

pub run_length : (run : List (List ℕ)) → length (run_of run) ≡ length run
run_length [] = refl
run_length (w ∷ ws) = ap suc (run_length ws)

-- the candidate at a place, and those from there on
pub run_at : (run : List (List ℕ)) (i : ℕ) (d : Candidate) → i < length run → get_or (run_of run) i d ≡ candidate_of run i
unfolding candidate_of
run_at [] i d h = absurd (omega arith)
run_at (w ∷ ws) zero d h = refl
run_at (w ∷ ws) (suc i) d h = run_at ws i d (omega arith)

pub slice_here : (run : List (List ℕ)) (i to : ℕ) → i < to → to ≤ length run → slice i to (run_of run) ≡ candidate_of run i ∷ slice (i + 1) to (run_of run)
slice_here run i to h k =
    rw (add-one i)
    (slice-cons i to (run_of run) (candidate_of run i) h (omega (arith, run_length run))
    ∙ ap (λ (x : Candidate). x ∷ slice (suc i) to (run_of run)) (run_at run i (candidate_of run i) (omega arith)))

-- what is left of a run from candidate i on
left_here : (run : List (List ℕ)) (i : ℕ) → i < length run → drop i run ≡ get_or run i [] ∷ drop (i + 1) run
left_here run i h = drop-cons run i [] h ∙ ap (λ (k : ℕ). get_or run i [] ∷ drop k run) (sym (add-one i))

left_none : (run : List (List ℕ)) (i : ℕ) → i ≤ length run → length run ≤ i → drop i run ≡ []
left_none run i p q =
    let e : i ≡ length run = omega arith in
    rw e (drop-length run)

-- what is refused of the rest of a run, where what came before it fits or not
abbrev pub so_far : Bool → List (List ℕ) → Result (Unit {0}) Refusal
so_far whole run = outcome_fitted (whole && run_fits run) (pick (all_valid (run_of run)) (Ok tt) (Err Port))

pub refused_stays : (b : Bool) (x : Refusal) → outcome_fitted b (Err x) ≡ Err x
refused_stays true x = refl
refused_stays false x = refl

pub check_many : (run : List (List ℕ)) → 288 < length run → Err Many ≡ checked_of run
unfolding refuse
check_many run h = rw (run_length run, lt-ltb 288 (length run) h) (sym (refused_stays (run_fits run) Many))

pub check_start : (run : List (List ℕ)) → length run ≤ 288 → so_far true run ≡ checked_of run
unfolding refuse
check_start run h =
    ap (outcome_fitted (run_fits run))
    (rw (run_length run, le-ltb 288 (length run) h) (cases (all_valid (run_of run)) (λ e. simp e) (λ e. simp e)))

module _ (run : List (List ℕ)) (whole : Bool) (i : ℕ) where
  abbrev this : List ℕ
  this = get_or run i []

  pub check_port : i < length run → is_port (port_of (get_or this 9 0)) ≡ false → Err Port ≡ so_far whole (drop i run)
  check_port h e =
      rw (left_here run i h, e) (sym (refused_stays (whole && (candidate_fits this 0 && run_fits (drop (i + 1) run))) Port))

  pub check_more : i < length run → is_port (port_of (get_or this 9 0)) ≡ true
      → so_far (whole && candidate_fits this 0) (drop (i + 1) run) ≡ so_far whole (drop i run)
  check_more h e =
      rw (left_here run i h, e, ← and_assoc whole (candidate_fits this 0) (run_fits (drop (i + 1) run)))

  pub check_fits : i ≤ length run → length run ≤ i → whole ≡ true → Ok tt ≡ so_far whole (drop i run)
  check_fits h k e = rw (left_none run i h k, e)

  pub check_unfit : i ≤ length run → length run ≤ i → whole ≡ false → Err Field ≡ so_far whole (drop i run)
  check_unfit h k e = rw (left_none run i h k, e)
