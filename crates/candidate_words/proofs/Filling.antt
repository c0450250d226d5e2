-- What filling places gives: the ranked list of all that was inserted, whatever the unused places say.
use Rattle.std.specs.Prelude.{Result, Ok, Err}
use Prim.Native.Nat.{ℕ, ◌≤◌, ◌<◌}
use mathlib.Core.Path.{◌≡◌, sym, ap, ◌∙◌}
use mathlib.Core.Bool.{Bool, true, false, not}
use mathlib.Core.List.{List, [], ◌∷◌, ◌++◌, map, append-nil}
use native.Mathlib.Omega.{arith}
use borrow.Author.Tests.{eqb-true, not-true}
use lib.Dec.{eqb, ltb}
use lib.ListN.{length, take, drop, get_or, length-map, length-take, length-append, length-drop}
use lib.Seq.{slice, take-length, take-append_seam, length-take-le, get_or-take}
use Rattle.refusal.specs.Choice.{refuse}
use Rattle.refusal.specs.declared.Refusal.{Refusal}
use Rattle.refusal.specs.declared.Refusal.TheVariants.{Many, Port, Field}
use Rattle.rank.specs.declared.Candidate.{Candidate}
use Rattle.rank.specs.declared.Ranked.{Ranked}
use Rattle.rank.specs.Order.{earlier_of}
use Rattle.rank.specs.Best.{sink, insert}
use Rattle.rank.specs.Ranked.{receiver_of, all_valid, rank_of, blank_of, unpack, left_out, insert_of, insert_all}
use Rattle.rank.specs.Calls.{done_of, ranking_of}
use Rattle.rank.proofs.Best.{cases, insert_late, rank_step, rank_middle, rank_good}
use Rattle.rank.proofs.Order.{ordered}
use Rattle.rank.proofs.Merging.{R, both, defined, valid_sound}
use Rattle.candidate_words.specs.declared.places.Places.{Places}
use Rattle.candidate_words.specs.Fits.{run_fits, outcome_fitted}
use Rattle.candidate_words.specs.Runs.{run_of}
use Rattle.candidate_words.specs.Places.{candidate_of, list_of, checked_of, Fit, Inside}
use Rattle.candidate_words.proofs.RunLaws.{run_length, refused_stays}
use Rattle.candidate_words.proofs.PlaceLaws.{valid_row, fits_row}

-- a list whose used slots hold the ranked list of a collection
pub record Holds (r : Ranked) (s : List Candidate) : Type 0 where
  pub few : r.len ≤ 4
  pub size : length r.slots ≡ 4
  pub list : unpack r ≡ R s

module _ (r : Ranked) (s : List Candidate) (y : Candidate) (h : Holds r s) where
  abbrev inserted : List Candidate
  inserted = insert earlier_of receiver_of 4 y (unpack r)

  inserts : inserted ≡ R (y ∷ s)
  inserts = ap (insert earlier_of receiver_of 4 y) h.list ∙ sym (rank_step earlier_of receiver_of ordered 4 y s)

  short : length inserted ≤ 4
  short = omega (arith, length-take 4 (sink earlier_of receiver_of y.port y (unpack r)))

  unmoved : left_out r y ≡ true → unpack r ≡ R (y ∷ s)
  unmoved t =
      let b = both (eqb r.len 4) (not (earlier_of y (get_or r.slots 3 blank_of))) t in
      let n = eqb-true r.len 4 b.0 in
      let there : get_or r.slots 3 blank_of ≡ get_or (R s) 3 blank_of =
      sym (get_or-take r.len r.slots 3 blank_of (omega arith)) ∙ ap (λ (l : List Candidate). get_or l 3 blank_of) h.list in
      let late : earlier_of y (get_or (R s) 3 blank_of) ≡ false =
      ap (earlier_of y) (sym there) ∙ not-true (earlier_of y (get_or r.slots 3 blank_of)) b.1 in
      let full : length (R s) ≡ 4 =
      ap length (sym h.list) ∙ length-take-le r.len r.slots (omega (arith, h.size, h.few)) ∙ n in
      h.list
      ∙ sym (insert_late earlier_of receiver_of ordered 3 y blank_of (R s) (rank_good earlier_of receiver_of ordered 4 s) full late)
      ∙ sym (rank_step earlier_of receiver_of ordered 4 y s)

  holds_more : Holds (insert_of r y) (y ∷ s)
  holds_more =
      cases (left_out r y)
      (λ t. rw t (record { few = h.few; size = h.size; list = unmoved t }))
      (λ t.
      rw t
      (record {
        few = short;
        size = length-append inserted (drop (length inserted) r.slots) ∙ omega (arith, short, length-drop (length inserted) r.slots, h.size);
        list = take-append_seam inserted (drop (length inserted) r.slots) ∙ inserts;
      }))

-- inserting one after the other
pub holds_all : (l : List Candidate) (r : Ranked) (s : List Candidate) → Holds r s → unpack (insert_all r l) ≡ R (l ++ s)
holds_all [] r s h = h.list
holds_all (y ∷ ys) r s h = holds_all ys (insert_of r y) (y ∷ s) (holds_more r s y h) ∙ rank_middle earlier_of receiver_of ordered 4 ys y s

-- no places yet
pub holds_none : (run : List (List ℕ)) (p : Places) → p.len ≡ 0 → length p.at ≡ 4 → Holds (list_of run p) []
holds_none run p e k =
    record {
      few = omega arith;
      size = length-map p.at (candidate_of run) ∙ k;
      list = ap (λ (n : ℕ). take n (map (candidate_of run) p.at)) e;
    }

pub inside_none : (run : List (List ℕ)) (p : Places) → p.len ≡ 0 → length p.at ≡ 4 → Inside run p
inside_none run p e k = record { few = omega arith; size = k; each = λ i h. absurd (omega arith) }

-- where nothing is refused of a run, each of its candidates is read as it is, and it is ranked
pub record Passed (run : List (List ℕ)) : Type 0 where
  pub valid : all_valid (run_of run) ≡ true
  pub fits : run_fits run ≡ true
  pub ranking : ranking_of (run_of run) ≡ done_of (rank_of (run_of run))

never_done : (b : Bool) (x : Refusal) → outcome_fitted b (Err x) ≡ Ok tt → ⊥
never_done b x h =
    let e : ◌≡◌ {A = Result (Unit {0}) Refusal} (Err x) (Ok tt) = sym (refused_stays b x) ∙ h in let z : ◌≡◌ {A = ℕ} 0 1 = cc in omega arith

pub passed : (run : List (List ℕ)) → checked_of run ≡ Ok tt → Passed run
unfolding refuse
passed run h =
    cases (ltb 288 (length (run_of run)))
    (λ e. absurd (never_done (run_fits run) Many (simp e at h)))
    (λ e.
    cases (all_valid (run_of run))
    (λ v.
    cases (run_fits run)
    (λ f. record { valid = v; fits = f; ranking = simp (e, v) })
    (λ f. let k : ◌≡◌ {A = Result (Unit {0}) Refusal} (Err Field) (Ok tt) = simp (e, v, f) at h in absurd (let z : ◌≡◌ {A = ℕ} 0 1 = cc in omega arith)))
    (λ v. absurd (never_done (run_fits run) Port (simp (e, v) at h))))

pub fit_each : (run : List (List ℕ)) → Passed run → (i : ℕ) → i < length run → Fit run i
fit_each run h i k = record { inside = k; valid = valid_row run i k h.valid; fits = fits_row run i k h.fits }

-- filling places with all of a run gives its ranked list
slice_whole : (run : List (List ℕ)) → slice 0 (length run) (run_of run) ≡ run_of run
slice_whole run = ap (λ (n : ℕ). slice 0 n (run_of run)) (sym (run_length run)) ∙ take-length (run_of run)

pub filled : (run : List (List ℕ)) (p q : Places) → Passed run → p.len ≡ 0 → length p.at ≡ 4
    → list_of run q ≡ insert_all (list_of run p) (slice 0 (length run) (run_of run)) → unpack (list_of run q) ≡ rank_of (run_of run)
filled run p q h e k f =
    ap unpack f
    ∙ holds_all (slice 0 (length run) (run_of run)) (list_of run p) [] (holds_none run p e k)
    ∙ ap R (append-nil (slice 0 (length run) (run_of run)) ∙ slice_whole run)
    ∙ defined (run_of run) (valid_sound (run_of run) h.valid)
