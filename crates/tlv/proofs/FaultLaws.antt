-- Laws of the faults of a tail: the first misfit so far along the walk, and what a sound tail is.
use Rattle.std.specs.Prelude.{Option, Some, None, Result, Ok, Err}
use Prim.Native.Nat.{ℕ, ◌<◌, ◌≤◌}
use mathlib.Core.Path.{◌≡◌, refl, sym}
use mathlib.Core.List.{List}
use mathlib.Core.Bool.{Bool, true, false, true≢false, false≢true}
use native.Mathlib.Omega.{arith}
use borrow.Author.Tests.{lt-ltb, ltb-false, ne_eqb, eqb-true}
use lib.Dec.{eqb, ltb}
use lib.ListN.{length}
use Rattle.refusal.specs.Choice.{pick}
use Rattle.tlv.specs.Walk.{size_at, next_of, broken, first, BreaksAt}
use Rattle.tlv.specs.Form.{numbered, misfit_by, misfit_at}
use Rattle.tlv.specs.Faults.{sought_at, whole, misfit, later_of, fault_of, is_sound, sound_of}
use Rattle.tlv.specs.declared.walk.Sought.{Sought}
use Rattle.tlv.specs.declared.walk.Fault.TheVariants.{Broken, Misfit}
use Rattle.tlv.proofs.WalkLaws.{walk_more, Found, first_found}
use Rattle.tlv.proofs.Reached.{first_inside, whole_breaks, bad_inside}
use Rattle.tlv.specs.declared.walk.Fault.{Fault}

-- the first place that passes a test, from what was found so far and what the walk finds from p on
abbrev pub first_so_far : (ℕ → Bool) → List ℕ → ℕ → ℕ → ℕ
first_so_far test t so_far p = pick (ltb so_far (length t)) so_far (first test t p)

-- it stays the same from TLV to TLV
pub carried : (test : ℕ → Bool) (t : List ℕ) (p q so_far : ℕ) → p < length t → next_of t p ≡ Some q
    → first_so_far test t (later_of (length t) so_far p (test p)) q ≡ first_so_far test t so_far p
carried test t p q so_far h m =
    rw (walk_more (length t) (λ (r : ℕ). length t) (λ (r s : ℕ). pick (test r) r s) t p q h m)
    (by (ltb so_far (length t)) (test p) refl refl)
  where
    by : (a b : Bool) → ltb so_far (length t) ≡ a → test p ≡ b
        → first_so_far test t (later_of (length t) so_far p (test p)) q
        ≡ pick (ltb so_far (length t)) so_far (pick (test p) p (first test t q))
    by true b ea eb = simp ea
    by false true ea eb = simp (ea, eb, lt-ltb p (length t) h)
    by false false ea eb = simp (ea, eb)

-- it stays inside the tail
pub later_inside : (n so_far p : ℕ) (passes : Bool) → so_far ≤ n → p < n → later_of n so_far p passes ≤ n
later_inside n so_far p passes h l = by (ltb so_far n) passes
  where
    by : (a b : Bool) → pick a so_far (pick b p so_far) ≤ n
    by true b = h
    by false true = omega arith
    by false false = h

-- and at the end it is what was found
pub settled : (so_far n : ℕ) → so_far ≤ n → so_far ≡ pick (ltb so_far n) so_far n
settled so_far n h = by (ltb so_far n) refl
  where
    by : (a : Bool) → ltb so_far n ≡ a → so_far ≡ pick a so_far n
    by true e = refl
    by false e = let k = ltb-false so_far n e in omega arith

-- the test of a TLV by its number and length
pub misfit_by_lem : (magic : ℕ) (t : List ℕ) (p : ℕ) {x : Option ℕ} {l : ℕ} {b : Bool} → x ≡ numbered magic t p → l ≡ size_at t p → b ≡ misfit_by x l
    → b ≡ misfit_at magic t p
unfolding misfit_at
misfit_by_lem magic t p ex el eb = rw (← ex, ← el) eb

no_place : {p : ℕ} → ◌≡◌ {A = Option ℕ} None (Some p) → ⊥
no_place e = let z : ◌≡◌ {A = ℕ} 0 1 = cc in omega arith

no_misfit : {p : ℕ} → ◌≡◌ {A = Result (Unit {0}) Fault} (Err (Misfit p)) (Ok tt) → ⊥
no_misfit e = let z : ◌≡◌ {A = ℕ} 0 1 = cc in omega arith

no_break : {p : ℕ} → ◌≡◌ {A = Result (Unit {0}) Fault} (Err (Broken p)) (Ok tt) → ⊥
no_break e = let z : ◌≡◌ {A = ℕ} 0 1 = cc in omega arith

apart : {p q : ℕ} → ◌≡◌ {A = Result (Unit {0}) Fault} (Err (Misfit p)) (Err (Broken q)) → ⊥
apart e = let z : ◌≡◌ {A = ℕ} 0 1 = cc in omega arith

-- a place that was found is that of a whole TLV, which is what was looked for
pub place_found : (what : Sought) (t : List ℕ) {p : ℕ} → p ≡ first (sought_at what t) t 0 → p < length t → Found (sought_at what t) t p
place_found what t {p} e h = rw e (first_found (sought_at what t) t 0 (omega arith) (rw e at h))

-- a place before the end is not the end
pub lt_eqb : (a b : ℕ) → a < b → eqb a b ≡ false
lt_eqb a b h = ne_eqb a b (λ e. omega arith)

-- a tail in which nothing is wrong has no fault; any other has one
module _ (magic : ℕ) (t : List ℕ) where
  pub is_sound_check : is_sound magic t ≡ true → fault_of magic t ≡ Ok tt
  unfolding is_sound fault_of
  is_sound_check = by (whole t) (eqb (misfit magic t 0) (length t)) refl refl
    where
      by : (a b : Bool) → whole t ≡ a → eqb (misfit magic t 0) (length t) ≡ b → is_sound magic t ≡ true → fault_of magic t ≡ Ok tt
      by true true ea eb e = rw (ea, eb)
      by true false ea eb e = absurd (false≢true (rw (ea, eb) at e))
      by false b ea eb e = absurd (false≢true (rw ea at e))

  pub unsound_check : is_sound magic t ≡ false → fault_of magic t ≡ Ok tt → ⊥
  unfolding is_sound fault_of
  unsound_check = by (whole t) (eqb (misfit magic t 0) (length t)) refl refl
    where
      by : (a b : Bool) → whole t ≡ a → eqb (misfit magic t 0) (length t) ≡ b → is_sound magic t ≡ false → fault_of magic t ≡ Ok tt → ⊥
      by true true ea eb e d = true≢false (rw (ea, eb) at e)
      by true false ea eb e d = no_misfit (rw (ea, eb) at d)
      by false b ea eb e d = no_break (rw ea at d)

  -- a tail without a fault is whole
  pub sound_whole : fault_of magic t ≡ Ok tt → whole t ≡ true
  unfolding fault_of
  sound_whole = by (whole t) refl
    where
      by : (a : Bool) → whole t ≡ a → fault_of magic t ≡ Ok tt → whole t ≡ true
      by true ea e = ea
      by false ea e = absurd (no_break (rw ea at e))

  -- and nothing in it misfits
  pub sound_fits : fault_of magic t ≡ Ok tt → misfit magic t 0 ≡ length t
  unfolding fault_of
  sound_fits = by (whole t) (eqb (misfit magic t 0) (length t)) refl refl
    where
      by : (a b : Bool) → whole t ≡ a → eqb (misfit magic t 0) (length t) ≡ b → fault_of magic t ≡ Ok tt → misfit magic t 0 ≡ length t
      by true true ea eb e = eqb-true _ _ eb
      by true false ea eb e = absurd (no_misfit (rw (ea, eb) at e))
      by false b ea eb e = absurd (no_break (rw ea at e))

-- and the place told is that of the first TLV that passes the test
module _ (magic : ℕ) (test : ℕ → Bool) (t : List ℕ) where
  pub sound_check : {p : ℕ} → sound_of magic test t ≡ Some p → (fault_of magic t ≡ Ok tt) × (p ≡ first test t 0)
  unfolding sound_of fault_of
  sound_check {p} = by (whole t) (eqb (misfit magic t 0) (length t)) refl refl
    where
      by : (a b : Bool) → whole t ≡ a → eqb (misfit magic t 0) (length t) ≡ b
          → sound_of magic test t ≡ Some p → (fault_of magic t ≡ Ok tt) × (p ≡ first test t 0)
      by true true ea eb e = (rw (ea, eb), let k : ◌≡◌ {A = Option ℕ} (Some (first test t 0)) (Some p) = rw (ea, eb) at e in cc)
      by true false ea eb e = absurd (no_place (rw (ea, eb) at e))
      by false b ea eb e = absurd (no_place (rw ea at e))

  pub faulty_check : sound_of magic test t ≡ None → fault_of magic t ≡ Ok tt → ⊥
  unfolding sound_of fault_of
  faulty_check = by (whole t) (eqb (misfit magic t 0) (length t)) refl refl
    where
      by : (a b : Bool) → whole t ≡ a → eqb (misfit magic t 0) (length t) ≡ b → sound_of magic test t ≡ None → fault_of magic t ≡ Ok tt → ⊥
      by true true ea eb e d = no_place (sym (rw (ea, eb) at e))
      by true false ea eb e d = no_misfit (rw (ea, eb) at d)
      by false b ea eb e d = no_break (rw ea at d)

-- a fault stands inside the tail
module _ (magic : ℕ) (t : List ℕ) {p : ℕ} where
  -- it breaks off where it is told
  pub broken_breaks : fault_of magic t ≡ Err (Broken p) → BreaksAt t p
  unfolding fault_of
  broken_breaks = by (whole t) (eqb (misfit magic t 0) (length t)) refl refl
    where
      by : (a b : Bool) → whole t ≡ a → eqb (misfit magic t 0) (length t) ≡ b → fault_of magic t ≡ Err (Broken p) → BreaksAt t p
      by true true ea eb e = absurd (no_break (sym (rw (ea, eb) at e)))
      by true false ea eb e = absurd (apart (rw (ea, eb) at e))
      by false b ea eb e = let k : ◌≡◌ {A = Result (Unit {0}) Fault} (Err (Broken (broken t 0))) (Err (Broken p)) = rw ea at e in let q : broken t 0 ≡ p = cc in rw q at (whole_breaks t ea)

  pub break_inside : fault_of magic t ≡ Err (Broken p) → p < length t
  break_inside e = bad_inside t (broken_breaks e).bad

  pub misfit_inside : fault_of magic t ≡ Err (Misfit p) → p ≤ length t
  unfolding fault_of
  misfit_inside = by (whole t) (eqb (misfit magic t 0) (length t)) refl refl
    where
      by : (a b : Bool) → whole t ≡ a → eqb (misfit magic t 0) (length t) ≡ b → fault_of magic t ≡ Err (Misfit p) → p ≤ length t
      by true true ea eb e = absurd (no_misfit (sym (rw (ea, eb) at e)))
      by true false ea eb e =
          let k : ◌≡◌ {A = Result (Unit {0}) Fault} (Err (Misfit (misfit magic t 0))) (Err (Misfit p)) = rw (ea, eb) at e in
          let q : misfit magic t 0 ≡ p = cc in
          rw q at (first_inside (misfit_at magic t) t)
      by false b ea eb e = absurd (apart (sym (rw ea at e)))
