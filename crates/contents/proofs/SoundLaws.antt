-- The lengths that a reader is told which hopes that nothing is wrong, and what the checks say where there are none.
use Rattle.std.specs.Prelude.{Option, Some, None, Result, Ok, Err}
use Rattle.std.specs.Result.{result_ok}
use Prim.Native.Nat.{ℕ}
use mathlib.Core.Path.{◌≡◌, refl, sym, ap, ◌∙◌}
use mathlib.Core.List.{List}
use native.Mathlib.Omega.{arith}
use Rattle.message.specs.Reading.{bounds_at, head_of, check_of, by}
use Rattle.message.specs.When.{IsStamped}
use Rattle.message.specs.declared.reading.Bounds.{Bounds}
use Rattle.message.proofs.Laws.{accepted, head_passed, headed_passed, headed_refused}
use Rattle.contents.specs.Parts.{lookup_of}
use Rattle.contents.specs.Sound.{fixed_bounds, sound_bounds}
use Rattle.refusal.specs.declared.Refusal.{Refusal}

no_bounds : {b : Bounds} → ◌≡◌ {A = Option Bounds} None (Some b) → ⊥
no_bounds e = let z : ◌≡◌ {A = ℕ} 0 1 = cc in omega arith

module _ (s : List ℕ) where
  -- lengths are told of the octets that pass the checks before the tail's, and of no other
  pub fixed_by_head : result_ok (head_of s) ≡ fixed_bounds s
  unfolding fixed_bounds
  fixed_by_head = cases (head_of s) refl
    where
      cases : (o : Result Bounds Refusal) → head_of s ≡ o → result_ok o ≡ fixed_bounds s
      cases (Ok b) e = let t = head_passed s e in ap Some t.1 ∙ sym (headed_passed s (λ x. None) _ t.0)
      cases (Err x) e = sym (headed_refused s (λ x. None) _ e)

  pub told_bounds : {b : Bounds} → fixed_bounds s ≡ Some b → IsStamped s × (b ≡ bounds_at s)
  told_bounds {b} e = cases (head_of s) refl
    where
      cases : (o : Result Bounds Refusal) → head_of s ≡ o → IsStamped s × (b ≡ bounds_at s)
      cases (Ok n) h =
          let k : ◌≡◌ {A = Option Bounds} (Some n) (Some b) = rw h at (fixed_by_head ∙ e) in
          let n-is : n ≡ b = cc in
          rw n-is at (head_passed s h)
      cases (Err x) h = absurd (no_bounds (rw h at (fixed_by_head ∙ e)))

  -- octets that the checks accept pass those before the tail's
  pub accepted_stamped : (magic : ℕ) → check_of magic s ≡ Ok tt → IsStamped s
  accepted_stamped magic d =
      let a = accepted magic s d in (((((a.header, a.version), a.listed), a.least), a.lent), a.stamp)

  -- where no lengths are told, the message is refused
  pub no_bounds_lem : (magic : ℕ) → fixed_bounds s ≡ None → check_of magic s ≡ Ok tt → ⊥
  unfolding fixed_bounds
  no_bounds_lem magic e d = no_bounds (sym e ∙ headed_passed s (λ x. None) _ (accepted_stamped magic d))

  pub sound_none : (magic : ℕ) → (check_of magic s ≡ Ok tt → ⊥) → None ≡ sound_bounds magic s
  unfolding sound_bounds
  sound_none magic h = cases (check_of magic s) refl
    where
      cases : (o : Result (Unit {0}) Refusal) → check_of magic s ≡ o → None ≡ sound_bounds magic s
      cases (Ok tt) e = absurd (h e)
      cases (Err x) e = rw e

  -- a message that the checks refuse is not looked at
  pub not_looked_up : (magic kind : ℕ) {x : Refusal} → check_of magic s ≡ Err x → Err x ≡ lookup_of magic kind s
  unfolding lookup_of
  not_looked_up magic kind e = rw e

  -- the lengths of a message in which nothing is wrong are told, and of no other
  pub whole_bounds : (magic : ℕ) {b : Bounds} → sound_bounds magic s ≡ Some b → (check_of magic s ≡ Ok tt) × (b ≡ bounds_at s)
  unfolding sound_bounds
  whole_bounds magic {b} t = cases (check_of magic s) refl
    where
      cases : (o : Result (Unit {0}) Refusal) → check_of magic s ≡ o → (check_of magic s ≡ Ok tt) × (b ≡ bounds_at s)
      cases (Ok tt) e = (e, let k : ◌≡◌ {A = Option Bounds} (Some (bounds_at s)) (Some b) = rw e at t in cc)
      cases (Err x) e = absurd (no_bounds (rw e at t))

  pub refused_bounds : (magic : ℕ) → sound_bounds magic s ≡ None → check_of magic s ≡ Ok tt → ⊥
  unfolding sound_bounds
  refused_bounds magic t d = no_bounds (sym (rw d at t))
