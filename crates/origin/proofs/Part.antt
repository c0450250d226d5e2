-- Origin time's part: which message it is a part of, that it is empty exactly where the call refuses, and that a
-- Follow_Up makes no difference to a Sync without the two-step bit.
use Rattle.std.specs.Prelude.{Ok, Err}
use Prim.Native.Nat.{ℕ, ◌≤◌}
use mathlib.Core.Path.{◌≡◌, refl, ap, ◌∙◌}
use mathlib.Core.List.{List, []}
use mathlib.Core.Bool.{Bool, true, false}
use native.Mathlib.Omega.{arith}
use lib.ListN.{length, take, drop, length-take, length-drop}
use Rattle.refusal.specs.declared.Refusal.{Refusal}
use Rattle.origin.specs.Origin.{is_two_step, origin_check, stamp_part, origin_in}
use Rattle.origin.proofs.Laws.{sync_taken, follow_taken}

module _ (magic : ℕ) (s f : List ℕ) where
  -- "it is empty if refused"
  pub empty_if_refused : (x : Refusal) → origin_check magic s f ≡ Err x → origin_in magic s f ≡ []
  unfolding origin_in
  empty_if_refused x e = rw e

  -- octets 34 to 43 of the Follow_Up
  pub of_follow : origin_check magic s f ≡ Ok tt → is_two_step s ≡ true → origin_in magic s f ≡ take 10 (drop 34 f)
  unfolding origin_in
  of_follow e t = rw (e, t)

  -- octets 34 to 43 of the Sync
  pub of_sync : origin_check magic s f ≡ Ok tt → is_two_step s ≡ false → origin_in magic s f ≡ take 10 (drop 34 s)
  unfolding origin_in
  of_sync e t = rw (e, t)

  ten : (l : List ℕ) → 44 ≤ length l → length (stamp_part l) ≡ 10
  ten l h = simp (length-take, length-drop) (omega arith)

  -- ten octets where it is not refused
  pub ten_if_done : origin_check magic s f ≡ Ok tt → length (origin_in magic s f) ≡ 10
  ten_if_done e = by (is_two_step s) refl
    where
      by : (b : Bool) → is_two_step s ≡ b → length (origin_in magic s f) ≡ 10
      by true t = ap length (of_follow e t) ∙ ten f (follow_taken magic s f e t).0.fixed
      by false t = ap length (of_sync e t) ∙ ten s (sync_taken magic s f e).fixed

  -- so it is empty only if refused
  pub refused_if_empty : origin_in magic s f ≡ [] → origin_check magic s f ≡ Ok tt → ⊥
  refused_if_empty e d = omega (arith, ten_if_done d, ap length e)

-- "without it .. the Follow_Up is not looked at"
pub not_looked_at : (magic : ℕ) (s f g : List ℕ) → is_two_step s ≡ false → (origin_check magic s f ≡ origin_check magic s g) × (origin_in magic s f ≡ origin_in magic s g)
unfolding origin_check origin_in
not_looked_at magic s f g t = (rw t, rw t)
