-- What a Sync and a Follow_Up say that were taken.
use Rattle.std.specs.Prelude.{Ok}
use Prim.Native.Nat.{ℕ, ◌≤◌}
use mathlib.Core.Path.{◌≡◌, refl}
use mathlib.Core.List.{List}
use mathlib.Core.Bool.{Bool, true, false}
use native.Mathlib.Omega.{arith}
use borrow.Author.Tests.{not-false}
use lib.ListN.{length, length-take, length-drop}
use Rattle.refusal.proofs.Choice.{passed}
use Rattle.message.specs.Reading.{takes_of}
use Rattle.message.proofs.Laws.{no_refusal, both_done, Taken, taken}
use Rattle.origin.specs.Origin.{is_two_step, follows, follow_check, origin_check, Stamped, holder, stamp_part}

pub sync_taken : (magic : ℕ) (s f : List ℕ) → origin_check magic s f ≡ Ok tt → Taken magic 0x0 s
unfolding origin_check
sync_taken magic s f e = taken magic 0x0 s (both_done (takes_of magic 0x0 s) _ e).0

pub follow_taken : (magic : ℕ) (s f : List ℕ) → origin_check magic s f ≡ Ok tt → is_two_step s ≡ true → Taken magic 0x8 f × (follows s f ≡ true)
unfolding origin_check follow_check
follow_taken magic s f e t =
    let p = both_done (takes_of magic 0x0 s) _ e in
    let q = both_done (takes_of magic 0x8 f) _ (rw t at p.1) in
    (taken magic 0x8 f q.0, not-false _ (passed _ _ _ _ (no_refusal _) q.1).0)

-- so the messages that are looked at have their timestamps
pub origin_stamped : (magic : ℕ) (s f : List ℕ) → origin_check magic s f ≡ Ok tt → Stamped s f
origin_stamped magic s f e =
    record { own = (sync_taken magic s f e).fixed; other = λ t. (follow_taken magic s f e t).0.fixed }

-- and ten octets are handed back
pub ten_octets : (s f : List ℕ) → Stamped s f → 10 ≤ length (stamp_part (holder s f))
ten_octets s f h = by_bit (is_two_step s) refl
  where
    by_bit : (b : Bool) → is_two_step s ≡ b → 10 ≤ length (stamp_part (holder s f))
    by_bit true e = rw e (simp (length-take, length-drop) (omega (arith, h.other e)))
    by_bit false e = rw e (simp (length-take, length-drop) (omega (arith, h.own)))
