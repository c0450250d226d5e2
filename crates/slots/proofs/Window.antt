-- "qualified while its two latest receipts lie with T - older <= W": that is from T - W on.
use Prim.Native.Nat.{ℕ, zero, suc, ◌-◌}
use mathlib.Core.Path.{◌≡◌, refl, ap, sym, ◌∙◌}
use mathlib.Core.Bool.{Bool, true, false, not, ◌&&◌}
use mathlib.Core.List.{List}
use native.Mathlib.Omega.{arith}
use lib.Dec.{eqb, leb}
use borrow.Author.Tests.{le-leb, lt-leb, leb-true, leb-false}
use Rattle.refusal.specs.Choice.{pick}
use Rattle.senders.specs.declared.Record.{Record}
use Rattle.senders.specs.Record.{is_distant, is_qualified}
use Rattle.slots.specs.Words.{block, begin_of, record_of, ahead_in, outdoes_in}
use Rattle.slots.specs.Places.{place_among}

module _ (older w t : ℕ) where
  by_test : (b : Bool) → leb (t - older) w ≡ b → leb (t - older) w ≡ leb (t - w - older) 0
  by_test true e = e ∙ sym (le-leb (t - w - older) 0 (omega (arith, leb-true (t - older) w e)))
  by_test false e = e ∙ sym (lt-leb (t - w - older) 0 (omega (arith, leb-false (t - older) w e)))

  within : leb (t - older) w ≡ leb (t - w - older) 0
  within = by_test (leb (t - older) w) refl

-- so a record is qualified at t where it is at the begin of the window, by a window of no length
qualified_since : (w t : ℕ) (r : Record) → is_qualified w t r ≡ is_qualified 0 (t - w) r
qualified_since w t r = ap (λ (o : Bool). (leb 2 r.receipts && o) && not (is_distant r.notice)) (within r.older w t)

module _ (ws : List ℕ) (w t : ℕ) where
  outdoes_since : (a b : ℕ) → outdoes_in ws a b w t ≡ outdoes_in ws a b 0 (t - w)
  outdoes_since a b = ap (λ (q : Bool). q && pick (eqb b 0) true (ahead_in ws a b)) (qualified_since w t (record_of (block ws a 6)))

  -- the place of the best is that of the best from the begin of the window on
  pub place_since : (n : ℕ) → place_among ws w t n ≡ place_among ws 0 (t - w) n
  unfolding place_among
  place_since zero = refl
  place_since (suc n) =
      let a = begin_of (15 - n) in
      ap (λ (b : ℕ). pick (outdoes_in ws a b w t) a b) (place_since n)
      ∙ ap (λ (o : Bool). pick o a (place_among ws 0 (t - w) n)) (outdoes_since a (place_among ws 0 (t - w) n))
