-- The trace that a host gets is what the calls hand out: where recording answers that it closed a block, `out` has that block; else nothing came
-- out, and `out` is as it was.
use Rattle.std.specs.Prelude.{Result, Ok, Err}
use mathlib.Core.Path.{◌≡◌, refl}
use mathlib.Core.List.{List, []}
use mathlib.Core.Bool.{Bool, true, false}
use Prim.Native.Nat.{ℕ}
use native.Mathlib.Omega.{arith}
use Rattle.refusal.specs.Choice.{pick}
use Rattle.block.specs.Layout.{Entry}
use Rattle.block.specs.Making.{sealed}
use Rattle.recording.specs.Recording.{is_open, closes, record_check, told_by, told_of, out_by, out_with, answer_by, lent_by, recorded_of, out_after, finished}
use Rattle.traces.specs.Taped.{given_by}
use Rattle.refusal.specs.declared.Refusal.{Refusal}

module _ (opened out : List ℕ) where
  by_told : (b : Bool) → told_by b ≡ Ok true → pick b (sealed opened) [] ≡ out_by b opened out
  by_told true h = refl
  by_told false h = absurd (let z : ◌≡◌ {A = ℕ} 0 1 = cc in omega arith)

  by_kept : (b : Bool) → (told_by b ≡ Ok true → ⊥) → (pick b (sealed opened) [] ≡ []) × (out_by b opened out ≡ out)
  by_kept true h = absurd (h refl)
  by_kept false h = (refl, refl)

  module _ (ws : List ℕ) (e : Entry) where
    closed_by : (o : Result (Unit {0}) Refusal) → answer_by o (told_of ws e) ≡ Ok true → given_by o opened ws e ≡ lent_by o out (out_with opened ws e out)
    closed_by (Err x) h = absurd (let z : ◌≡◌ {A = ℕ} 0 1 = cc in omega arith)
    closed_by (Ok tt) h = by_told (closes ws e) h

    -- a block came out: `out` has it
    pub given_closed : recorded_of ws e ≡ Ok true → given_by (record_check ws e) opened ws e ≡ out_after opened ws e out
    given_closed h = closed_by (record_check ws e) h

    else_by : (o : Result (Unit {0}) Refusal) → (answer_by o (told_of ws e) ≡ Ok true → ⊥) → (given_by o opened ws e ≡ []) × (lent_by o out (out_with opened ws e out) ≡ out)
    else_by (Err x) h = (refl, refl)
    else_by (Ok tt) h = by_kept (closes ws e) h

    -- none did: `out` is as it was
    pub given_none : (recorded_of ws e ≡ Ok true → ⊥) → (given_by (record_check ws e) opened ws e ≡ []) × (out_after opened ws e out ≡ out)
    given_none h = else_by (record_check ws e) h

  -- at the end: the open block, where there is one
  pub given_last : (ws : List ℕ) → is_open ws ≡ true → pick (is_open ws) (sealed opened) [] ≡ finished opened ws out
  given_last ws h = rw h
