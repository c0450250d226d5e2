-- What it says of a TLV that it has a form.
use Rattle.std.specs.Prelude.{Option, Some, None}
use Prim.Native.Nat.{ℕ, ◌+◌, ◌*◌, ◌/◌, ◌%◌, ◌<◌, ◌≤◌}
use mathlib.Core.Path.{◌≡◌, refl}
use mathlib.Core.List.{List}
use mathlib.Core.Bool.{Bool, true, false}
use native.Mathlib.Omega.{arith}
use borrow.Author.Tests.{eqb-true, eqb-false, leb-true, eq-eqb, ne_eqb}
use lib.Dec.{eqb}
use Rattle.laws.proofs.Bools.{both}
use Rattle.octets.specs.Be.{be}
use Rattle.octets.proofs.Laws.{be_split}
use Rattle.refusal.specs.Choice.{pick}
use Rattle.tlv.specs.Walk.{type_at, size_at}
use Rattle.tlv.specs.Form.{wr_form, HasForm, number_at, numbered, is_link, link_at}
use Rattle.tlv.specs.declared.form.Form.{Form}

pub record OfForm (f : Form) (t : List ℕ) (p : ℕ) : Type 0 where
  pub kind : type_at t p ≡ f.kind
  pub size : 8 ≤ size_at t p
  pub six : be 6 t (p + 4) ≡ f.six

pub of_form : (f : Form) (t : List ℕ) (p : ℕ) → HasForm f t p ≡ true → OfForm f t p
unfolding HasForm
of_form f t p e =
    let p2 = both _ _ e in
    let p1 = both _ _ p2.0 in
    record { kind = eqb-true _ _ p1.0; size = leb-true _ _ p1.1; six = eqb-true _ _ p2.1 }

-- a test that no TLV without a number passes, passed
pub of_number : (test : Option ℕ → Bool) → test None ≡ false → (magic : ℕ) (t : List ℕ) (p : ℕ) → test (numbered magic t p) ≡ true
    → OfForm (wr_form magic) t p
unfolding numbered
of_number test other magic t p e = of_form (wr_form magic) t p (by (HasForm (wr_form magic) t p) e)
  where
    by : (b : Bool) → test (pick b (Some (number_at t p)) None) ≡ true → b ≡ true
    by true h = refl
    by false h = absurd (let z : ◌≡◌ {A = ℕ} 0 1 = cc in omega arith)

pub link_form : (magic : ℕ) (t : List ℕ) (p : ℕ) → link_at magic t p ≡ true → OfForm (wr_form magic) t p
unfolding link_at
link_form magic t p e = of_number is_link refl magic t p e

-- six octets and a number, by the last two and the first four
module _ (t : List ℕ) (p six : ℕ) {y : ℕ} (small : y < 65536) (low : y ≡ be 2 t (p + 8)) where
  whole_six : be 6 t (p + 4) ≡ be 4 t (p + 4) * 65536 + y
  whole_six = let e : p + 4 + 4 ≡ p + 8 = omega arith in rw (be_split 4 2 t (p + 4), e, low)

  pub six_away : (y ≡ six % 65536 → ⊥) → eqb (be 6 t (p + 4)) six ≡ false
  six_away h = let w = whole_six in ne_eqb (be 6 t (p + 4)) six (λ e. h (omega arith))

  pub six_rest : {x : ℕ} → x ≡ be 4 t (p + 4) → y ≡ six % 65536 → eqb (be 6 t (p + 4)) six ≡ eqb x (six / 65536)
  six_rest {x} high h = by (eqb x (six / 65536)) refl
    where
      by : (b : Bool) → eqb x (six / 65536) ≡ b → eqb (be 6 t (p + 4)) six ≡ b
      by true e = let w = whole_six in let k = eqb-true x (six / 65536) e in eq-eqb (be 6 t (p + 4)) six (omega arith)
      by false e = let w = whole_six in let k = eqb-false x (six / 65536) e in ne_eqb (be 6 t (p + 4)) six (λ z. k (omega arith))
