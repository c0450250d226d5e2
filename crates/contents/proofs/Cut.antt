-- WHAT STANDS BEFORE THE PLACE OF A 6 IS SOUND: the same octets with messageLength set to that place are not refused with 6 again, nor
-- with any other number but 7, for a known message of a wrong size that stands before it.
use Rattle.std.specs.Prelude.{Result, Ok, Err}
use Prim.Native.Nat.{ℕ, suc, ◌+◌, ◌-◌, ◌≤◌}
use mathlib.Core.Path.{◌≡◌, refl, sym, ap, ◌∙◌}
use mathlib.Core.List.{List}
use mathlib.Core.Bool.{Bool, true, false}
use native.Mathlib.Omega.{arith}
use borrow.Author.Tests.{ltb-false, eqb-true, eqb-false, not-false}
use lib.Dec.{eqb}
use lib.ListN.{length, take, drop, length-take, length-drop}
use lib.Seq.{take-take, drop-drop}
use Rattle.octets.specs.Be.{be}
use Rattle.octets.proofs.Laws.{be_drop}
use Rattle.refusal.specs.Refusal.{number_of}
use Rattle.refusal.proofs.Choice.{passed}
use Rattle.refusal.specs.declared.Refusal.{Refusal}
use Rattle.refusal.specs.declared.Refusal.TheVariants.{Short, Version, «Type», Length, Stamp, Tlv}
use Rattle.tlv.specs.Walk.{BreaksAt}
use Rattle.tlv.specs.Faults.{whole, misfit, fault_of}
use Rattle.tlv.specs.declared.walk.Fault.{Fault}
use Rattle.tlv.specs.declared.walk.Fault.TheVariants.{Broken, Misfit}
use Rattle.tlv.proofs.FaultLaws.{broken_breaks}
use Rattle.tlv.proofs.Reached.{reached_inside, whole_cut}
use Rattle.message.specs.Fields.{type_of, length_of, fixed_size, tail_of}
use Rattle.message.specs.Reading.{fault_check, check_of}
use Rattle.contents.specs.Tlvs.{with_length}
use Rattle.message.specs.When.{IsStamped}
use Rattle.message.proofs.Laws.{size_least, no_refusal}
use Rattle.message.proofs.Exactly.{stamped}

-- the number of a refusal, 0 where nothing is refused
abbrev number_in : Result (Unit {0}) Refusal → ℕ
number_in (Ok tt) = 0
number_in (Err x) = number_of x

other : {x : Refusal} {p : ℕ} → (number_of x ≡ 6 → ⊥) → ◌≡◌ {A = Result (Unit {0}) Refusal} (Err x) (Err (Tlv p)) → ⊥
other h e = h (ap number_in e)

-- a 6 comes from the tail, and its place is where that breaks off
six : (size p : ℕ) (x : Result (Unit {0}) Fault) → fault_check size x ≡ Err (Tlv p) → (k : ℕ) × (x ≡ Err (Broken k)) × (size + k ≡ p)
six size p (Ok tt) e = absurd (let z = ap number_in e in omega arith)
six size p (Err (Broken k)) e = (k, refl, cc)
six size p (Err (Misfit k)) e = absurd (let z = ap number_in e in omega arith)

module _ (magic : ℕ) (s : List ℕ) {p : ℕ} (e : check_of magic s ≡ Err (Tlv p)) where
  is_stamped : IsStamped s × (fault_check (fixed_size (type_of s)) (fault_of magic (tail_of s)) ≡ Err (Tlv p))
  unfolding check_of
  is_stamped =
      let p1 = passed (Err Short) _ _ _ (other (λ z. omega arith)) e in
      let p2 = passed (Err Version) _ _ _ (other (λ z. omega arith)) p1.1 in
      let p3 = passed (Err «Type») _ _ _ (other (λ z. omega arith)) p2.1 in
      let p4 = passed (Err Length) _ _ _ (other (λ z. omega arith)) p3.1 in
      let p5 = passed (Err Short) _ _ _ (other (λ z. omega arith)) p4.1 in
      let p6 = passed (Err Stamp) _ _ _ (other (λ z. omega arith)) p5.1 in
      (((((((ltb-false _ _ p1.0, eqb-true _ _ (not-false _ p2.0)), eqb-false _ _ p3.0), ltb-false _ _ p4.0), ltb-false _ _ p5.0), p6.0), p6.1))

  abbrev size : ℕ
  size = fixed_size (type_of s)

  abbrev cut : List ℕ
  cut = with_length p s

  -- where the walk breaks off
  at : (k : ℕ) × (fault_of magic (tail_of s) ≡ Err (Broken k)) × (size + k ≡ p)
  at = six size p (fault_of magic (tail_of s)) is_stamped.1

  breaks : BreaksAt (tail_of s) at.0
  breaks = broken_breaks magic (tail_of s) at.1

  -- the octets behind the length are the same
  drop_same : (j : ℕ) → drop (suc (suc (suc (suc j)))) cut ≡ drop (4 + j) s
  drop_same j = drop-drop j 4 s

  cut_length : length_of cut ≡ p
  unfolding be
  cut_length = omega arith

  cut_lent : length cut ≡ length s
  cut_lent = let h = is_stamped.0.0.0.0.0.0 in simp length-drop (omega (arith, h))

  cut_stamp : be 4 cut 40 ≡ be 4 s 40
  cut_stamp = sym (be_drop 4 4 cut 36) ∙ be_drop 4 4 s 36

  drop_size : drop size cut ≡ drop size s
  drop_size =
      let h = size_least (type_of s) is_stamped.0.0.0.0.1 in
      let l : size ≡ suc (suc (suc (suc (size - 4)))) = omega arith in
      let r : 4 + (size - 4) ≡ size = omega arith in
      ap (λ (k : ℕ). drop k cut) l ∙ drop_same (size - 4) ∙ ap (λ (k : ℕ). drop k s) r

  -- it breaks off before messageLength
  before : at.0 ≤ length_of s - size
  before = let i = simp length-take at (reached_inside (tail_of s) breaks.reached) in omega arith

  -- so the tail is cut at the place
  cut_tail : tail_of cut ≡ take at.0 (tail_of s)
  cut_tail =
      let n : length_of cut - size ≡ at.0 = let q = at.2 in let l = cut_length in omega arith in
      (λ i. take (n i) (drop_size i)) ∙ sym (take-take at.0 (length_of s - size) (drop size s) before)

  cut_stamped : IsStamped cut
  cut_stamped =
      let z = is_stamped.0 in
      let lent : p ≤ length s = omega (arith, before, at.2, z.0.1, z.0.0.1) in
      let least : size ≤ p = omega (arith, at.2) in
      (((((rw cut_lent z.0.0.0.0.0, z.0.0.0.0.1), z.0.0.0.1), rw cut_length least), rw (cut_length, cut_lent) lent), rw cut_stamp z.1)

  -- the tail that is left is whole, so nothing is left to refuse but a misfit
  seven : {x : Refusal} → fault_check size (fault_of magic (tail_of cut)) ≡ Err x → number_of x ≡ 7
  unfolding fault_of
  seven {x} f = by (eqb (misfit magic (tail_of cut) 0) (length (tail_of cut))) refl
    where
      is_whole : whole (tail_of cut) ≡ true
      is_whole = rw cut_tail (whole_cut (tail_of s) at.0 (reached_inside (tail_of s) breaks.reached) breaks.reached)

      by : (b : Bool) → eqb (misfit magic (tail_of cut) 0) (length (tail_of cut)) ≡ b → number_of x ≡ 7
      by true t = absurd (no_refusal x (sym (rw (is_whole, t) at f)))
      by false t = sym (ap number_in (rw (is_whole, t) at f))

  pub cut_at_six : {x : Refusal} → check_of magic cut ≡ Err x → number_of x ≡ 7
  cut_at_six f = seven (sym (stamped magic cut cut_stamped) ∙ f)
