-- A tail of one TLV in White Rabbit form: the walk takes one step, and finds it.
use Rattle.std.specs.Prelude.{Some, Ok}
use Prim.Native.Nat.{ℕ, ◌+◌, ◌%◌, ◌^◌, ◌<◌, ◌≤◌}
use mathlib.Core.Path.{◌≡◌, refl, ap, ◌∙◌}
use mathlib.Core.List.{List, []}
use mathlib.Core.Bool.{Bool, true, false}
use native.Mathlib.Omega.{arith}
use borrow.Author.Tests.{eq-eqb, le-leb}
use lib.ListN.{length}
use Rattle.refusal.specs.Choice.{pick}
use Rattle.octets.specs.Be.{be}
use Rattle.octets.proofs.Laws.{be_octets}
use Rattle.tlv.specs.Walk.{next_of, size_at, broken, walk, first}
use Rattle.tlv.specs.Form.{wr_form, HasForm, number_at, data_octets, is_misfit, numbered, misfit_at, is_suffix, suffix_at, is_link, link_at}
use Rattle.tlv.specs.Faults.{fault_of}
use Rattle.tlv.proofs.WalkLaws.{next_is, walk_end, walk_more}
use Rattle.wr_tlvs.specs.Built.{wr_octets}

module _ (magic number n : ℕ) (content : List ℕ) (hm : magic < 256 ^ 2) (hn : number < 256 ^ 2)
    (count : length content ≡ n) (even : n % 2 ≡ 0) (most : n ≤ 16) where
  abbrev t : List ℕ
  t = wr_octets magic number n content

  one_length : length t ≡ 12 + n
  unfolding wr_octets
  one_length = omega (arith, count)

  one_size : size_at t 0 ≡ 8 + n
  unfolding wr_octets be
  one_size = be_octets 2 (8 + n) [] (omega arith)

  pub one_number : number_at t 0 ≡ number
  unfolding wr_octets be
  one_number = be_octets 2 number [] hn

  one_type : be 2 t 0 ≡ 3
  unfolding wr_octets be
  one_type = refl

  one_form : be 6 t 4 ≡ (wr_form magic).six
  unfolding wr_octets be
  one_form = be_octets 6 (wr_form magic).six [] (omega arith)

  numbered_is : numbered magic t 0 ≡ Some number
  unfolding numbered HasForm
  numbered_is =
      rw (one_type, one_size, le-leb 8 (8 + n) (omega arith), one_form, eq-eqb (wr_form magic).six (wr_form magic).six refl, one_number)

  next_at : next_of t 0 ≡ Some (length t)
  next_at =
      let e : 0 + 4 + size_at t 0 ≡ length t = omega (arith, one_size, one_length) in
      let o : size_at t 0 % 2 ≡ 0 = rw one_size (omega arith) in
      next_is t 0 (omega (arith, one_length)) o (omega (arith, e)) ∙ ap Some e

  one_step : {A : Type 0} (end : A) (bad : ℕ → A) (cons : ℕ → A → A) → walk end bad cons t 0 ≡ cons 0 end
  one_step end bad cons =
      walk_more end bad cons t 0 (length t) (omega (arith, one_length)) next_at ∙ ap (cons 0) (walk_end end bad cons t)

  found : (test : ℕ → Bool) → first test t 0 ≡ pick (test 0) 0 (length t)
  found test = one_step (length t) (λ (q : ℕ). length t) (λ (q r : ℕ). pick (test q) q r)

  whole_one : broken t 0 ≡ length t
  whole_one = one_step (length t) (λ (q : ℕ). q) (λ (q r : ℕ). r)

  -- no fault, where L is right
  pub one_sound : is_misfit (data_octets number) (8 + n) ≡ false → fault_of magic t ≡ Ok tt
  unfolding fault_of misfit_at
  one_sound e =
      let m : misfit_at magic t 0 ≡ false = rw (numbered_is, one_size) e in
      rw (whole_one, found (misfit_at magic t), m, eq-eqb (length t) (length t) refl)

  -- it is the first suffix, or the first link message
  pub suffix_first : is_suffix (Some number) ≡ true → first (suffix_at magic t) t 0 ≡ 0
  unfolding suffix_at
  suffix_first e = let s : suffix_at magic t 0 ≡ true = rw numbered_is e in rw (found (suffix_at magic t), s)

  pub link_first : is_link (Some number) ≡ true → first (link_at magic t) t 0 ≡ 0
  unfolding link_at
  link_first e = let s : link_at magic t 0 ≡ true = rw numbered_is e in rw (found (link_at magic t), s)

  pub one_long : 0 < length t
  one_long = omega (arith, one_length)
