-- The limits of words tell what `is_whole` says: a number that is read out of its word and put back is the word where the word is below the limit.
use Prim.Native.Nat.{ℕ, zero, suc, ◌+◌, ◌-◌, ◌%◌, ◌<◌, ◌≤◌}
use mathlib.Core.Path.{◌≡◌, refl, sym, ◌∙◌, ap}
use mathlib.Core.Bool.{Bool, true, false, ◌&&◌, ◌||◌, and_assoc, and-true}
use mathlib.Core.List.{List, ◌∷◌}
use native.Mathlib.Omega.{arith}
use lib.Dec.{eqb, leb, ltb}
use lib.ListN.{length, get_or, drop, drop_of_length-le}
use lib.Seq.{drop-cons}
use lib.IntN.{negsuc}
use mir.Syntax.{w8, w64}
use mir.Val.{of_z, to_z}
use mir.ValLaws.{of_z-to_z}
use borrow.Author.Tests.{eq-eqb, ne_eqb, lt-leb, ltb-true, ltb-false, leb-true, leb-false}
use Rattle.words.proofs.Spread.{spread}
use Rattle.message_words.specs.Words.{body_words, message_words, header_of, announce_of, body_of, words_for, is_whole}
use Rattle.message_words.specs.Fits.{signed8_fits, signed16_fits, signed64_fits, header_fits, stamp_fits, announce_fits}

octet_by_lem : (x : ℕ) (t : Bool) → ltb x 256 ≡ t → eqb (x % 256) x ≡ t
octet_by_lem x true e = let h : x < 256 = ltb-true _ _ e in eq-eqb (x % 256) x (omega arith)
octet_by_lem x false e = let h : 256 ≤ x = ltb-false _ _ e in ne_eqb (x % 256) x (λ k. omega arith)

two_by : (x : ℕ) (t : Bool) → ltb x 65536 ≡ t → eqb (x % 65536) x ≡ t
two_by x true e = let h : x < 65536 = ltb-true _ _ e in eq-eqb (x % 65536) x (omega arith)
two_by x false e = let h : 65536 ≤ x = ltb-false _ _ e in ne_eqb (x % 65536) x (λ k. omega arith)

four_by : (x : ℕ) (t : Bool) → ltb x 0x100000000 ≡ t → eqb (x % 0x100000000) x ≡ t
four_by x true e = let h : x < 0x100000000 = ltb-true _ _ e in eq-eqb (x % 0x100000000) x (omega arith)
four_by x false e = let h : 0x100000000 ≤ x = ltb-false _ _ e in ne_eqb (x % 0x100000000) x (λ k. omega arith)

octet : (x : ℕ) → eqb (x % 256) x ≡ ltb x 256
octet x = octet_by_lem x (ltb x 256) refl

two : (x : ℕ) → eqb (x % 65536) x ≡ ltb x 65536
two x = two_by x (ltb x 65536) refl

four : (x : ℕ) → eqb (x % 0x100000000) x ≡ ltb x 0x100000000
four x = four_by x (ltb x 0x100000000) refl

self : (x : ℕ) → eqb x x ≡ true
self x = eq-eqb x x refl

-- a word is a signed number: by the sign of its low octets, and by the two ends
module _ (x : ℕ) (h : x < 0x10000000000000000) where
  high8 : (v : Bool) → leb 0xffffffffffffff80 x ≡ v → 128 ≤ x % 256 → v ≡ eqb (0xffffffffffffff00 + x % 256) x
  high8 true e k = let l : 0xffffffffffffff80 ≤ x = leb-true _ _ e in sym (eq-eqb (0xffffffffffffff00 + x % 256) x (omega arith))
  high8 false e k = let l : x < 0xffffffffffffff80 = leb-false _ _ e in sym (ne_eqb (0xffffffffffffff00 + x % 256) x (λ z. omega arith))

  by8 : (t u : Bool) → ltb (x % 256) 128 ≡ t → ltb x 128 ≡ u → (ltb x 128 || leb 0xffffffffffffff80 x) ≡ signed8_fits x
  by8 true true p q =
      let a : x % 256 < 128 = ltb-true _ _ p in
      let b : x < 128 = ltb-true _ _ q in
      rw (p, q) (sym (eq-eqb (x % 256) x (omega arith)))
  by8 true false p q =
      let a : x % 256 < 128 = ltb-true _ _ p in
      let b : 128 ≤ x = ltb-false _ _ q in
      let k : x < 0xffffffffffffff80 = omega arith in
      rw (p, q, lt-leb _ _ k) (sym (ne_eqb (x % 256) x (λ z. omega arith)))
  by8 false true p q =
      let a : 128 ≤ x % 256 = ltb-false _ _ p in
      let b : x < 128 = ltb-true _ _ q in
      absurd (omega arith)
  by8 false false p q =
      let a : 128 ≤ x % 256 = ltb-false _ _ p in
      let e : 0xffffffffffffff00 + x % 256 ≡ of_z w64 (negsuc (256 - suc (x % 256))) = omega arith in
      rw (p, q) (high8 _ refl a ∙ ap (λ (n : ℕ). eqb n x) e)

  pub signed8 : (ltb x 128 || leb 0xffffffffffffff80 x) ≡ signed8_fits x
  signed8 = by8 _ _ refl refl

  high16 : (v : Bool) → leb 0xffffffffffff8000 x ≡ v → 32768 ≤ x % 65536 → v ≡ eqb (0xffffffffffff0000 + x % 65536) x
  high16 true e k = let l : 0xffffffffffff8000 ≤ x = leb-true _ _ e in sym (eq-eqb (0xffffffffffff0000 + x % 65536) x (omega arith))
  high16 false e k = let l : x < 0xffffffffffff8000 = leb-false _ _ e in sym (ne_eqb (0xffffffffffff0000 + x % 65536) x (λ z. omega arith))

  by16 : (t u : Bool) → ltb (x % 65536) 32768 ≡ t → ltb x 32768 ≡ u → (ltb x 32768 || leb 0xffffffffffff8000 x) ≡ signed16_fits x
  by16 true true p q =
      let a : x % 65536 < 32768 = ltb-true _ _ p in
      let b : x < 32768 = ltb-true _ _ q in
      rw (p, q) (sym (eq-eqb (x % 65536) x (omega arith)))
  by16 true false p q =
      let a : x % 65536 < 32768 = ltb-true _ _ p in
      let b : 32768 ≤ x = ltb-false _ _ q in
      let k : x < 0xffffffffffff8000 = omega arith in
      rw (p, q, lt-leb _ _ k) (sym (ne_eqb (x % 65536) x (λ z. omega arith)))
  by16 false true p q =
      let a : 32768 ≤ x % 65536 = ltb-false _ _ p in
      let b : x < 32768 = ltb-true _ _ q in
      absurd (omega arith)
  by16 false false p q =
      let a : 32768 ≤ x % 65536 = ltb-false _ _ p in
      let e : 0xffffffffffff0000 + x % 65536 ≡ of_z w64 (negsuc (65536 - suc (x % 65536))) = omega arith in
      rw (p, q) (high16 _ refl a ∙ ap (λ (n : ℕ). eqb n x) e)

  pub signed16 : (ltb x 32768 || leb 0xffffffffffff8000 x) ≡ signed16_fits x
  signed16 = by16 _ _ refl refl

  -- of eight octets: every word
  pub signed64 : true ≡ signed64_fits x
  signed64 = sym (eq-eqb _ _ (of_z-to_z w64 x (record { fits = h })))

-- the words of a list one by one are the list
one_by_one : (n k : ℕ) (w : List ℕ) → k + n ≡ length w → spread n k w ≡ drop k w
one_by_one zero k w e = sym (drop_of_length-le w {i = k} (omega arith))
one_by_one (suc n) k w e = ap (λ (l : List ℕ). get_or w k 0 ∷ l) (one_by_one n (suc k) w (omega arith)) ∙ sym (drop-cons w k 0 (omega arith))

module _ (w : List ℕ) (n : length w ≡ 20) where
  -- the words with their type written out
  of : ℕ → List ℕ
  of k = k ∷ spread 19 1 w

  is_of_lem : (k : ℕ) → get_or w 0 0 ≡ k → of k ≡ w
  unfolding of
  is_of_lem k e = (λ i. sym e i ∷ spread 19 1 w) ∙ one_by_one 20 0 w (sym n)

  -- the words of a header, before those of a body
  header : {a b : Bool} → a ≡ b
      → (eqb (get_or w 1 0 % 256) (get_or w 1 0)
      && (eqb (get_or w 2 0 % 256) (get_or w 2 0)
      && (eqb (get_or w 3 0 % 65536) (get_or w 3 0)
      && (eqb (of_z w64 (to_z w64 (get_or w 4 0))) (get_or w 4 0)
      && (eqb (get_or w 5 0) (get_or w 5 0)
      && (eqb (get_or w 6 0 % 65536) (get_or w 6 0)
      && (eqb (get_or w 7 0 % 65536) (get_or w 7 0)
      && (eqb (of_z w64 (to_z w8 (get_or w 8 0 % 256))) (get_or w 8 0)
      && a))))))))
      ≡ (header_fits w && b)
  header {a} {b} e =
      (λ i. octet (get_or w 1 0) i && (octet (get_or w 2 0) i && (two (get_or w 3 0) i && (signed64_fits (get_or w 4 0) && (self (get_or w 5 0) i && (two (get_or w 6 0) i && (two (get_or w 7 0) i && (signed8_fits (get_or w 8 0) && e i))))))))
      ∙ sym (simp and_assoc)

  stamped : (eqb (get_or w 9 0) (get_or w 9 0) && (eqb (get_or w 10 0 % 0x100000000) (get_or w 10 0) && true)) ≡ stamp_fits w
  stamped = (λ i. self (get_or w 9 0) i && (four (get_or w 10 0) i && true)) ∙ and-true (stamp_fits w)

  pub whole_sync : get_or w 0 0 ≡ 0x0 → is_whole w ≡ (header_fits w && stamp_fits w)
  unfolding of header_of body_of message_words body_words words_for
  whole_sync e = ap is_whole (sym (is_of_lem 0x0 e)) ∙ header stamped

  pub whole_delay_req : get_or w 0 0 ≡ 0x1 → is_whole w ≡ (header_fits w && stamp_fits w)
  unfolding of header_of body_of message_words body_words words_for
  whole_delay_req e = ap is_whole (sym (is_of_lem 0x1 e)) ∙ header stamped

  pub whole_follow_up : get_or w 0 0 ≡ 0x8 → is_whole w ≡ (header_fits w && stamp_fits w)
  unfolding of header_of body_of message_words body_words words_for
  whole_follow_up e = ap is_whole (sym (is_of_lem 0x8 e)) ∙ header stamped

  pub whole_delay_resp : get_or w 0 0 ≡ 0x9 → is_whole w ≡ ((header_fits w && stamp_fits w) && ltb (get_or w 12 0) 65536)
  unfolding of header_of body_of message_words body_words words_for
  whole_delay_resp e =
      ap is_whole (sym (is_of_lem 0x9 e))
      ∙ header (λ i. self (get_or w 9 0) i && (four (get_or w 10 0) i && (self (get_or w 11 0) i && (two (get_or w 12 0) i && true))))
      ∙ sym (simp (and_assoc, and-true))

  pub whole_announce : get_or w 0 0 ≡ 0xB → is_whole w ≡ (header_fits w && announce_fits w)
  unfolding of header_of announce_of body_of message_words body_words words_for
  whole_announce e =
      ap is_whole (sym (is_of_lem 0xB e))
      ∙ header
      (λ i. self (get_or w 9 0) i && (four (get_or w 10 0) i && (signed16_fits (get_or w 11 0) && (octet (get_or w 12 0) i && (octet (get_or w 13 0) i && (octet (get_or w 14 0) i && (two (get_or w 15 0) i && (octet (get_or w 16 0) i && (self (get_or w 17 0) i && (two (get_or w 18 0) i && (octet (get_or w 19 0) i && true)))))))))))
      ∙ sym (simp (and_assoc, and-true))

  pub whole_signaling : get_or w 0 0 ≡ 0xC → is_whole w ≡ (header_fits w && ltb (get_or w 10 0) 65536)
  unfolding of header_of body_of message_words body_words words_for
  whole_signaling e =
      ap is_whole (sym (is_of_lem 0xC e))
      ∙ header (λ i. self (get_or w 9 0) i && (two (get_or w 10 0) i && true))
      ∙ simp and-true

  -- of a type that is not listed: its words are taken for a Signaling's, whose type is another
  pub whole_none : (get_or w 0 0 ≡ 0x0 → ⊥) → (get_or w 0 0 ≡ 0x1 → ⊥) → (get_or w 0 0 ≡ 0x8 → ⊥) → (get_or w 0 0 ≡ 0x9 → ⊥) → (get_or w 0 0 ≡ 0xB → ⊥)
      → (get_or w 0 0 ≡ 0xC → ⊥) → is_whole w ≡ false
  unfolding of header_of body_of message_words body_words words_for
  whole_none n0 n1 n8 n9 nb nc =
      let k = get_or w 0 0 in
      ap is_whole (sym (is_of_lem k refl))
      ∙ rw (ne_eqb k 0x0 n0, ne_eqb k 0x1 n1, ne_eqb k 0x8 n8, ne_eqb k 0x9 n9, ne_eqb k 0xB nb, ne_eqb 0xC k (λ e. nc (sym e)))
