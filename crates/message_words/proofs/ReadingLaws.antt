-- Words stored one after the other, and the type of a body that was read.
use Rattle.std.specs.Prelude.{Result, Ok, Err}
use Prim.Native.Nat.{ℕ, ◌-◌}
use mathlib.Core.Path.{◌≡◌, refl, sym, ap, ◌∙◌}
use mathlib.Core.List.{List, [], ◌∷◌, ◌++◌}
use mathlib.Core.Bool.{Bool, true, false}
use native.Mathlib.Omega.{arith}
use borrow.Author.Tests.{eqb-true}
use lib.Dec.{eqb}
use lib.ListN.{length, take, drop, set, drop_of_length-le}
use Rattle.octets.proofs.Laws.{opened, open_list}
use Rattle.refusal.specs.Refusal.{code_of}
use Rattle.layout.specs.Layout.{kind_of, size_of}
use Rattle.message.specs.Fields.{type_of, fixed_size, body_of}
use Rattle.message.specs.Reading.{check_of, read_of}
use Rattle.contents.specs.Parts.{tail_in}
use Rattle.contents.specs.Sound.{bounds_at}
use Rattle.message.specs.declared.reading.Bounds.{Bounds}
use Rattle.message.proofs.Laws.{accepted, bounded, tail_length}
use Rattle.message_words.specs.Answers.{read_code, read_words, tail_words}
use Rattle.refusal.specs.declared.Refusal.{Refusal}

-- twenty words are the twenty that stand in them
twenty : (w : List ℕ) → length w ≡ 20 → w ≡ opened 20 w []
twenty w h = open_list 20 w (omega arith) ∙ ap (opened 20 w) (drop_of_length-le w {i = 20} (omega arith))

module _ (w : List ℕ) (h : length w ≡ 20) where
  -- the first nine stored, and what was behind them
  pub nine : (a b c d e f g i j : ℕ)
      → set (set (set (set (set (set (set (set (set w 0 a) 1 b) 2 c) 3 d) 4 e) 5 f) 6 g) 7 i) 8 j
      ≡ a ∷ b ∷ c ∷ d ∷ e ∷ f ∷ g ∷ i ∷ j ∷ drop 9 w
  nine a b c d e f g i j = rw (twenty w h)

  -- the last eleven stored, and what was before them
  pub eleven : (a b c d e f g i j k l : ℕ)
      → set (set (set (set (set (set (set (set (set (set (set w 9 a) 10 b) 11 c) 12 d) 13 e) 14 f) 15 g) 16 i) 17 j) 18 k) 19 l
      ≡ take 9 w ++ (a ∷ b ∷ c ∷ d ∷ e ∷ f ∷ g ∷ i ∷ j ∷ k ∷ l ∷ [])
  eleven a b c d e f g i j k l = rw (twenty w h)

  -- two of them stored over
  pub two_over : (a b c d e f g i j k l x y : ℕ)
      → set (set (take 9 w ++ (a ∷ b ∷ c ∷ d ∷ e ∷ f ∷ g ∷ i ∷ j ∷ k ∷ l ∷ [])) 11 x) 12 y
      ≡ take 9 w ++ (a ∷ b ∷ x ∷ y ∷ e ∷ f ∷ g ∷ i ∷ j ∷ k ∷ l ∷ [])
  two_over a b c d e f g i j k l x y = rw (twenty w h)

-- a body of a listed type that was read is of that type
pub kind_listed : (s : List ℕ) → (fixed_size (type_of s) ≡ 0 → ⊥) → kind_of (body_of s) ≡ type_of s
unfolding fixed_size body_of
kind_listed s =
    by (eqb (type_of s) 0x0) (eqb (type_of s) 0x1) (eqb (type_of s) 0x8) (eqb (type_of s) 0x9) (eqb (type_of s) 0xB) (eqb (type_of s) 0xC)
    refl refl refl refl refl refl
  where
    by : (a b c d e f : Bool) → eqb (type_of s) 0x0 ≡ a → eqb (type_of s) 0x1 ≡ b → eqb (type_of s) 0x8 ≡ c → eqb (type_of s) 0x9 ≡ d
        → eqb (type_of s) 0xB ≡ e → eqb (type_of s) 0xC ≡ f → (fixed_size (type_of s) ≡ 0 → ⊥) → kind_of (body_of s) ≡ type_of s
    by true b c d e f p0 p1 p8 p9 pb pc n = rw p0 (sym (eqb-true _ _ p0))
    by false true c d e f p0 p1 p8 p9 pb pc n = rw (p0, p1) (sym (eqb-true _ _ p1))
    by false false true d e f p0 p1 p8 p9 pb pc n = rw (p0, p1, p8) (sym (eqb-true _ _ p8))
    by false false false true e f p0 p1 p8 p9 pb pc n = rw (p0, p1, p8, p9) (sym (eqb-true _ _ p9))
    by false false false false true f p0 p1 p8 p9 pb pc n = rw (p0, p1, p8, p9, pb) (sym (eqb-true _ _ pb))
    by false false false false false true p0 p1 p8 p9 pb pc n = rw (p0, p1, p8, p9, pb) (sym (eqb-true _ _ pc))
    by false false false false false false p0 p1 p8 p9 pb pc n = absurd (n (rw (p0, p1, p8, p9, pb, pc)))

-- a message that the checks refuse changes no words, and the number returned is theirs
module _ (magic : ℕ) (s : List ℕ) where
  pub unread : (check_of magic s ≡ Ok tt → ⊥) → (w t : List ℕ) (n : ℕ)
      → (code_of (check_of magic s) ≡ read_code (read_of magic s)) × ((w ≡ read_words (read_of magic s) w) × (t ≡ tail_words (read_of magic s) n t))
  unfolding read_of
  unread h w t n = cases (check_of magic s) refl
    where
      cases : (o : Result (Unit {0}) Refusal) → check_of magic s ≡ o
          → (code_of (check_of magic s) ≡ read_code (read_of magic s)) × ((w ≡ read_words (read_of magic s) w) × (t ≡ tail_words (read_of magic s) n t))
      cases (Ok tt) e = absurd (h e)
      cases (Err x) e = rw e (refl, (refl, refl))

  -- the tail of one that they accept lies between its lengths
  pub tail_read : check_of magic s ≡ Ok tt → {b : Bounds} → b ≡ bounds_at s → b.size ∷ (b.length - b.size) ∷ []
      ≡ size_of (body_of s) ∷ length (tail_in magic s) ∷ []
  unfolding tail_in
  tail_read d {b} e =
      let k = kind_listed s (accepted magic s d).listed in
      let l = tail_length s (bounded magic s d) in
      rw (d, l, k) (λ i. (e i).size ∷ ((e i).length - (e i).size) ∷ [])
