-- Octets that are looked at eight at a time, and then those that are left one by one.
use Rattle.std.proofs.Common.{length-drop, ◌≡◌, ℕ, zero, suc, ◌+◌, ◌*◌, ◌≤◌, Bool, ◌&&◌, eqb, List, [], ◌∷◌, length, take, drop, refl, arith}
use Rattle.std.specs.Int.{w64, from_le_bytes}
use Rattle.std.specs.List.{list_all}
use Rattle.std.specs.Simd.{first_chunks}
use Rattle.std.proofs.Math.Bool.{and_assoc}
use Rattle.std.proofs.lemmas.Bool.Decides.{nat_tests}
use Rattle.std.proofs.lemmas.List.{drop-drop}
use Rattle.judging.specs.Tests.{all_zero}

abbrev pub is_zero : ℕ → Bool
is_zero x = eqb x 0

abbrev pub are_zero : List ℕ → Bool
are_zero e = eqb (from_le_bytes w64 e) 0

-- one by one
pub by_one : (s : List ℕ) → list_all is_zero s ≡ all_zero s
unfolding all_zero
by_one [] = refl
by_one (x ∷ s) = rw (by_one s)

-- eight octets are zero where their number is
eight : (a b c d e f g h : ℕ) (s : List ℕ) → (are_zero (a ∷ b ∷ c ∷ d ∷ e ∷ f ∷ g ∷ h ∷ []) && all_zero s) ≡ all_zero (a ∷ b ∷ c ∷ d ∷ e ∷ f ∷ g ∷ h ∷ s)
unfolding all_zero
eight a b c d e f g h s = grind (arith, nat_tests)

front : (s : List ℕ) → 8 ≤ length s → (are_zero (take 8 s) && all_zero (drop 8 s)) ≡ all_zero s
front (a ∷ b ∷ c ∷ d ∷ e ∷ f ∷ g ∷ h ∷ s) l = eight a b c d e f g h s
front [] l = absurd (omega arith)
front (a ∷ []) l = absurd (omega arith)
front (a ∷ b ∷ []) l = absurd (omega arith)
front (a ∷ b ∷ c ∷ []) l = absurd (omega arith)
front (a ∷ b ∷ c ∷ d ∷ []) l = absurd (omega arith)
front (a ∷ b ∷ c ∷ d ∷ e ∷ []) l = absurd (omega arith)
front (a ∷ b ∷ c ∷ d ∷ e ∷ f ∷ []) l = absurd (omega arith)
front (a ∷ b ∷ c ∷ d ∷ e ∷ f ∷ g ∷ []) l = absurd (omega arith)

-- k times eight octets, and those behind them
pub by_eight : (k : ℕ) (s : List ℕ) → k * 8 ≤ length s → (list_all are_zero (first_chunks 8 k s) && all_zero (drop (k * 8) s)) ≡ all_zero s
by_eight zero s h = refl
by_eight (suc k) s h =
    let n : suc k * 8 ≡ 8 + k * 8 = omega arith in
    let m : k * 8 ≤ length (drop 8 s) = omega (arith, length-drop 8 s) in
    rw (n, ← drop-drop (k * 8) 8 s, and_assoc, by_eight k (drop 8 s) m) (front s (omega arith))
