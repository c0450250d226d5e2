-- Each of the tests behind the check for itself, on as few octets as it needs. Whole blocks, and the four tests together, are in
-- `traces/proofs/Edges.antt`.
use Rattle.std.specs.Prelude.{Some, None}
use Prim.Native.Nat.{ℕ}
use mathlib.Core.Path.{◌≡◌, refl}
use mathlib.Core.List.{List, [], ◌∷◌, ◌++◌, map}
use mathlib.Core.Bool.{true, false}
use lib.ListN.{set, replicate}
use Rattle.octets.specs.Be.{be}
use Rattle.block.specs.Layout.{entries_from, entries_of}
use Rattle.judging.specs.Tests.{all_zero, laid_from, is_laid, is_next, is_in_order, last_of, reader_after}
use Rattle.judging.specs.Walking.{record_at, next_record}
use Rattle.judging.specs.declared.Reader.{Reader}
use Rattle.block.proofs.Witnesses.{entry}

abbrev reader : ℕ → ℕ → Reader
reader next last = record { next = next; last = last }

-- ---- LAYOUT, NUMBER, TIME
-- block 7 with one octet that arrived on port 3 at 9
abbrev one : List ℕ
one = 0 ∷ 0 ∷ 0 ∷ 0 ∷ 0 ∷ 7 ∷ replicate 7 0 ++ 9 ∷ 0 ∷ 1 ∷ replicate 7 0 ++ 9 ∷ 3 ∷ 0 ∷ 1 ∷ 0x21 ∷ replicate 484 0

-- with another octet in one place
abbrev with : ℕ → ℕ → List ℕ
with i x = set one i x

pub record Tests : Type 0 where
  pub read : entries_of one ≡ entry 9 3 (0x21 ∷ []) ∷ []
  pub laid : is_laid one ≡ true
  -- a head time of 8; no record; port 19; a length of 0, so that the rest begins with 0x21; an octet more
  pub unlaid : map is_laid (with 13 8 ∷ with 15 0 ∷ with 24 19 ∷ with 26 0 ∷ (one ++ 0 ∷ []) ∷ []) ≡ false ∷ false ∷ false ∷ false ∷ false ∷ []
  -- "Block numbers rise strictly": behind 6, behind 7; and what its reader keeps
  pub numbers : map (λ (next : ℕ). is_next next one) (7 ∷ 8 ∷ []) ≡ true ∷ false ∷ []
  pub kept : reader_after (reader 1 2) one ≡ reader 8 9
  -- "times never fall": they stand still; the first, and the second, is below the one before it
  pub times : map (λ (last : ℕ). is_in_order last (entry 50 1 [] ∷ entry 50 2 [] ∷ [])) (50 ∷ 51 ∷ []) ≡ true ∷ false ∷ []
  pub inside : is_in_order 0 (entry 50 1 [] ∷ entry 49 2 [] ∷ []) ≡ false
  -- from octet 0 on a walk finds the record, and behind it none
  pub found : next_record one 0 ≡ Some (record { time = 9; port = 3; at = 27; length = 1; end = 28 })
  pub walked : next_record one 28 ≡ None

pub tests : Tests
unfolding is_laid laid_from all_zero is_in_order last_of entries_from record_at be
tests =
    record {
      read = refl;
      laid = refl;
      unlaid = refl;
      numbers = refl;
      kept = refl;
      times = refl;
      inside = refl;
      found = refl;
      walked = refl;
    }
