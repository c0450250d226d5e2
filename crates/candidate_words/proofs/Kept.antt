-- Words that a call gives are read back as what they were packed from: a candidate, a ranked list, and a best, whose numbers fit their fields. And words
-- that fit are packed again as they stood.
use Rattle.std.specs.Prelude.{Some}
use Prim.Native.Nat.{ℕ, ◌+◌, ◌%◌, ◌≤◌, ◌<◌}
use mathlib.Core.Path.{◌≡◌, ap}
use mathlib.Core.Bool.{true}
use mathlib.Core.List.{List, [], ◌∷◌, ◌++◌}
use lib.Dec.{ltb}
use lib.ListN.{get_or}
use native.Mathlib.Omega.{arith}
use borrow.Author.Tests.{ltb-true, le-leb}
use Rattle.refusal.specs.Limits.{port_count}
use Rattle.words.specs.Words.{port_of}
use Rattle.rank.specs.declared.Candidate.{Candidate}
use Rattle.rank.specs.declared.Ranked.{Ranked}
use Rattle.rank.proofs.Merging.{both}
use Rattle.candidate_words.specs.Fits.{candidate_fits}
use Rattle.candidate_words.specs.Candidates.{candidate_at, candidate_words, ranked_of, ranked_words, found_words, best_of}
use Rattle.candidate_words.specs.Places.{words_at}

-- a candidate as its types hold it
pub record Fits (c : Candidate) : Type 0 where
  pub priority1 : c.grandmaster.priority1 < 256
  pub class : c.grandmaster.class < 256
  pub accuracy : c.grandmaster.accuracy < 256
  pub variance : c.grandmaster.variance < 65536
  pub priority2 : c.grandmaster.priority2 < 256
  pub steps : c.steps < 65536
  pub sender : c.sender.port < 65536
  pub port : c.port ≤ port_count
  pub wrflags : c.wrflags < 65536

octet : (n : ℕ) → n < 256 → n % 256 ≡ n
octet n h = omega arith

two : (n : ℕ) → n < 65536 → n % 65536 ≡ n
two n h = omega arith

whole : (n : ℕ) → n ≤ port_count → port_of n ≡ n
whole n h = rw (le-leb n port_count h)

-- the candidate that is read out of its own words, wherever they stand
abbrev again : Candidate → Candidate
again c = candidate_at (candidate_words c) 0

pub candidate_kept : (c : Candidate) → Fits c → again c ≡ c
candidate_kept c h =
    λ i. record {
      grandmaster =
          record {
            priority1 = octet c.grandmaster.priority1 h.priority1 i;
            class = octet c.grandmaster.class h.class i;
            accuracy = octet c.grandmaster.accuracy h.accuracy i;
            variance = two c.grandmaster.variance h.variance i;
            priority2 = octet c.grandmaster.priority2 h.priority2 i;
            identity = c.grandmaster.identity;
          };
      steps = two c.steps h.steps i;
      sender = record { clock = c.sender.clock; port = two c.sender.port h.sender i };
      port = whole c.port h.port i;
      wrflags = two c.wrflags h.wrflags i;
    }

pub list_kept : (n : ℕ) (a b c d : Candidate) → Fits a → Fits b → Fits c → Fits d
    → let r : Ranked = record { len = n; slots = a ∷ b ∷ c ∷ d ∷ [] } in ranked_of (ranked_words r) ≡ r
list_kept n a b c d p q r s =
    λ i. record { len = n; slots = candidate_kept a p i ∷ candidate_kept b q i ∷ candidate_kept c r i ∷ candidate_kept d s i ∷ [] }

-- what asking gives is what deciding takes
pub best_kept : (c : Candidate) → Fits c → best_of (found_words c) ≡ Some c
best_kept c h = ap Some (candidate_kept c h)

-- numbers below their limits, and tests of that
octet_by_lem : (n : ℕ) → ltb n 256 ≡ true → n % 256 ≡ n
octet_by_lem n h = octet n (ltb-true n 256 h)

two_by : (n : ℕ) → ltb n 65536 ≡ true → n % 65536 ≡ n
two_by n h = two n (ltb-true n 65536 h)

next : (b : ℕ) → b + 7 + 1 ≡ b + 8
next b = omega arith

-- words that fit, with a port that is none past the last, are those of the candidate that is read out of them: none of them is cut
pub candidate_again : (w : List ℕ) (b : ℕ) → candidate_fits w b ≡ true → get_or w (b + 9) 0 ≤ port_count → candidate_words (candidate_at w b) ≡ words_at w b
candidate_again w b h p =
    let flags = both _ _ h in
    let sender = both _ _ flags.0 in
    let steps = both _ _ sender.0 in
    let priority2 = both _ _ steps.0 in
    let variance = both _ _ priority2.0 in
    let accuracy = both _ _ variance.0 in
    let quality = both _ _ accuracy.0 in
    let port : get_or w (b + 7 + 1) 0 % 65536 ≡ get_or w (b + 8) 0 = rw (next b) (two_by (get_or w (b + 8) 0) sender.1) in
    λ i. octet_by_lem (get_or w b 0) quality.0 i
    ∷ octet_by_lem (get_or w (b + 1) 0) quality.1 i
    ∷ octet_by_lem (get_or w (b + 2) 0) accuracy.1 i
    ∷ two_by (get_or w (b + 3) 0) variance.1 i
    ∷ octet_by_lem (get_or w (b + 4) 0) priority2.1 i
    ∷ get_or w (b + 5) 0
    ∷ two_by (get_or w (b + 6) 0) steps.1 i
    ∷ get_or w (b + 7) 0
    ∷ port i
    ∷ whole (get_or w (b + 9) 0) p i
    ∷ two_by (get_or w (b + 10) 0) flags.1 i
    ∷ []

-- so are those of a list of four
pub list_again : (w : List ℕ) → candidate_fits w 1 ≡ true → candidate_fits w 12 ≡ true → candidate_fits w 23 ≡ true → candidate_fits w 34 ≡ true
    → get_or w 10 0 ≤ port_count → get_or w 21 0 ≤ port_count → get_or w 32 0 ≤ port_count → get_or w 43 0 ≤ port_count
    → ranked_words (ranked_of w) ≡ get_or w 0 0 ∷ (words_at w 1 ++ (words_at w 12 ++ (words_at w 23 ++ words_at w 34)))
list_again w a b c d p q r s =
    λ i. get_or w 0 0 ∷ (candidate_again w 1 a p i ++ (candidate_again w 12 b q i ++ (candidate_again w 23 c r i ++ candidate_again w 34 d s i)))
