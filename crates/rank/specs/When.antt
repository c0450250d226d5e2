-- When ranking and merging are refused, by their numbers, 0 where they are not (01, "Numbers that refuse": "Ranking: 17, 8.", "Merging: 15."). In
-- proofs/Exactly.antt the number given has its line here, and a line that holds is the number given.
use Rattle.std.specs.Prelude.{ℕ, ◌<◌, ◌≤◌, ◌≡◌, true, false, ◌&&◌, List, length}
use Rattle.rank.specs.declared.Candidate.{Candidate}
use Rattle.rank.specs.declared.Ranked.{Ranked}
use Rattle.rank.specs.Ranked.{all_valid, is_ranked}

pub data RankWhen (s : List Candidate) : ℕ → Type 0 where
  -- "more than 288 candidates"
  many : 288 < length s → RankWhen s 17
  -- "port outside 1 to 18"
  no_port : length s ≤ 288 → all_valid s ≡ false → RankWhen s 8
  ranked : length s ≤ 288 → all_valid s ≡ true → RankWhen s 0

pub data MergeWhen (a b : Ranked) : ℕ → Type 0 where
  -- "a list to merge .. is not a ranked list"
  unranked : (is_ranked a && is_ranked b) ≡ false → MergeWhen a b 15
  merged : is_ranked a ≡ true → is_ranked b ≡ true → MergeWhen a b 0
