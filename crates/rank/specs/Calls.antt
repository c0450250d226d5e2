-- What ranking and merging answer (01, "Numbers that refuse" and "Comparing and ranking").
use Rattle.std.specs.Prelude.{List, [], ◌++◌, not, ◌&&◌, ltb, length, Result, Ok, Err}
use Rattle.refusal.specs.Choice.{refuse}
use Rattle.refusal.specs.declared.Refusal.{Refusal}
use Rattle.refusal.specs.declared.Refusal.TheVariants.{Many, Port, Unranked}
use Rattle.rank.specs.declared.Candidate.{Candidate}
use Rattle.rank.specs.declared.Ranked.{Ranked}
use Rattle.rank.specs.Ranked.{all_valid, rank_of, pack, unpack, is_ranked}

-- the work is done
abbrev pub done_of : List Candidate → Result Ranked Refusal
done_of l = Ok (pack l)

-- "Ranking: 17, 8."
abbrev pub ranking_of : List Candidate → Result Ranked Refusal
ranking_of s =
    refuse (ltb 288 (length s)) (Err Many)
    (refuse (not (all_valid s)) (Err Port)
    (done_of (rank_of s)))

-- "Merging: 15.": the ranked list of both lists together
abbrev pub merge_of : Ranked → Ranked → Result Ranked Refusal
merge_of a b =
    refuse (not (is_ranked a && is_ranked b)) (Err Unranked)
    (done_of (rank_of (unpack a ++ unpack b)))

-- whether the work is done, without the list
abbrev pub outcome_of : Result Ranked Refusal → Result (Unit {0}) Refusal
outcome_of (Ok r) = Ok tt
outcome_of (Err x) = Err x

-- the list that is merged on upward: where there is a refusal, the empty one
abbrev pub list_of : Result Ranked Refusal → Ranked
list_of (Ok r) = r
list_of (Err x) = pack []
