-- Deciding is refused with 8 and 15 exactly when 01 says, also where our class is 1 to 127 and the list is not looked at.
use Rattle.std.specs.Prelude.{Option}
use Prim.Native.Nat.{ℕ}
use mathlib.Core.Path.{◌≡◌}
use Rattle.laws.proofs.Bools.{cases}
use Rattle.refusal.specs.Choice.{refuse}
use Rattle.rank.specs.declared.Grandmaster.{Grandmaster}
use Rattle.rank.specs.declared.Ranked.{Ranked}
use Rattle.rank.specs.Ranked.{is_port, is_ranked}
use Rattle.decide.specs.Deciding.{decide_of}
use Rattle.decide.specs.When.{decided_code, DecideWhen, no_port, unranked, decided}
use Rattle.rank.specs.declared.Candidate.{Candidate}

module _ (own : Grandmaster) (list : Ranked) (port : ℕ) (best : Option Candidate) where
  -- A LINE THAT HOLDS: its number is given
  pub when_decide : {n : ℕ} → DecideWhen list port n → decided_code (decide_of own list port best) ≡ n
  unfolding refuse
  when_decide (no_port p) = rw p
  when_decide (unranked p r) = rw (p, r)
  when_decide (decided p r) = rw (p, r)

  -- THE NUMBER GIVEN: its line holds
  pub decide_told : DecideWhen list port (decided_code (decide_of own list port best))
  unfolding refuse
  decide_told =
      cases (is_port port)
      (λ p. cases (is_ranked list) (λ r. rw (p, r) (decided p r)) (λ r. rw (p, r) (unranked p r)))
      (λ p. rw p (no_port p))
