-- Deciding by the lead and by whether the port is in the list is deciding by the list.
use Rattle.std.specs.Prelude.{Option}
use Prim.Native.Nat.{ℕ}
use mathlib.Core.Path.{◌≡◌}
use mathlib.Core.List.{List, [], ◌∷◌}
use mathlib.Core.Bool.{◌&&◌}
use lib.Dec.{leb}
use Rattle.rank.specs.declared.Grandmaster.{Grandmaster}
use Rattle.rank.specs.declared.Candidate.{Candidate}
use Rattle.rank.specs.Ranked.{holds_of}
use Rattle.rank.proofs.Best.{cases}
use Rattle.decide.specs.Deciding.{own_beats, decision_of}
use Rattle.decide.specs.Leading.{lead_of, led_of}

pub led_is : (own : Grandmaster) (l : List Candidate) (port : ℕ) (best : Option Candidate)
    → led_of own (lead_of own l) (holds_of port l) port best ≡ decision_of own l port best
led_is own [] port best = cases (leb 1 own.class && leb own.class 127) (λ h. rw h) (λ h. rw h)
led_is own (e ∷ l) port best =
    cases (leb 1 own.class && leb own.class 127)
    (λ h. rw h)
    (λ h. cases (own_beats own e e.port) (λ k. rw (h, k)) (λ k. rw (h, k)))
