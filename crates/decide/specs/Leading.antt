-- What only the code needs: of what decides a port, that which is the same for every port, found once.
use Rattle.std.specs.Prelude.{ℕ, List, [], ◌∷◌, Bool, ◌&&◌, leb, eqb, Option}
use Rattle.refusal.specs.Choice.{pick}
use Rattle.rank.specs.declared.Grandmaster.{Grandmaster}
use Rattle.rank.specs.declared.Candidate.{Candidate}
use Rattle.decide.specs.declared.Decision.{Decision}
use Rattle.decide.specs.declared.Decision.TheVariants.{M1, M2, M3, P1, P2, S1, S2}
use Rattle.decide.specs.declared.Lead.{Lead}
use Rattle.decide.specs.declared.Lead.TheVariants.{Class, Ours, Ebest}
use Rattle.decide.specs.Deciding.{own_beats, beats_erbest, nearer_of}

-- whose lead is followed, by our class and the first of the ranked list
abbrev pub lead_by : Grandmaster → List Candidate → Lead
lead_by own [] = Ours
lead_by own (e ∷ l) = pick (own_beats own e e.port) Ours (Ebest e)

abbrev pub lead_of : Grandmaster → List Candidate → Lead
lead_of own l = pick (leb 1 own.class && leb own.class 127) Class (lead_by own l)

-- a port's decision by each of the three
abbrev pub by_class_of : Grandmaster → ℕ → Option Candidate → Decision
by_class_of own port best = pick (beats_erbest own port best) M1 P1

abbrev pub by_ebest_of : Candidate → ℕ → Bool → ℕ → Option Candidate → Decision
by_ebest_of e clock listed port best = pick (eqb e.port port) S1 (pick (nearer_of e clock port best) (pick listed S2 P2) M3)

abbrev pub led_of : Grandmaster → Lead → Bool → ℕ → Option Candidate → Decision
led_of own Class listed port best = by_class_of own port best
led_of own Ours listed port best = M2
led_of own (Ebest e) listed port best = by_ebest_of e own.identity listed port best
