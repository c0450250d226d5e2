-- A clock that hears one master, computed: what it elects and decides, and when it refuses.
use Rattle.std.specs.Prelude.{Err, Ok}
use Prim.Native.Nat.{ℕ, zero, suc}
use mathlib.Core.Path.{◌≡◌, refl, ap, sym, subst}
use mathlib.Core.List.{List, [], ◌∷◌}
use Rattle.refusal.specs.Choice.{refuse}
use Rattle.refusal.specs.declared.Refusal.TheVariants.{Backward}
use Rattle.rank.specs.declared.Grandmaster.{Grandmaster}
use Rattle.rank.specs.declared.Candidate.{Candidate}
use Rattle.rank.specs.Ranked.{rank_of}
use Rattle.rank.specs.Calls.{done_of}
use Rattle.senders.specs.declared.Notice.{Notice}
use Rattle.senders.specs.declared.Record.{Record}
use Rattle.senders.specs.Record.{fresh_of, next_of, candidate_of}
use Rattle.senders.specs.Port.{tab, kept, candidates_of, best_of}
use Rattle.slots.specs.Words.{words_after, words_of, record_of}
use Rattle.ports.specs.Words.{all_words, with, port_at}
use Rattle.ports.specs.History.{fresh}
use Rattle.decide.specs.declared.Decision.{Decision}
use Rattle.decide.specs.declared.Decision.TheVariants.{M3, S1}
use Rattle.decide.specs.Comparing.{compare_of, different_of}
use Rattle.decide.specs.Deciding.{own_beats, nearer_of, decision_of}
use Rattle.election.specs.Elected.{every_port, any_late, heard_on, elected_of}
use Rattle.election.specs.Decisions.{erbest_of, list_at, decision_at}

-- a grandmaster by its priority1 and class
abbrev grandmaster : ℕ → ℕ → Grandmaster
grandmaster priority1 class = record { priority1 = priority1; class = class; accuracy = 254; variance = 65535; priority2 = 128; identity = priority1 }

abbrev notice : Notice
notice = record { sender = record { clock = 1; port = 1 }; sequence = 7; grandmaster = grandmaster 1 6; steps = 0; wrflags = 0 }

-- the master's Announces on port 2, at 5 and at 6
abbrev second : Record
second = next_of (fresh_of 5 notice) 6 notice

abbrev heard : List ℕ
heard = words_after (words_after (tab 98 (λ i. 0)) 5 (Ok (0, fresh_of 5 notice))) 6 (Ok (0, second))

abbrev clock : List ℕ
clock = with fresh 2 heard

-- words of zero once more, made one by one: `tab` makes its last word in as many steps as there are words, and the clock's words are asked for again and again
unfoldable zeros : ℕ → List ℕ
zeros zero = []
zeros (suc n) = 0 ∷ zeros n

same : (n : ℕ) → tab n (λ i. 0) ≡ zeros n
unfolding tab zeros
same zero = refl
same (suc n) = ap (λ (l : List ℕ). 0 ∷ l) (same n)

abbrev flat : List ℕ
flat = with (zeros all_words) 2 heard

-- what is true of one is true of the other
moved : (P : List ℕ → Type 0) → P flat → P clock
moved P = subst (λ (z : List ℕ). P (with z 2 heard)) (sym (same all_words))

-- the master is elected
collection : heard_on flat 6 every_port ≡ candidate_of 2 second ∷ []
unfolding heard_on candidates_of kept tab zeros words_of record_of
collection = refl

list : list_at flat 6 ≡ candidate_of 2 second ∷ []
list = ap rank_of collection

elected_flat : elected_of flat 6 every_port ≡ done_of (candidate_of 2 second ∷ [])
unfolding elected_of refuse any_late tab zeros words_of record_of
elected_flat = ap done_of list

pub elected : elected_of clock 6 every_port ≡ done_of (candidate_of 2 second ∷ [])
elected = moved (λ (ws : List ℕ). elected_of ws 6 every_port ≡ done_of (candidate_of 2 second ∷ [])) elected_flat

-- and a clock of a worse class follows it: S1 on its port, M3 on another
abbrev ours : Grandmaster
ours = grandmaster 128 248

abbrev by : ℕ → List Candidate → Decision
by p l = decision_of ours l p (erbest_of (best_of p (port_at flat p) 6))

s1_flat : decision_at ours flat 6 2 ≡ S1
unfolding decision_at best_of candidates_of kept tab zeros words_of record_of own_beats compare_of different_of
s1_flat = ap (by 2) list

pub s1 : decision_at ours clock 6 2 ≡ S1
s1 = moved (λ (ws : List ℕ). decision_at ours ws 6 2 ≡ S1) s1_flat

m3_flat : decision_at ours flat 6 1 ≡ M3
unfolding decision_at best_of candidates_of kept tab zeros words_of record_of own_beats nearer_of compare_of different_of
m3_flat = ap (by 1) list

pub m3 : decision_at ours clock 6 1 ≡ M3
m3 = moved (λ (ws : List ℕ). decision_at ours ws 6 1 ≡ M3) m3_flat

-- refused with 11 for the sake of one port, at a time that the seventeen others would answer
refused_flat : elected_of flat 5 every_port ≡ Err Backward
unfolding elected_of refuse any_late tab zeros words_of record_of
refused_flat = refl

pub refused : elected_of clock 5 every_port ≡ Err Backward
refused = moved (λ (ws : List ℕ). elected_of ws 5 every_port ≡ Err Backward) refused_flat
