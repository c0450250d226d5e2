-- What only the code needs: the best candidate of a port by where its record begins in the port's words, and rank order of two
-- records of different ports as their words show it.
use Rattle.std.specs.Prelude.{ℕ, zero, suc, ◌-◌, ◌/◌, ◌%◌, Bool, List, eqb, ltb, get_or, Option, Some, None, Result, Ok}
use Rattle.refusal.specs.Choice.{pick}
use Rattle.senders.specs.Record.{window_of, candidate_of}
use Rattle.slots.specs.Words.{block, begin_of, record_of, port_of, outdoes_in}
use Rattle.rank.specs.declared.Candidate.{Candidate}
use Rattle.refusal.specs.declared.Refusal.{Refusal}

-- where the record of the best of the last n slots begins, or 0
unfoldable pub place_among : List ℕ → ℕ → ℕ → ℕ → ℕ
place_among ws w t zero = 0
place_among ws w t (suc n) = pick (outdoes_in ws (begin_of (15 - n)) (place_among ws w t n) w t) (begin_of (15 - n)) (place_among ws w t n)

-- that of the best candidate
unfoldable pub place_in : List ℕ → ℕ → ℕ
place_in ws t = place_among ws (window_of (port_of ws).e) t 16

-- the candidate whose record begins at a place, where there is one
abbrev pub found_in : ℕ → List ℕ → ℕ → Result (Option Candidate) Refusal
found_in port ws at = pick (eqb at 0) (Ok None) (Ok (Some (candidate_of port (record_of (block ws at 6)))))

-- the keys before the port: the quality as one number, the grandmaster, stepsRemoved, the sender
abbrev pub above_in : List ℕ → List ℕ → Bool
above_in a b =
    pick (eqb (get_or a 5 0 / 0x10000) (get_or b 5 0 / 0x10000))
    (pick (eqb (get_or a 4 0) (get_or b 4 0))
    (pick (eqb (get_or a 5 0 % 0x10000) (get_or b 5 0 % 0x10000))
    (pick (eqb (get_or a 0 0) (get_or b 0 0))
    (ltb (get_or a 1 0 % 0x10000) (get_or b 1 0 % 0x10000))
    (ltb (get_or a 0 0) (get_or b 0 0)))
    (ltb (get_or a 5 0 % 0x10000) (get_or b 5 0 % 0x10000)))
    (ltb (get_or a 4 0) (get_or b 4 0)))
    (ltb (get_or a 5 0 / 0x10000) (get_or b 5 0 / 0x10000))
