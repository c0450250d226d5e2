-- How a port lies in the 98 words that the host lends: word 0 the last accepted time, word 1 the interval's exponent (k modulo 8), then
-- sixteen slots of six words. Each field has its width and fills its place, so that any words are a port.
use Rattle.std.specs.Prelude.{ℕ, ◌+◌, ◌*◌, ◌/◌, ◌%◌, ◌<◌, Bool, true, ◌&&◌, List, [], ◌∷◌, ◌++◌, map, eqb, ltb, get_or, take, drop, set, Option, Some, None, Result, Ok, Err}
use Rattle.refusal.specs.Choice.{pick}
use Rattle.rank.specs.declared.Grandmaster.{Grandmaster}
use Rattle.rank.specs.Order.{earlier_of}
use Rattle.rank.specs.Best.{best}
use Rattle.rank.specs.Ranked as ranked
use Rattle.senders.specs.declared.Record.{Record}
use Rattle.senders.specs.Record.{is_qualified, candidate_of}
use Rattle.senders.specs.Port.{Port, slot_of, tab, kept, head_of}
use Rattle.rank.specs.declared.Candidate.{Candidate}
use Rattle.refusal.specs.declared.Refusal.{Refusal}

-- what a port takes: two words, and sixteen records of six
abbrev pub port_words : ℕ
port_words = 98

-- the n words from b on, and the words with the n words vs in their place
abbrev pub block : List ℕ → ℕ → ℕ → List ℕ
block ws b n = take n (drop b ws)

abbrev pub splice : List ℕ → ℕ → ℕ → List ℕ → List ℕ
splice ws b n vs = take b ws ++ (vs ++ drop (b + n) ws)

-- a record of six words: the sender's clock; its port, sequenceId, wrFlags and receipts; newest; older; the grandmaster; its quality and
-- stepsRemoved
abbrev pub of_six : List ℕ → Record
of_six l =
    record {
      notice =
          record {
            sender = record { clock = get_or l 0 0; port = get_or l 1 0 % 0x10000 };
            sequence = get_or l 1 0 / 0x10000 % 0x10000;
            grandmaster =
                record {
                  priority1 = get_or l 5 0 / 0x100000000000000 % 0x100;
                  class = get_or l 5 0 / 0x1000000000000 % 0x100;
                  accuracy = get_or l 5 0 / 0x10000000000 % 0x100;
                  variance = get_or l 5 0 / 0x1000000 % 0x10000;
                  priority2 = get_or l 5 0 / 0x10000 % 0x100;
                  identity = get_or l 4 0;
                };
            steps = get_or l 5 0 % 0x10000;
            wrflags = get_or l 1 0 / 0x100000000 % 0x10000;
          };
      receipts = get_or l 1 0 / 0x1000000000000 % 0x10000;
      newest = get_or l 2 0;
      older = get_or l 3 0;
    }

abbrev pub id_word : ℕ → ℕ → ℕ → ℕ → ℕ
id_word port sequence wrflags receipts = port + 0x10000 * sequence + 0x100000000 * wrflags + 0x1000000000000 * receipts

abbrev pub grade_word : Grandmaster → ℕ → ℕ
grade_word g steps =
    steps + 0x10000 * g.priority2 + 0x1000000 * g.variance + 0x10000000000 * g.accuracy + 0x1000000000000 * g.class + 0x100000000000000 * g.priority1

abbrev pub six_of : Record → List ℕ
six_of r =
    r.notice.sender.clock
    ∷ id_word r.notice.sender.port r.notice.sequence r.notice.wrflags r.receipts
    ∷ r.newest
    ∷ r.older
    ∷ r.notice.grandmaster.identity
    ∷ grade_word r.notice.grandmaster r.notice.steps
    ∷ []

-- the same two, shut
unfoldable pub record_of : List ℕ → Record
record_of l = of_six l

unfoldable pub words_of : Record → List ℕ
words_of r = six_of r

-- where a slot begins
abbrev pub begin_of : ℕ → ℕ
begin_of i = 2 + 6 * i

abbrev pub slot_at : List ℕ → ℕ → Record
slot_at ws i = record_of (block ws (begin_of i) 6)

-- the sixteen records, six words each
unfoldable pub records_of : List ℕ → List (List ℕ)
records_of ws = tab 16 (λ i. block ws (begin_of i) 6)

abbrev pub slots_of : List ℕ → List Record
slots_of ws = tab 16 (slot_at ws)

-- the port that 98 words are
abbrev pub port_of : List ℕ → Port
port_of ws = record { last = get_or ws 0 0; e = get_or ws 1 0; slots = slots_of ws }

abbrev pub put_slot : List ℕ → ℕ → Record → List ℕ
put_slot ws i r = splice ws (begin_of i) 6 (words_of r)

-- the words after a plan: one record and one time are written, or nothing
abbrev pub words_after : List ℕ → ℕ → Result (ℕ × Record) Refusal → List ℕ
words_after ws t (Err x) = ws
words_after ws t (Ok (i, r)) = set (put_slot ws i r) 0 t

-- a slot that ever held a record has receipts
abbrev pub seen_record : Record → Option Record
seen_record r = pick (eqb r.receipts 0) None (Some r)

unfoldable pub seen_in : Port → ℕ → Option Record
seen_in p i = seen_record (slot_of p i)

-- rank order of two records on one port, as their words show it: the quality as one number, the grandmaster, stepsRemoved, the sender, wrFlags
abbrev pub later_in : ℕ → ℕ → Bool
later_in a b =
    pick (eqb (a % 0x10000) (b % 0x10000)) (ltb (a / 0x100000000 % 0x10000) (b / 0x100000000 % 0x10000)) (ltb (a % 0x10000) (b % 0x10000))

-- by the first key before the sender's port that differs; none where they are alike
abbrev pub first_in : List ℕ → List ℕ → Option Bool
first_in a b =
    pick (eqb (get_or a 5 0 / 0x10000) (get_or b 5 0 / 0x10000))
    (pick (eqb (get_or a 4 0) (get_or b 4 0))
    (pick (eqb (get_or a 5 0 % 0x10000) (get_or b 5 0 % 0x10000))
    (pick (eqb (get_or a 0 0) (get_or b 0 0)) None (Some (ltb (get_or a 0 0) (get_or b 0 0))))
    (Some (ltb (get_or a 5 0 % 0x10000) (get_or b 5 0 % 0x10000))))
    (Some (ltb (get_or a 4 0) (get_or b 4 0))))
    (Some (ltb (get_or a 5 0 / 0x10000) (get_or b 5 0 / 0x10000)))

abbrev pub before_in : List ℕ → List ℕ → Bool
before_in a b =
    pick (eqb (get_or a 5 0 / 0x10000) (get_or b 5 0 / 0x10000))
    (pick (eqb (get_or a 4 0) (get_or b 4 0))
    (pick (eqb (get_or a 5 0 % 0x10000) (get_or b 5 0 % 0x10000))
    (pick (eqb (get_or a 0 0) (get_or b 0 0)) (later_in (get_or a 1 0) (get_or b 1 0)) (ltb (get_or a 0 0) (get_or b 0 0)))
    (ltb (get_or a 5 0 % 0x10000) (get_or b 5 0 % 0x10000)))
    (ltb (get_or a 4 0) (get_or b 4 0)))
    (ltb (get_or a 5 0 / 0x10000) (get_or b 5 0 / 0x10000))

-- the record that begins at a stands before the one that begins at b
unfoldable pub ahead_in : List ℕ → ℕ → ℕ → Bool
ahead_in ws a b = before_in (block ws a 6) (block ws b 6)

-- it is qualified, and stands before the other where there is one
abbrev pub outdoes_in : List ℕ → ℕ → ℕ → ℕ → ℕ → Bool
outdoes_in ws a b w t = is_qualified w t (record_of (block ws a 6)) && pick (eqb b 0) true (ahead_in ws a b)

-- the best candidate of a list of records
unfoldable pub best_in : ℕ → ℕ → ℕ → List Record → Result (Option Candidate) Refusal
best_in port w t l = head_of (best earlier_of ranked.receiver_of port (map (candidate_of port) (kept (is_qualified w t) l)))

-- the fields that share a word with others fit their widths
pub record Small (r : Record) : Type 0 where
  pub port : r.notice.sender.port < 0x10000
  pub sequence : r.notice.sequence < 0x10000
  pub wrflags : r.notice.wrflags < 0x10000
  pub receipts : r.receipts < 0x10000
  pub priority1 : r.notice.grandmaster.priority1 < 0x100
  pub class : r.notice.grandmaster.class < 0x100
  pub accuracy : r.notice.grandmaster.accuracy < 0x100
  pub variance : r.notice.grandmaster.variance < 0x10000
  pub priority2 : r.notice.grandmaster.priority2 < 0x100
  pub steps : r.notice.steps < 0x10000
