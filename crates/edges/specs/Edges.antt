-- "Worked at the edges" (01): a row asks one of the definitions that the contracts cite, and says what it must answer.
use Rattle.std.specs.Prelude.{ℕ, ◌^◌, ◌≡◌, List, [], ◌∷◌, true, false, ℤ, pos, negsuc, get_or, Some, Result, Ok, Err}
use Rattle.refusal.specs.declared.Refusal.TheVariants.{Stale}
use Rattle.tlv.specs.Faults.{fault_of}
use Rattle.tlv.specs.declared.walk.Fault.TheVariants.{Broken}
use Rattle.tlv.specs.Wr.{suffix_in}
use Rattle.rank.specs.Calls.{ranking_of, done_of}
use Rattle.rank.specs.declared.Candidate.{Candidate}
use Rattle.senders.specs.declared.Notice.{Notice}
use Rattle.senders.specs.declared.Record.{Record}
use Rattle.senders.specs.Record.{window_of, is_live, is_qualified}
use Rattle.senders.specs.Port.{Port, empty_slot, tab, plan_of, port_after, outcome_of}
use Rattle.decide.specs.Comparing.{compare_of}
use Rattle.decide.specs.declared.DataSet.{DataSet}
use Rattle.decide.specs.declared.Comparison.TheVariants.{BBetter}
use Rattle.delay.specs.Answer.{measure_of}
use Rattle.delay.specs.declared.Exchange.{Exchange}
use Rattle.delay.specs.declared.Offset.{Offset}
use Rattle.refusal.specs.declared.Refusal.{Refusal}
use Rattle.delay.specs.declared.ScaledNs.{ScaledNs}

-- a row: what is asked and what 01 says, of whatever type the answer is
pub data Row : Type 1 where
  row : {A : Type 0} → A → A → Row

abbrev pub Holds : Row → Type 0
Holds (row asked said) = asked ≡ said

-- a suffix of length L: "bytes 00 03 00 0A 08 00 30 AB CD 01 20 00 00 07"
abbrev pub suffix_of : ℕ → List ℕ
suffix_of l = 0x00 ∷ 0x03 ∷ 0x00 ∷ l ∷ 0x08 ∷ 0x00 ∷ 0x30 ∷ 0xAB ∷ 0xCD ∷ 0x01 ∷ 0x20 ∷ 0x00 ∷ 0x00 ∷ 0x07 ∷ []

-- an Announce of one sender, by its sequenceId
abbrev pub announced : ℕ → Notice
announced n =
    record {
      sender = record { clock = 7; port = 1 };
      sequence = n;
      grandmaster = empty_slot.notice.grandmaster;
      steps = 0;
      wrflags = 0;
    }

-- "receipts at 0 and 10^9": what a fresh port keeps of a sender whose Announces it took at these times
abbrev pub taking : Port → ℕ → Notice → Port
taking p t a = port_after p t (plan_of p t a)

abbrev pub heard_twice : Record
heard_twice =
    get_or (taking (taking (record { last = 0; e = 0; slots = tab 16 (λ i. empty_slot) }) 0 (announced 0)) (10 ^ 9) (announced 1)).slots 0 empty_slot

-- "interval 1 s": k = 0
abbrev pub window : ℕ
window = window_of 0

-- a port that heard one sequenceId, and what it answers to the next
abbrev pub answer_to : ℕ → ℕ → Result (Unit {0}) Refusal
answer_to old new =
    outcome_of (plan_of (record { last = 0; e = 0; slots = record { notice = announced old; receipts = 1; newest = 0; older = 0 } ∷ [] }) 0 (announced new))

-- sets of one grandmaster, by their steps
abbrev pub away : ℕ → DataSet
away steps =
    record {
      grandmaster = empty_slot.notice.grandmaster;
      steps = steps;
      sender = record { clock = 7; port = 1 };
      receiver = record { clock = 100; port = 1 };
    }

-- "a = 2^38, .. other terms 0", with t2 and t3 so many parts of 2^-16 ns: M - D is t2 - t3
abbrev pub leaning : ℕ → ℕ → Exchange
leaning fraction2 fraction3 =
    record {
      stamps =
          record {
            t1 = record { seconds = 0; nanos = 0 };
            t2 = record { seconds = 0; nanos = 0; fraction = fraction2 };
            t3 = record { seconds = 0; nanos = 0; fraction = fraction3 };
            t4 = record { seconds = 0; nanos = 0 };
          };
      corrections = record { sync = record { 0 = pos 0 }; follow = record { 0 = pos 0 }; resp = record { 0 = pos 0 } };
      latencies = record { mtx = record { 0 = 0 }; mrx = record { 0 = 0 }; stx = record { 0 = 0 }; srx = record { 0 = 0 } };
      asymmetry = record { 0 = pos (2 ^ 38) };
    }

-- a delay, and an offset below a second
abbrev pub measured : ℤ → ℕ → Result (ScaledNs × Offset) Refusal
measured delay rest = Ok (record { 0 = delay }, record { seconds = pos 0; rest = rest })

abbrev pub none : List Candidate
none = []

-- THE TABLE
abbrev pub table : List Row
table =
    row (suffix_in 0xABCD (suffix_of 0x0A)) (Some 7)  -- (1)
    ∷ row (fault_of 0xABCD (suffix_of 9)) (Err (Broken 0))  -- (2): 6, and where
    ∷ row (is_qualified window 4000000000 heard_twice) true  -- (3)
    ∷ row (is_qualified window 4000000001 heard_twice) false  -- (4)
    ∷ row (is_live window 5000000000 heard_twice) true  -- (5)
    ∷ row (is_live window 5000000001 heard_twice) false  -- (6)
    ∷ row (answer_to 65535 0) (Ok tt)  -- (7)
    ∷ row (answer_to 0 32768) (Err Stale)  -- (8)
    ∷ row (compare_of (away 65535) (away 0)) BBetter  -- (9)
    ∷ row (measure_of (leaning 10 0)) (measured (pos 5) 5)  -- (10): the offset is t2 less the delay
    ∷ row (measure_of (leaning 0 1)) (measured (negsuc 0) 1)  -- (11)
    ∷ row (ranking_of none) (done_of none)  -- (12)
    ∷ []

-- every row of a table holds
abbrev pub All : List Row → Type 0
All [] = Unit {0}
All (r ∷ l) = Holds r × All l
