-- The words of values whose numbers are all different, written out: an exchange of two words breaks the table, also where definition and code
-- are changed alike. include/dzervolat.h has the same order.
use Rattle.std.specs.Prelude.{Some, None, Ok}
use Prim.Native.Nat.{ℕ}
use mathlib.Core.Path.{◌≡◌, refl}
use mathlib.Core.Bool.{true, false}
use mathlib.Core.List.{List, [], ◌∷◌}
use lib.IntN.{negsuc}
use Rattle.rank.specs.declared.Candidate.{Candidate}
use Rattle.rank.specs.declared.Grandmaster.{Grandmaster}
use Rattle.identity.specs.declared.PortIdentity.{PortIdentity}
use Rattle.decide.specs.declared.DataSet.{DataSet}
use Rattle.decide.specs.declared.Comparison.TheVariants.{ABetter, BBetter, ABetterByTopology, BBetterByTopology, Error1, Error2}
use Rattle.senders.specs.declared.Record.{Record}
use Rattle.candidate_words.specs.Candidates.{grandmaster_at, candidate_at, set_of, best_of, candidate_words}
use Rattle.candidate_words.specs.Fits.{candidate_fits, set_fits}
use Rattle.candidate_words.specs.Answers.{status_words, record_words, comparison_number}

abbrev pub grandmaster : Grandmaster
grandmaster = record { priority1 = 1; class = 2; accuracy = 3; variance = 4; priority2 = 5; identity = 6 }

abbrev pub sender : PortIdentity
sender = record { clock = 8; port = 9 }

abbrev pub candidate : Candidate
candidate = record { grandmaster = grandmaster; steps = 7; sender = sender; port = 10; wrflags = 11 }

abbrev pub set : DataSet
set = record { grandmaster = grandmaster; steps = 7; sender = sender; receiver = record { clock = 10; port = 11 } }

abbrev pub kept : Record
kept =
    record {
      notice = record { sender = sender; sequence = 21; grandmaster = grandmaster; steps = 7; wrflags = 11 };
      receipts = 2;
      newest = 23;
      older = 22;
    }

abbrev pub words : List ℕ
words = 1 ∷ 2 ∷ 3 ∷ 4 ∷ 5 ∷ 6 ∷ 7 ∷ 8 ∷ 9 ∷ 10 ∷ 11 ∷ []

-- a candidate, a data set, our quality, a port's best, a record, a port's status
pub record Words : Type 0 where
  pub candidate_out : candidate_words candidate ≡ words
  pub candidate_in_lem : candidate_at words 0 ≡ candidate
  pub set_in : set_of words ≡ set
  pub own_in : grandmaster_at words 0 ≡ grandmaster
  pub best_in_lem : best_of (1 ∷ words) ≡ Some candidate
  pub no_best_in : best_of (0 ∷ words) ≡ None
  pub record_out : record_words kept ≡ 1 ∷ 8 ∷ 9 ∷ 21 ∷ 2 ∷ 23 ∷ 22 ∷ 1 ∷ 2 ∷ 3 ∷ 4 ∷ 5 ∷ 6 ∷ 7 ∷ 11 ∷ []
  pub status_out : status_words (Ok (31, negsuc 2)) [] ≡ 31 ∷ 0xfffffffffffffffd ∷ []

pub in_order : Words
in_order =
    record {
      candidate_out = refl;
      candidate_in_lem = refl;
      set_in = refl;
      own_in = refl;
      best_in_lem = refl;
      no_best_in = refl;
      record_out = refl;
      status_out = refl;
    }

-- the largest number of each field fits, one more does not; a candidate's port is not asked
pub record Limits : Type 0 where
  pub all : candidate_fits (255 ∷ 255 ∷ 255 ∷ 65535 ∷ 255 ∷ 0xffffffffffffffff ∷ 65535 ∷ 0xffffffffffffffff ∷ 65535 ∷ 257 ∷ 65535 ∷ []) 0 ≡ true
  pub priority1 : candidate_fits (256 ∷ 2 ∷ 3 ∷ 4 ∷ 5 ∷ 6 ∷ 7 ∷ 8 ∷ 9 ∷ 10 ∷ 11 ∷ []) 0 ≡ false
  pub class : candidate_fits (1 ∷ 262 ∷ 3 ∷ 4 ∷ 5 ∷ 6 ∷ 7 ∷ 8 ∷ 9 ∷ 10 ∷ 11 ∷ []) 0 ≡ false
  pub accuracy : candidate_fits (1 ∷ 2 ∷ 256 ∷ 4 ∷ 5 ∷ 6 ∷ 7 ∷ 8 ∷ 9 ∷ 10 ∷ 11 ∷ []) 0 ≡ false
  pub variance : candidate_fits (1 ∷ 2 ∷ 3 ∷ 65536 ∷ 5 ∷ 6 ∷ 7 ∷ 8 ∷ 9 ∷ 10 ∷ 11 ∷ []) 0 ≡ false
  pub priority2 : candidate_fits (1 ∷ 2 ∷ 3 ∷ 4 ∷ 256 ∷ 6 ∷ 7 ∷ 8 ∷ 9 ∷ 10 ∷ 11 ∷ []) 0 ≡ false
  pub steps : candidate_fits (1 ∷ 2 ∷ 3 ∷ 4 ∷ 5 ∷ 6 ∷ 65536 ∷ 8 ∷ 9 ∷ 10 ∷ 11 ∷ []) 0 ≡ false
  pub sender : candidate_fits (1 ∷ 2 ∷ 3 ∷ 4 ∷ 5 ∷ 6 ∷ 7 ∷ 8 ∷ 65536 ∷ 10 ∷ 11 ∷ []) 0 ≡ false
  pub wrflags : candidate_fits (1 ∷ 2 ∷ 3 ∷ 4 ∷ 5 ∷ 6 ∷ 7 ∷ 8 ∷ 9 ∷ 10 ∷ 65536 ∷ []) 0 ≡ false
  pub receiver : set_fits (1 ∷ 2 ∷ 3 ∷ 4 ∷ 5 ∷ 6 ∷ 7 ∷ 8 ∷ 9 ∷ 10 ∷ 65536 ∷ []) ≡ false

pub limits : Limits
limits =
    record {
      all = refl;
      priority1 = refl;
      class = refl;
      accuracy = refl;
      variance = refl;
      priority2 = refl;
      steps = refl;
      sender = refl;
      wrflags = refl;
      receiver = refl;
    }

-- the six answers of the comparison, in the order of include/dzervolat.h
pub record Numbers : Type 0 where
  pub a : comparison_number ABetter ≡ 1
  pub b : comparison_number BBetter ≡ 2
  pub a_topology : comparison_number ABetterByTopology ≡ 3
  pub b_topology : comparison_number BBetterByTopology ≡ 4
  pub error_1 : comparison_number Error1 ≡ 5
  pub error_2 : comparison_number Error2 ≡ 6

pub numbers : Numbers
numbers = record { a = refl; b = refl; a_topology = refl; b_topology = refl; error_1 = refl; error_2 = refl }
