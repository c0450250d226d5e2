-- Worked inputs, computed: the eight windows, and histories of one port that rule out an intake that does nothing,
-- refuses everything or has one answer.
use Rattle.std.specs.Prelude.{Ok, Err}
use Rattle.std.proofs.Common.{◌≡◌, ℕ, true, false, List, [], ◌∷◌, map, refl}
use Rattle.refusal.specs.Choice.{refuse}
use Rattle.refusal.specs.declared.Refusal.TheVariants.{Backward, Stale, Full}
use Rattle.senders.specs.declared.Notice.{Notice}
use Rattle.senders.specs.Record.{window_of, is_newer, fresh_of, next_of}
use Rattle.rank.specs.declared.Candidate.{Candidate}
use Rattle.senders.specs.Port.{Port, empty_slot, slot_of, tab, first, kept, plan_of, port_after, candidates_of}

-- a sender's Announce, by its clock, number and steps
abbrev announce : ℕ → ℕ → ℕ → Notice
announce clock n steps =
    record {
      sender = record { clock = clock; port = 1 };
      sequence = n;
      grandmaster = empty_slot.notice.grandmaster;
      steps = steps;
      wrflags = 0;
    }

abbrev from : ℕ → ℕ → Notice
from clock n = announce clock n 0

-- four intervals of an eighth of a second to sixteen seconds: k = 0, 1, 2, 3, 4, -3, -2, -1 modulo 8
pub windows : map window_of (0 ∷ 1 ∷ 2 ∷ 3 ∷ 4 ∷ 5 ∷ 6 ∷ 7 ∷ []) ≡ 4000000000 ∷ 8000000000 ∷ 16000000000 ∷ 32000000000 ∷ 64000000000 ∷ 500000000 ∷ 1000000000 ∷ 2000000000 ∷ []
windows = refl

-- "(new - old) mod 65,536 in 1 to 32,767": each edge of it, and around the end of 16 bits
pub newer_edges : map (λ new. is_newer new 65000) (65000 ∷ 65001 ∷ 65535 ∷ 0 ∷ 32231 ∷ 32232 ∷ 64999 ∷ []) ≡ false ∷ true ∷ true ∷ true ∷ true ∷ false ∷ false ∷ []
newer_edges = refl

-- a fresh port, and one with sixteen senders that were heard at 100
abbrev new : Port
new = record { last = 0; e = 0; slots = tab 16 (λ i. empty_slot) }

abbrev sixteen_at : ℕ → Port
sixteen_at steps = record { last = 100; e = 0; slots = tab 16 (λ i. fresh_of 100 (announce i 5 steps)) }

abbrev sixteen : Port
sixteen = sixteen_at 0

-- the first sender takes slot 0, also at time 0
pub taken : plan_of new 0 (from 7 9) ≡ Ok (0, fresh_of 0 (from 7 9))
unfolding plan_of first tab refuse
taken = refl

-- each refusal comes
pub backward : plan_of sixteen 99 (from 3 6) ≡ Err Backward
unfolding plan_of first tab refuse
backward = refl

pub stale : plan_of sixteen 100 (from 3 5) ≡ Err Stale
unfolding plan_of first tab refuse
stale = refl

pub full : plan_of sixteen 4000000100 (from 16 6) ≡ Err Full
unfolding plan_of first tab refuse
full = refl

-- a sender of sixteen goes on in its slot
pub newer : plan_of sixteen 200 (from 3 6) ≡ Ok (3, next_of (fresh_of 100 (from 3 5)) 200 (from 3 6))
unfolding plan_of first tab refuse
newer = refl

-- one nanosecond past the window a new sender has the lowest slot, and an old one restarts in its own with any number
pub reused : plan_of sixteen 4000000101 (from 16 6) ≡ Ok (0, fresh_of 4000000101 (from 16 6))
unfolding plan_of first tab refuse
reused = refl

pub restarted : plan_of sixteen 4000000101 (from 3 5) ≡ Ok (3, fresh_of 4000000101 (from 3 5))
unfolding plan_of first tab refuse
restarted = refl

-- two ports of one clock are two senders
pub other_port : plan_of (port_after new 0 (Ok (0, fresh_of 0 (from 7 9)))) 0 (record { sender = record { clock = 7; port = 2 }; sequence = 9; grandmaster = empty_slot.notice.grandmaster; steps = 0; wrflags = 0 })
    ≡ Ok (1, fresh_of 0 (record { sender = record { clock = 7; port = 2 }; sequence = 9; grandmaster = empty_slot.notice.grandmaster; steps = 0; wrflags = 0 }))
unfolding plan_of first tab refuse
other_port = refl

-- ---- what a history makes a candidate of: an Announce whose numbers are all different, heard once, twice and three times
abbrev away : ℕ → ℕ → Notice
away steps n =
    record {
      sender = record { clock = 11; port = 12 };
      sequence = n;
      grandmaster = record { priority1 = 1; class = 2; accuracy = 3; variance = 4; priority2 = 5; identity = 6 };
      steps = steps;
      wrflags = 8;
    }

abbrev heard : ℕ → Notice
heard n = away 7 n

abbrev taking : Port → ℕ → Notice → Port
taking p t a = port_after p t (plan_of p t a)

abbrev once : Port
once = taking new 0 (heard 20)

abbrev twice : Port
twice = taking once 1000000000 (heard 21)

abbrev thrice : Port
thrice = taking twice 2000000000 (heard 22)

-- the ten keys, on port 9
abbrev keys_away : ℕ → Candidate
keys_away steps =
    record {
      grandmaster = record { priority1 = 1; class = 2; accuracy = 3; variance = 4; priority2 = 5; identity = 6 };
      steps = steps;
      sender = record { clock = 11; port = 12 };
      port = 9;
      wrflags = 8;
    }

abbrev keys : Candidate
keys = keys_away 7

-- one receipt is no candidate; two are, while the older lies within four seconds; a third shifts them
pub record Qualified : Type 0 where
  pub one : candidates_of 9 once 0 ≡ []
  pub two : candidates_of 9 twice 1000000000 ≡ keys ∷ []
  pub last : candidates_of 9 twice 4000000000 ≡ keys ∷ []
  pub late : candidates_of 9 twice 4000000001 ≡ []
  pub shifted : candidates_of 9 thrice 5000000000 ≡ keys ∷ []
  pub shifted_late : candidates_of 9 thrice 5000000001 ≡ []

pub qualified : Qualified
unfolding plan_of first tab refuse candidates_of kept
qualified = record { one = refl; two = refl; last = refl; late = refl; shifted = refl; shifted_late = refl }

-- "It then shifts the receipts and replaces the data.": the second Announce of that sender has other numbers throughout, and they are what is kept
abbrev other : Notice
other =
    record {
      sender = record { clock = 11; port = 12 };
      sequence = 21;
      grandmaster = record { priority1 = 31; class = 32; accuracy = 33; variance = 34; priority2 = 35; identity = 36 };
      steps = 37;
      wrflags = 38;
    }

pub replaced : candidates_of 9 (taking once 1000000000 other) 1000000000
    ≡ record {
      grandmaster = record { priority1 = 31; class = 32; accuracy = 33; variance = 34; priority2 = 35; identity = 36 };
      steps = 37;
      sender = record { clock = 11; port = 12 };
      port = 9;
      wrflags = 38;
    }
    ∷ []
unfolding plan_of first tab refuse candidates_of kept
replaced = refl

-- ---- 02 (iii), "255 or more is kept but not qualified; 254 is": two Announces of these steps, a second apart
abbrev after_two : ℕ → ℕ → Port
after_two first second = taking (taking new 0 (away first 20)) 1000000000 (away second 21)

-- who is a candidate after them, at the last moment at which both lie in the window
abbrev standing : ℕ → ℕ → List Candidate
standing first second = candidates_of 9 (after_two first second) 4000000000

pub record Distant : Type 0 where
  pub «254-is» : standing 254 254 ≡ keys_away 254 ∷ []
  pub «255-is-none» : standing 255 255 ≡ []
  -- the latest data count, and at once
  pub back_again : standing 255 254 ≡ keys_away 254 ∷ []
  pub gone : standing 254 255 ≡ []
  -- all 16 bits of them
  pub «256-is-none» : standing 0 256 ≡ []
  pub «65535-is-none» : standing 0 65535 ≡ []
  -- the record is kept, its receipts shift, and its data are replaced
  pub kept_on : slot_of (after_two 254 255) 0 ≡ record { notice = away 255 21; receipts = 2; newest = 1000000000; older = 0 }
  -- it gives 12 and 13, has its place while it is live, and begins again in it
  pub stale_too : plan_of (after_two 254 255) 2000000000 (away 0 21) ≡ Err Stale
  pub full_too : plan_of (sixteen_at 255) 4000000100 (from 16 6) ≡ Err Full
  pub restarted_too : plan_of (sixteen_at 255) 4000000101 (from 3 5) ≡ Ok (3, fresh_of 4000000101 (from 3 5))

pub distant : Distant
unfolding plan_of first tab refuse candidates_of kept
distant =
    record {
      «254-is» = refl;
      «255-is-none» = refl;
      back_again = refl;
      gone = refl;
      «256-is-none» = refl;
      «65535-is-none» = refl;
      kept_on = refl;
      stale_too = refl;
      full_too = refl;
      restarted_too = refl;
    }
