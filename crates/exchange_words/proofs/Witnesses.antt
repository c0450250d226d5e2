-- An exchange and its answer in words whose numbers are all different, written out: an exchange of two words breaks the table, also where definition and
-- code are changed alike. include/dzervolat.h has the same order.
use Rattle.std.specs.Prelude.{Ok}
use Prim.Native.Nat.{ℕ}
use mathlib.Core.Path.{◌≡◌, refl}
use mathlib.Core.Bool.{true, false}
use mathlib.Core.List.{List, [], ◌∷◌}
use lib.IntN.{pos, negsuc}
use Rattle.delay.specs.declared.Exchange.{Exchange}
use Rattle.exchange_words.specs.Exchanges.{exchange_of, exchange_fits, measured_words}

abbrev pub words : List ℕ
words = 1 ∷ 2 ∷ 3 ∷ 0xfffffffffffffffc ∷ 5 ∷ 6 ∷ 7 ∷ 8 ∷ 9 ∷ 10 ∷ 11 ∷ 12 ∷ 13 ∷ 14 ∷ 15 ∷ 16 ∷ 17 ∷ 0xffffffffffffffee ∷ []

-- T1S T1N SYNC FOLLOW T2S T2N T2F T3S T3N T3F T4S T4N RESP MTX MRX STX SRX A; the Follow_Up's correction is -4, the asymmetry -18
abbrev pub exchange : Exchange
exchange =
    record {
      stamps =
          record {
            t1 = record { seconds = 1; nanos = 2 };
            t2 = record { seconds = 5; nanos = 6; fraction = 7 };
            t3 = record { seconds = 8; nanos = 9; fraction = 10 };
            t4 = record { seconds = 11; nanos = 12 };
          };
      corrections = record { sync = record { 0 = pos 3 }; follow = record { 0 = negsuc 3 }; resp = record { 0 = pos 13 } };
      latencies =
          record { mtx = record { 0 = 14 }; mrx = record { 0 = 15 }; stx = record { 0 = 16 }; srx = record { 0 = 17 } };
      asymmetry = record { 0 = negsuc 17 };
    }

pub record Words : Type 0 where
  pub exchange_in : exchange_of words ≡ exchange
  pub fits : exchange_fits words ≡ true
  pub measured_out : measured_words (Ok (record { 0 = negsuc 0 }, record { seconds = negsuc 1; rest = 3 })) [] ≡ 0xffffffffffffffff ∷ 0xfffffffffffffffe ∷ 3 ∷ []

pub in_order : Words
in_order = record { exchange_in = refl; fits = refl; measured_out = refl }

-- one more than a field holds, in each of the six words that have a field of less than 64 bits
pub record Limits : Type 0 where
  pub t1 : exchange_fits (1 ∷ 0x100000000 ∷ 3 ∷ 4 ∷ 5 ∷ 6 ∷ 7 ∷ 8 ∷ 9 ∷ 10 ∷ 11 ∷ 12 ∷ []) ≡ false
  pub t2 : exchange_fits (1 ∷ 2 ∷ 3 ∷ 4 ∷ 5 ∷ 0x100000000 ∷ 7 ∷ 8 ∷ 9 ∷ 10 ∷ 11 ∷ 12 ∷ []) ≡ false
  pub t2_fraction : exchange_fits (1 ∷ 2 ∷ 3 ∷ 4 ∷ 5 ∷ 6 ∷ 65536 ∷ 8 ∷ 9 ∷ 10 ∷ 11 ∷ 12 ∷ []) ≡ false
  pub t3 : exchange_fits (1 ∷ 2 ∷ 3 ∷ 4 ∷ 5 ∷ 6 ∷ 7 ∷ 8 ∷ 0x100000000 ∷ 10 ∷ 11 ∷ 12 ∷ []) ≡ false
  pub t3_fraction : exchange_fits (1 ∷ 2 ∷ 3 ∷ 4 ∷ 5 ∷ 6 ∷ 7 ∷ 8 ∷ 9 ∷ 65536 ∷ 11 ∷ 12 ∷ []) ≡ false
  pub t4 : exchange_fits (1 ∷ 2 ∷ 3 ∷ 4 ∷ 5 ∷ 6 ∷ 7 ∷ 8 ∷ 9 ∷ 10 ∷ 11 ∷ 0x100000000 ∷ []) ≡ false

pub limits : Limits
limits = record { t1 = refl; t2 = refl; t2_fraction = refl; t3 = refl; t3_fraction = refl; t4 = refl }
