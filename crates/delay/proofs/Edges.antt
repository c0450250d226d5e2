-- Exchanges at the edges, each computed: what the contract demands there.
use Rattle.std.specs.Prelude.{Result, Ok, Err}
use mathlib.Core.Path.{◌≡◌, refl}
use mathlib.Core.List.{List, [], ◌∷◌, map}
use Prim.Native.Nat.{ℕ, ◌+◌, ◌-◌, ◌*◌, ◌^◌}
use lib.IntN.{ℤ, pos, negsuc, neg_ℤ, ◌+ℤ◌, ◌-ℤ◌}
use Rattle.refusal.specs.declared.Refusal.TheVariants.{Range}
use Rattle.delay.specs.declared.Stamp.{Stamp}
use Rattle.delay.specs.declared.FineStamp.{FineStamp}
use Rattle.delay.specs.declared.ScaledNs.{ScaledNs}
use Rattle.delay.specs.declared.Corrections.{Corrections}
use Rattle.delay.specs.declared.Latencies.{Latencies}
use Rattle.delay.specs.declared.Exchange.{Exchange}
use Rattle.delay.specs.Delay.{t1, t2, t3, t4, M, D, in_ns, share, delay, offset, second}
use Rattle.delay.specs.Range.{stamp_good, stamps_good, corrections_good, latencies_good, differences_good, inputs_good, in_range}
use Rattle.delay.specs.Answer.{measure_of}
use Rattle.delay.specs.declared.Offset.{Offset}
use Rattle.refusal.specs.declared.Refusal.{Refusal}

-- an exchange, its parts in short
abbrev stamp : ℕ → ℕ → Stamp
stamp s n = record { seconds = s; nanos = n }

abbrev fine_stamp : ℕ → ℕ → ℕ → FineStamp
fine_stamp s n f = record { seconds = s; nanos = n; fraction = f }

abbrev ns : ℤ → ScaledNs
ns z = record { 0 = z }

abbrev corrections : ℤ → ℤ → ℤ → Corrections
corrections a b c = record { sync = ns a; follow = ns b; resp = ns c }

abbrev pub latencies : ℕ → ℕ → ℕ → ℕ → Latencies
latencies a b c d = record { mtx = record { 0 = a }; mrx = record { 0 = b }; stx = record { 0 = c }; srx = record { 0 = d } }

abbrev exchange : Stamp → FineStamp → FineStamp → Stamp → Corrections → Latencies → ℤ → Exchange
exchange a b c d k l r = record { stamps = record { t1 = a; t2 = b; t3 = c; t4 = d }; corrections = k; latencies = l; asymmetry = record { 0 = r } }

-- stamps alone, corrections alone, and fractions of t2 and t3 with latencies and an asymmetry; all else is 0
abbrev plain : Stamp → FineStamp → FineStamp → Stamp → Exchange
plain a b c d = exchange a b c d (corrections (pos 0) (pos 0) (pos 0)) (latencies 0 0 0 0) (pos 0)

abbrev corrected : ℤ → ℤ → ℤ → Exchange
corrected a b c = exchange (stamp 0 0) (fine_stamp 0 0 0) (fine_stamp 0 0 0) (stamp 0 0) (corrections a b c) (latencies 0 0 0 0) (pos 0)

abbrev pub fractions : ℕ → ℕ → Latencies → ℤ → Exchange
fractions f g l a = exchange (stamp 0 0) (fine_stamp 0 0 f) (fine_stamp 0 0 g) (stamp 0 0) (corrections (pos 0) (pos 0) (pos 0)) l a

-- an answer: the delay, whole seconds and rest of the offset
abbrev pub answer : ℤ → ℤ → ℕ → Result (ScaledNs × Offset) Refusal
answer d s r = Ok (ns d, record { seconds = s; rest = r })

abbrev refused : Result (ScaledNs × Offset) Refusal
refused = Err Range

-- "(10) a = 2^38, M - D = 10, other terms 0: delay 5"
pub row10 : measure_of (fractions 10 0 (latencies 0 0 0 0) (pos (2 ^ 38))) ≡ answer (pos 5) (pos 0) 5
unfolding t1 t2 t3 t4 share delay offset stamp_good stamps_good corrections_good latencies_good differences_good inputs_good in_range
row10 = refl

-- "(11) the same, -1: -1"
pub row11 : measure_of (fractions 0 1 (latencies 0 0 0 0) (pos (2 ^ 38))) ≡ answer (negsuc 0) (pos 0) 1
unfolding t1 t2 t3 t4 share delay offset stamp_good stamps_good corrections_good latencies_good differences_good inputs_good in_range
row11 = refl

-- the same of every exchange
module _ (x : Exchange) (a : x.asymmetry.0 ≡ pos (2 ^ 38)) (l : in_ns (x.latencies.mtx.0 + x.latencies.srx.0) ≡ pos 0) where
  pub row10_any : M x -ℤ D x.latencies ≡ pos 10 → delay x ≡ pos 5
  unfolding share delay
  row10_any m = λ i. share (a i) (m i) +ℤ l i

  pub row11_any : M x -ℤ D x.latencies ≡ negsuc 0 → delay x ≡ negsuc 0
  unfolding share delay
  row11_any m = λ i. share (a i) (m i) +ℤ l i

-- "Dividing each latency by 1000 and then adding: four of 999 give 3, not 0."
pub four_of_999 : D (latencies 999 999 999 999) ≡ pos 3
four_of_999 = refl

-- a delay and an offset of nothing; and what is demanded at each limit and one step inside it
abbrev limit : ℕ
limit = 2 ^ 47

abbrev cases : List (Exchange × (Result (ScaledNs × Offset) Refusal))
cases =
    (corrected (pos 0) (pos 0) (pos 0), answer (pos 0) (pos 0) 0)
    ∷ (fractions 3 0 (latencies 999 999 999 999) (pos 0), answer (pos 1) (pos 0) 2)
    -- D is odd, so that its half is rounded down as well: one less than M / 2
    ∷ (fractions 0 0 (latencies 250 250 250 250) (pos 0), answer (negsuc 0) (pos 0) 1)
    -- each latency its own number, so that each counts in its place: D is 4321, and the way there 4001
    ∷ (fractions 0 0 (latencies 1000 20000 300000 4000000) (pos 0), answer (pos 1840) (negsuc 0) 65535999998160)
    -- rounded down: the smallest negative offset
    ∷ (corrected (pos 1) (pos 0) (negsuc 0), answer (pos 0) (negsuc 0) 65535999999999)
    -- each correction
    ∷ (corrected (pos (limit - 1)) (pos 0) (neg_ℤ (pos (limit - 1))), answer (pos 0) (negsuc 2) 55870511644673)
    ∷ (corrected (pos limit) (pos 0) (neg_ℤ (pos (limit - 1))), refused)
    ∷ (corrected (neg_ℤ (pos limit)) (pos 1) (pos (limit - 1)), refused)
    ∷ (corrected (pos 0) (pos limit) (neg_ℤ (pos (limit - 1))), refused)
    ∷ (corrected (pos (limit - 1)) (pos 0) (neg_ℤ (pos limit)), refused)
    -- t4 - t1, with its corrections: three seconds less two are fine, and twice 2^46 are too much
    ∷ (
      exchange (stamp 0 0) (fine_stamp 0 0 0) (fine_stamp 0 0 0) (stamp 3 0) (corrections (pos 0) (pos 0) (pos (2 * second))) (latencies 0 0 0 0) (pos 0),
      answer (pos 32768000000000) (negsuc 0) 32768000000000,
    )
    ∷ (corrected (pos (2 ^ 46)) (pos (2 ^ 46)) (pos 0), refused)
    ∷ (corrected (neg_ℤ (pos (2 ^ 46))) (pos 0) (neg_ℤ (pos (2 ^ 46))), refused)
    ∷ (corrected (neg_ℤ (pos (2 ^ 46))) (pos 1) (neg_ℤ (pos (2 ^ 46))), answer (pos (2 ^ 46 - 1)) (pos 0) 0)
    -- t3 - t2: 2^31 nanoseconds are 2^47, and t2's fraction counts
    ∷ (plain (stamp 0 0) (fine_stamp 0 0 0) (fine_stamp 2 147483648 0) (stamp 0 0), refused)
    ∷ (plain (stamp 0 0) (fine_stamp 0 0 1) (fine_stamp 2 147483648 0) (stamp 0 0), answer (neg_ℤ (pos (2 ^ 46))) (pos 1) 4832744177665)
    -- seconds and nanoseconds
    ∷ (plain (stamp 0 0) (fine_stamp (2 ^ 48 - 1) 0 0) (fine_stamp (2 ^ 48 - 1) 0 0) (stamp 0 0), answer (pos 0) (pos (2 ^ 48 - 1)) 0)
    ∷ (plain (stamp 0 0) (fine_stamp (2 ^ 48) 0 0) (fine_stamp (2 ^ 48 - 1) 0 0) (stamp 0 0), refused)
    ∷ (plain (stamp 0 999999999) (fine_stamp 0 999999999 0) (fine_stamp 0 999999999 0) (stamp 0 999999999), answer (pos 0) (pos 0) 0)
    ∷ (plain (stamp 0 0) (fine_stamp 0 1000000000 0) (fine_stamp 0 0 0) (stamp 0 0), refused)
    -- the asymmetry
    ∷ (fractions 10 0 (latencies 0 0 0 0) (pos (2 ^ 39 - 1)), answer (pos 5) (pos 0) 5)
    ∷ (fractions 10 0 (latencies 0 0 0 0) (neg_ℤ (pos (2 ^ 39 - 1))), answer (pos 3) (pos 0) 7)
    ∷ (fractions 10 0 (latencies 0 0 0 0) (pos (2 ^ 39)), refused)
    ∷ (fractions 10 0 (latencies 0 0 0 0) (neg_ℤ (pos (2 ^ 39))), refused)
    -- latencies
    ∷ (fractions 0 0 (latencies 0 0 0 (2 ^ 50 - 1)) (pos 0), answer (pos 562949953421) (negsuc 0) 64973050046579)
    ∷ (fractions 0 0 (latencies 0 0 0 (2 ^ 50)) (pos 0), refused)
    ∷ []

pub limits : map (λ (c : Exchange × (Result (ScaledNs × Offset) Refusal)). measure_of c.0) cases ≡ map (λ (c : Exchange × (Result (ScaledNs × Offset) Refusal)). c.1) cases
unfolding t1 t2 t3 t4 share delay offset stamp_good stamps_good corrections_good latencies_good differences_good inputs_good in_range
limits = refl
