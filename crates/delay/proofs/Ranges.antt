-- The limits: each test holds exactly where its claim does.
use mathlib.Core.Path.{◌≡◌, ap₂}
use mathlib.Core.Bool.{Bool, true, false, ◌&&◌, and-false}
use Prim.Native.Nat.{ℕ, ◌^◌}
use lib.Dec.{ltb}
use lib.IntN.{◌-ℤ◌}
use borrow.Author.Tests.{ltb-true, lt-ltb}
use Rattle.laws.proofs.Bools.{both}
use Rattle.signed.specs.Limits.{within}
use Rattle.signed.proofs.Ranges.{within_claim, claim_within}
use Rattle.delay.specs.declared.Stamps.{Stamps}
use Rattle.delay.specs.declared.Corrections.{Corrections}
use Rattle.delay.specs.declared.Latencies.{Latencies}
use Rattle.delay.specs.declared.Exchange.{Exchange}
use Rattle.delay.specs.Delay.{t1, t2, t3, t4}
use Rattle.delay.specs.Range.{corrections_good, differences_good, latency_good, latencies_good, stamp_good, stamps_good, inputs_good, in_range, StampIn, StampsIn, CorrectionsIn, LatenciesIn, InputsIn, InRange}

and3 : (a b c : Bool) → a && b && c ≡ true → (a ≡ true) × (b ≡ true) × (c ≡ true)
and3 a b c e = let p = both (a && b) c e in let q = both a b p.0 in (q.0, q.1, p.1)

and4 : (a b c d : Bool) → a && b && c && d ≡ true → (a ≡ true) × (b ≡ true) × (c ≡ true) × (d ≡ true)
and4 a b c d e = let p = both (a && b && c) d e in let q = and3 a b c p.0 in (q.0, q.1, q.2, p.1)

stamp_told : (s n : ℕ) → stamp_good s n ≡ true → StampIn s n
unfolding stamp_good
stamp_told s n e =
    let p = ltb s (2 ^ 48) in
    let q = ltb n 1000000000 in
    record { seconds = ltb-true s (2 ^ 48) (both p q e).0; nanos = ltb-true n 1000000000 (both p q e).1 }

stamp_yes : {s n : ℕ} → StampIn s n → stamp_good s n ≡ true
unfolding stamp_good
stamp_yes {s} {n} h = ap₂ ◌&&◌ (lt-ltb s (2 ^ 48) h.seconds) (lt-ltb n 1000000000 h.nanos)

stamps_told : (s : Stamps) → stamps_good s ≡ true → StampsIn s
unfolding stamps_good
stamps_told s e =
    let g = and4 (stamp_good s.t1.seconds s.t1.nanos) (stamp_good s.t2.seconds s.t2.nanos) (stamp_good s.t3.seconds s.t3.nanos) (stamp_good s.t4.seconds s.t4.nanos) e in
    record { t1 = stamp_told _ _ g.0; t2 = stamp_told _ _ g.1; t3 = stamp_told _ _ g.2; t4 = stamp_told _ _ g.3 }

stamps_yes : {s : Stamps} → StampsIn s → stamps_good s ≡ true
unfolding stamps_good
stamps_yes h = simp (stamp_yes h.t1, stamp_yes h.t2, stamp_yes h.t3, stamp_yes h.t4)

corrections_told : (c : Corrections) → corrections_good c ≡ true → CorrectionsIn c
unfolding corrections_good
corrections_told c e =
    let g = and3 (within 47 c.sync.0) (within 47 c.follow.0) (within 47 c.resp.0) e in
    record { sync = within_claim 47 _ g.0; follow = within_claim 47 _ g.1; resp = within_claim 47 _ g.2 }

corrections_yes : {c : Corrections} → CorrectionsIn c → corrections_good c ≡ true
unfolding corrections_good
corrections_yes {c} h = ap₂ ◌&&◌ (ap₂ ◌&&◌ (claim_within 47 c.sync.0 h.sync) (claim_within 47 c.follow.0 h.follow)) (claim_within 47 c.resp.0 h.resp)

latencies_told : (l : Latencies) → latencies_good l ≡ true → LatenciesIn l
unfolding latencies_good
latencies_told l e =
    let g = and4 (latency_good l.mtx) (latency_good l.mrx) (latency_good l.stx) (latency_good l.srx) e in
    record {
      mtx = ltb-true l.mtx.0 (2 ^ 50) g.0;
      mrx = ltb-true l.mrx.0 (2 ^ 50) g.1;
      stx = ltb-true l.stx.0 (2 ^ 50) g.2;
      srx = ltb-true l.srx.0 (2 ^ 50) g.3;
    }

latencies_yes : {l : Latencies} → LatenciesIn l → latencies_good l ≡ true
unfolding latencies_good
latencies_yes h = simp (lt-ltb _ _ h.mtx, lt-ltb _ _ h.mrx, lt-ltb _ _ h.stx, lt-ltb _ _ h.srx)

pub inputs_told : (x : Exchange) → inputs_good x ≡ true → InputsIn x
unfolding inputs_good
inputs_told x e =
    let g = and4 (stamps_good x.stamps) (corrections_good x.corrections) (within 39 x.asymmetry.0) (latencies_good x.latencies) e in
    record {
      stamps = stamps_told _ g.0;
      corrections = corrections_told _ g.1;
      asymmetry = within_claim 39 _ g.2;
      latencies = latencies_told _ g.3;
    }

pub inputs_yes : {x : Exchange} → InputsIn x → inputs_good x ≡ true
unfolding inputs_good
inputs_yes {x} h =
    ap₂ ◌&&◌ (ap₂ ◌&&◌ (ap₂ ◌&&◌ (stamps_yes h.stamps) (corrections_yes h.corrections)) (claim_within 39 x.asymmetry.0 h.asymmetry)) (latencies_yes h.latencies)

-- what the whole test tells, and how it comes about
pub range_told : (x : Exchange) → in_range x ≡ true → InRange x
unfolding in_range differences_good
range_told x e =
    let d = (both (inputs_good x) (differences_good x) e).1 in
    let outer = within 47 (t4 x -ℤ t1 x) in
    let inner = within 47 (t3 x -ℤ t2 x) in
    record {
      inputs = inputs_told x (both (inputs_good x) (differences_good x) e).0;
      outer = within_claim 47 _ (both outer inner d).0;
      inner = within_claim 47 _ (both outer inner d).1;
    }

pub range_yes : {x : Exchange} → InRange x → in_range x ≡ true
unfolding in_range differences_good
range_yes {x} h = ap₂ ◌&&◌ (inputs_yes h.inputs) (ap₂ ◌&&◌ (claim_within 47 (t4 x -ℤ t1 x) h.outer) (claim_within 47 (t3 x -ℤ t2 x) h.inner))

-- how it fails
module _ (x : Exchange) where
  pub no_inputs : inputs_good x ≡ false → in_range x ≡ false
  unfolding in_range
  no_inputs e = simp e

  pub no_outer : within 47 (t4 x -ℤ t1 x) ≡ false → in_range x ≡ false
  unfolding in_range differences_good
  no_outer e = simp (e, and-false)

  pub no_inner : within 47 (t3 x -ℤ t2 x) ≡ false → in_range x ≡ false
  unfolding in_range differences_good
  no_inner e = simp (e, and-false)
