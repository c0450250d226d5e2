-- The limits of the delay section (01, "Delay and offset"), as tests and, with the same words, as claims.
use Rattle.std.specs.Prelude.{ℕ, ◌^◌, ◌<◌, Bool, ◌&&◌, ltb, ◌-ℤ◌}
use Rattle.refusal.specs.Limits.{second_nanos}
use Rattle.signed.specs.Limits.{within, Within}
use Rattle.delay.specs.declared.ScaledPs.{ScaledPs}
use Rattle.delay.specs.declared.Stamps.{Stamps}
use Rattle.delay.specs.declared.Corrections.{Corrections}
use Rattle.delay.specs.declared.Latencies.{Latencies}
use Rattle.delay.specs.declared.Exchange.{Exchange}
use Rattle.delay.specs.Delay.{t1, t2, t3, t4}

-- "Each correction, t4 - t1 and t3 - t2 lie strictly between -2^47 and 2^47"
unfoldable pub corrections_good : Corrections → Bool
corrections_good c = within 47 c.sync.0 && within 47 c.follow.0 && within 47 c.resp.0

unfoldable pub differences_good : Exchange → Bool
differences_good x = within 47 (t4 x -ℤ t1 x) && within 47 (t3 x -ℤ t2 x)

-- "latencies from 0 to below 2^50"
abbrev pub latency_good : ScaledPs → Bool
latency_good l = ltb l.0 (2 ^ 50)

unfoldable pub latencies_good : Latencies → Bool
latencies_good l = latency_good l.mtx && latency_good l.mrx && latency_good l.stx && latency_good l.srx

-- "Stamps with 10^9 nanoseconds or more, or seconds of 2^48 or more, also give 14."
unfoldable pub stamp_good : ℕ → ℕ → Bool
stamp_good seconds nanos = ltb seconds (2 ^ 48) && ltb nanos second_nanos

unfoldable pub stamps_good : Stamps → Bool
stamps_good s =
    stamp_good s.t1.seconds s.t1.nanos
    && stamp_good s.t2.seconds s.t2.nanos
    && stamp_good s.t3.seconds s.t3.nanos
    && stamp_good s.t4.seconds s.t4.nanos

-- all but the differences; "a strictly between -2^39 and 2^39"
unfoldable pub inputs_good : Exchange → Bool
inputs_good x =
    stamps_good x.stamps
    && corrections_good x.corrections
    && within 39 x.asymmetry.0
    && latencies_good x.latencies

unfoldable pub in_range : Exchange → Bool
in_range x = inputs_good x && differences_good x

-- the same limits as claims
pub record StampIn (s n : ℕ) : Type 0 where
  pub seconds : s < 2 ^ 48
  pub nanos : n < second_nanos

pub record StampsIn (s : Stamps) : Type 0 where
  pub t1 : StampIn s.t1.seconds s.t1.nanos
  pub t2 : StampIn s.t2.seconds s.t2.nanos
  pub t3 : StampIn s.t3.seconds s.t3.nanos
  pub t4 : StampIn s.t4.seconds s.t4.nanos

pub record CorrectionsIn (c : Corrections) : Type 0 where
  pub sync : Within 47 c.sync.0
  pub follow : Within 47 c.follow.0
  pub resp : Within 47 c.resp.0

pub record LatenciesIn (l : Latencies) : Type 0 where
  pub mtx : l.mtx.0 < 2 ^ 50
  pub mrx : l.mrx.0 < 2 ^ 50
  pub stx : l.stx.0 < 2 ^ 50
  pub srx : l.srx.0 < 2 ^ 50

pub record InputsIn (x : Exchange) : Type 0 where
  pub stamps : StampsIn x.stamps
  pub corrections : CorrectionsIn x.corrections
  pub asymmetry : Within 39 x.asymmetry.0
  pub latencies : LatenciesIn x.latencies

pub record InRange (x : Exchange) : Type 0 where
  pub inputs : InputsIn x
  pub outer : Within 47 (t4 x -ℤ t1 x)
  pub inner : Within 47 (t3 x -ℤ t2 x)
