-- What the code works with: signed numbers raised by a fixed amount, so that they are natural ones.
use Rattle.std.specs.Prelude.{◌≡◌, false, ℕ, ◌+◌, ◌*◌, ◌^◌, ◌<◌, ℤ, pos, ◌+ℤ◌, ◌-ℤ◌, Option, Some, None}
use Rattle.signed.specs.Limits.{within, Within}
use Rattle.delay.specs.declared.time.Time.{Time}
use Rattle.delay.specs.declared.Exchange.{Exchange}
use Rattle.delay.specs.Delay.{second, M, share}
use Rattle.delay.specs.Range.{in_range, InRange}

-- whole seconds and a part, in all
abbrev pub time_of : Time → ℕ
time_of t = t.seconds * second + t.part

-- t is the time z, raised by 2^48
abbrev pub TimeIs : ℤ → Time → Type 0
TimeIs z t = pos (time_of t) ≡ z +ℤ pos (2 ^ 48)

-- z within its limit and raised by 2^47, or outside it
abbrev pub SpanIs : ℤ → Option ℕ → Type 0
SpanIs z (Some n) = Within 47 z × (pos n ≡ z +ℤ pos (2 ^ 47))
SpanIs z None = within 47 z ≡ false

-- M, raised by 2^48, of an exchange that is in range
abbrev pub MIs : Exchange → Option ℕ → Type 0
MIs x (Some n) = InRange x × (pos n ≡ M x +ℤ pos (2 ^ 48))
MIs x None = in_range x ≡ false

-- r is the share of z, and comes, as z does, raised by 2^49
pub record ShareIs (a : ℤ) (z r : ℕ) : Type 0 where
  pub is : pos r ≡ share a (pos z -ℤ pos (2 ^ 49)) +ℤ pos (2 ^ 49)
  pub top : r < 2 ^ 50 + 2 ^ 49

-- r is the delay z, raised by 2^49
pub record DelayIs (z : ℤ) (r : ℕ) : Type 0 where
  pub is : pos r ≡ z +ℤ pos (2 ^ 49)
  pub top : r < 2 ^ 51
