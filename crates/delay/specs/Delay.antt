-- Delay and offset of one exchange (01, "Delay and offset"), over the integers and in 01's letters. Times, differences, delay and offset all count
-- nanoseconds times 2^16.
use Rattle.std.specs.Prelude.{ℕ, ◌+◌, ◌*◌, ◌^◌, ℤ, pos, ◌+ℤ◌, ◌-ℤ◌, ◌*ℤ◌}
use Rattle.refusal.specs.Limits.{second_nanos}
use Rattle.signed.specs.Floor.{floor, rest}
use Rattle.delay.specs.declared.Stamp.{Stamp}
use Rattle.delay.specs.declared.FineStamp.{FineStamp}
use Rattle.delay.specs.declared.Latencies.{Latencies}
use Rattle.delay.specs.declared.Exchange.{Exchange}
use Rattle.delay.specs.declared.Offset.{Offset}

-- "A correction counts nanoseconds times 2^16": a stamp as corrections count
abbrev pub coarse : Stamp → ℕ
coarse s = (s.seconds * second_nanos + s.nanos) * 65536

-- "t2 and t3 have a 16-bit fraction of a nanosecond too"
abbrev pub fine : FineStamp → ℕ
fine s = (s.seconds * second_nanos + s.nanos) * 65536 + s.fraction

-- "t1 has the Sync and Follow_Up corrections added"
unfoldable pub t1 : Exchange → ℤ
t1 x = pos (coarse x.stamps.t1) +ℤ x.corrections.sync.0 +ℤ x.corrections.follow.0

unfoldable pub t2 : Exchange → ℤ
t2 x = pos (fine x.stamps.t2)

unfoldable pub t3 : Exchange → ℤ
t3 x = pos (fine x.stamps.t3)

-- "t4 the Delay_Resp correction taken off"
unfoldable pub t4 : Exchange → ℤ
t4 x = pos (coarse x.stamps.t4) -ℤ x.corrections.resp.0

-- "M = (t4 - t1) - (t3 - t2)"
abbrev pub M : Exchange → ℤ
M x = (t4 x -ℤ t1 x) -ℤ (t3 x -ℤ t2 x)

-- "a WR latency counts picoseconds times 2^16": what a sum of latencies is in nanoseconds times 2^16
abbrev pub in_ns : ℕ → ℤ
in_ns sum = floor (pos sum) (pos 1000)

-- "D = floor(sum of four latencies / 1000)"
abbrev pub D : Latencies → ℤ
D l = in_ns (l.mtx.0 + l.mrx.0 + l.stx.0 + l.srx.0)

-- "floor((2^40 + a)(M - D) / (2^41 + a))"
unfoldable pub share : ℤ → ℤ → ℤ
share a z = floor ((pos (2 ^ 40) +ℤ a) *ℤ z) (pos (2 ^ 41) +ℤ a)

-- "delay = floor((2^40 + a)(M - D) / (2^41 + a)) + floor((master tx + slave rx latency) / 1000)"
unfoldable pub delay : Exchange → ℤ
delay x = share x.asymmetry.0 (M x -ℤ D x.latencies) +ℤ in_ns (x.latencies.mtx.0 + x.latencies.srx.0)

-- "Offset = t2 - t1 - delay"
unfoldable pub offset : Exchange → ℤ
offset x = t2 x -ℤ t1 x -ℤ delay x

-- one second
abbrev pub second : ℕ
second = 65536000000000

-- "as whole seconds rounded down and a rest of 0 to 65,535,999,999,999"
abbrev pub in_seconds : ℤ → Offset
in_seconds z = record { seconds = floor z (pos second); rest = rest z second }
