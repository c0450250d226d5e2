-- Two numbers of 01 that more than one of its sections asks for. Each stands here alone.
use Rattle.std.specs.Prelude.{ℕ, Bool, ◌&&◌, leb}

-- "18 ports"
abbrev pub port_count : ℕ
port_count = 18

-- "port outside 1 to 18"
abbrev pub is_port : ℕ → Bool
is_port p = leb 1 p && leb p port_count

-- "1,000,000,000": the nanoseconds of a second
abbrev pub second_nanos : ℕ
second_nanos = 1000000000
