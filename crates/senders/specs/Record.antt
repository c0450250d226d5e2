-- One sender's record (01, "Sender records").
use Rattle.std.specs.Prelude.{ℕ, ◌+◌, ◌-◌, ◌*◌, ◌%◌, ◌^◌, Bool, not, ◌&&◌, ◌==◌, nat_le}
use Rattle.rank.specs.declared.Candidate.{Candidate}
use Rattle.identity.specs.declared.PortIdentity.{PortIdentity}
use Rattle.senders.specs.declared.Notice.{Notice}
use Rattle.senders.specs.declared.Record.{Record}

-- "an announce interval of 2^k seconds, k from -3 to 4 (0 unless set)"; "Window W is four intervals."
-- In nanoseconds; e is k modulo 8, so that a word of zero is an interval that was never set.
abbrev pub window_of : ℕ → ℕ
window_of e = 500000000 * 2 ^ ((e % 8 + 3) % 8)

-- a sender's record: "Identities are ten octets, clock then port."
abbrev pub is_of : PortIdentity → Record → Bool
is_of x r = r.notice.sender.clock == x.clock && (r.notice.sender.port == x.port && not (r.receipts == 0))

-- "At time T a record is live while T - newest <= W"
abbrev pub is_live : ℕ → ℕ → Record → Bool
is_live w t r = not (r.receipts == 0) && nat_le (t - r.newest) w

-- "empty or expired"
abbrev pub is_free : ℕ → ℕ → Record → Bool
is_free w t r = not (is_live w t r)

-- 02 (iii), after IEEE 1588-2008, 9.3.2.5: "a record whose latest data has 255 or more is kept but not qualified; 254 is"
abbrev pub is_distant : Notice → Bool
is_distant a = nat_le 255 a.steps

-- "qualified while its two latest receipts lie with T - older <= W"; (iii) takes the distant ones out
abbrev pub is_qualified : ℕ → ℕ → Record → Bool
is_qualified w t r = (nat_le 2 r.receipts && nat_le (t - r.older) w) && not (is_distant r.notice)

-- "(new - old) mod 65,536 in 1 to 32,767"
abbrev pub is_newer : ℕ → ℕ → Bool
is_newer new old = nat_le 1 ((new + 65536 - old) % 65536) && nat_le ((new + 65536 - old) % 65536) 32767

-- "with one receipt"
abbrev pub fresh_of : ℕ → Notice → Record
fresh_of t a = record { notice = a; receipts = 1; newest = t; older = 0 }

-- "It then shifts the receipts and replaces the data."
abbrev pub next_of : Record → ℕ → Notice → Record
next_of r t a = record { notice = a; receipts = 2; newest = t; older = r.newest }

-- "A candidate .. has ten keys and holds nothing else": a record's data, its sender, and the port that keeps it
abbrev pub candidate_of : ℕ → Record → Candidate
candidate_of port r =
    record {
      grandmaster = r.notice.grandmaster;
      steps = r.notice.steps;
      sender = r.notice.sender;
      port = port;
      wrflags = r.notice.wrflags;
    }
