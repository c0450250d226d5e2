-- A recording over some calls, worked out: what it keeps, and where it cuts; and one beside a clock.
use Rattle.std.specs.Prelude.{Ok}
use Prim.Native.Nat.{ℕ, ◌≤◌}
use mathlib.Core.Path.{◌≡◌, refl}
use mathlib.Core.List.{List, [], ◌∷◌}
use native.Mathlib.Omega.{arith}
use lib.ListN.{length, replicate}
use borrow.Author.Tests.{le-ltb}
use Rattle.refusal.specs.Choice.{refuse}
use Rattle.block.specs.Layout.{Entry}
use Rattle.block.specs.Making.{sizes_of}
use Rattle.recording.specs.Recording.{entry_of, check_by, record_check}
use Rattle.ports.specs.declared.intake.Settings.{Settings}
use Rattle.ports.specs.Intake.{admitted_of, plan_at}
use Rattle.ports.specs.History.{Call, taking, asking}
use Rattle.traces.specs.Taped.{fresh_tape, kept_of, cut_from, cut}
use Rattle.traces.specs.Whole.{messages_of, KeepsTaken, over, asks, takes}

-- a message of n octets on a port at t
abbrev message : ℕ → ℕ → ℕ → Entry
message port t n = entry_of t port (replicate n 7)

-- "11 for a time below the last recorded one on any port": a refused one is not the last recorded
pub record Trace : Type 0 where
  pub kept : kept_of (fresh_tape [] 0) (message 3 50 1 ∷ message 4 49 2 ∷ message 4 50 3 ∷ []) ≡ message 3 50 1 ∷ message 4 50 3 ∷ []
  -- 16 and twice 248 are 512; with one octet more in the second, it begins the next block
  pub two : cut (message 3 50 237 ∷ message 4 50 237 ∷ message 5 50 0 ∷ []) ≡ (message 3 50 237 ∷ message 4 50 237 ∷ []) ∷ (message 5 50 0 ∷ []) ∷ []
  pub one : cut (message 3 50 237 ∷ message 4 50 238 ∷ message 5 50 0 ∷ []) ≡ (message 3 50 237 ∷ []) ∷ (message 4 50 238 ∷ message 5 50 0 ∷ []) ∷ []

pub trace : Trace
unfolding check_by refuse kept_of cut_from sizes_of
trace = record { kept = refl; two = refl; one = refl }

-- ---- BESIDE A CLOCK
-- what is refused with 8 was not accepted
refused : {G : Type 0} → ◌≡◌ {A = ℕ} 8 0 → G
refused e = absurd (omega arith)

-- whatever the clock holds: a question; a message that is recorded, any of up to 485 octets, accepted by the clock or not; and the same on port 19, which
-- the clock refuses as recording does
module _ (by : Settings) (s : List ℕ) where
  abbrev heard : List Call
  heard = asking 2 ∷ taking by 2 50 s ∷ taking by 19 51 s ∷ []

  pub record Beside (ws : List ℕ) : Type 0 where
    pub given : messages_of heard ≡ entry_of 50 2 s ∷ entry_of 51 19 s ∷ []
    pub keeps : KeepsTaken by ws (fresh_tape [] 0) heard
    pub first_kept : kept_of (fresh_tape [] 0) (messages_of heard) ≡ entry_of 50 2 s ∷ []

  pub beside : (ws : List ℕ) → length s ≤ 485 → Beside ws
  unfolding messages_of check_by refuse kept_of admitted_of plan_at
  beside ws h =
      let short = le-ltb 485 (length s) h in
      let done : record_check (fresh_tape [] 0).words (entry_of 50 2 s) ≡ Ok tt = rw short in
      record { given = refl; keeps = asks (takes (λ z. done) (takes (λ z. refused z) over)); first_kept = rw short }
