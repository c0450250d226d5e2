-- When origin time gives which number (01, "Octets of a message": "The Sync is checked first, a mismatch last."), 0 where it
-- hands back a part. In proofs/Exactly.antt the answer has its line here, and a line that holds is the answer.
use Rattle.std.specs.Prelude.{ℕ, ◌<◌, ◌≡◌, List, true, false}
use Rattle.message.specs.Fields.{header_of}
use Rattle.message.specs.When.{TakesWhen}
use Rattle.origin.specs.Origin.{is_two_step}

-- a Follow_Up that does not differ from its Sync "in sender, domain or sequenceId"
pub record Follows (sync follow : List ℕ) : Type 0 where
  pub clock : (header_of sync).source.clock ≡ (header_of follow).source.clock
  pub port : (header_of sync).source.port ≡ (header_of follow).source.port
  pub domain : (header_of sync).domain ≡ (header_of follow).domain
  pub sequence : (header_of sync).sequence ≡ (header_of follow).sequence

-- a Sync that is taken, with the two-step bit or without it
abbrev pub IsOneStep : ℕ → List ℕ → Type 0
IsOneStep magic sync = TakesWhen magic 0x0 sync 0 × (is_two_step sync ≡ false)

abbrev pub IsTwoStep : ℕ → List ℕ → Type 0
IsTwoStep magic sync = TakesWhen magic 0x0 sync 0 × (is_two_step sync ≡ true)

pub data OriginWhen (magic : ℕ) (sync follow : List ℕ) : ℕ → Type 0 where
  -- "The Sync is checked first": the reading checks, then 3 if it isn't a Sync
  of_sync : {n : ℕ} → TakesWhen magic 0x0 sync n → 0 < n → OriginWhen magic sync follow n
  -- "without it, its own, and the Follow_Up is not looked at"
  one_step : IsOneStep magic sync → OriginWhen magic sync follow 0
  -- with it, the Follow_Up in the same way
  of_follow : {n : ℕ} → IsTwoStep magic sync → TakesWhen magic 0x8 follow n → 0 < n → OriginWhen magic sync follow n
  -- "a mismatch last"
  mismatch : IsTwoStep magic sync → TakesWhen magic 0x8 follow 0 → (Follows sync follow → ⊥) → OriginWhen magic sync follow 3
  two_step : IsTwoStep magic sync → TakesWhen magic 0x8 follow 0 → Follows sync follow → OriginWhen magic sync follow 0
