-- When an Announce is refused before the port's records are looked at (01, "Numbers that refuse": "Taking an Announce: 8, the
-- reading checks, 3 if it isn't an Announce, 9, 10, .."), 0 where they are. In proofs/Admitting.antt the answer has its line
-- here, and a line that holds is the answer.
use Rattle.std.specs.Prelude.{ℕ, ◌<◌, ◌≡◌, List, true, false, Result, Ok, Err}
use Rattle.refusal.specs.Refusal.{answer_of}
use Rattle.message.specs.Fields.{header_of}
use Rattle.message.specs.When.{TakesWhen}
use Rattle.rank.specs.Ranked.{is_port}
use Rattle.ports.specs.declared.intake.Settings.{Settings}
use Rattle.senders.specs.declared.Notice.{Notice}
use Rattle.refusal.specs.declared.Refusal.{Refusal}

-- this page's number of the answer
abbrev pub admitted_code : Result Notice Refusal → ℕ
admitted_code (Err x) = answer_of x
admitted_code (Ok a) = 0

-- an Announce on one of the ports, which the reading checks let pass
abbrev pub IsAnnounce : Settings → ℕ → List ℕ → Type 0
IsAnnounce set port s = (is_port port ≡ true) × TakesWhen set.magic 0xB s 0

pub data AdmittedWhen (set : Settings) (port : ℕ) (s : List ℕ) : ℕ → Type 0 where
  -- "port outside 1 to 18"
  no_port : is_port port ≡ false → AdmittedWhen set port s 8
  -- "the reading checks, 3 if it isn't an Announce"
  unread : {n : ℕ} → is_port port ≡ true → TakesWhen set.magic 0xB s n → 0 < n → AdmittedWhen set port s n
  -- "domainNumber is not the set one"
  other_domain : IsAnnounce set port s → ((header_of s).domain ≡ set.domain → ⊥) → AdmittedWhen set port s 9
  -- "sender's clockIdentity is our own"
  own_clock : IsAnnounce set port s → (header_of s).domain ≡ set.domain → (header_of s).source.clock ≡ set.clock
      → AdmittedWhen set port s 10
  admitted : IsAnnounce set port s → (header_of s).domain ≡ set.domain → ((header_of s).source.clock ≡ set.clock → ⊥)
      → AdmittedWhen set port s 0
