-- Taking an Announce (01, "Numbers that refuse": "Taking an Announce: 8, the reading checks, 3 if it isn't an Announce, 9, 10, 11, 12, 13.").
use Rattle.std.specs.Prelude.{ℕ, List, not, eqb, Result, Ok, Err}
use Rattle.refusal.specs.Choice.{refuse}
use Rattle.refusal.specs.declared.Refusal.TheVariants.{Port, Domain, Own}
use Rattle.message.specs.Announced.{announced_of}
use Rattle.message.specs.declared.announce.Heard.{Heard}
use Rattle.message.specs.declared.fields.Announce.{Announce}
use Rattle.rank.specs.declared.Grandmaster.{Grandmaster}
use Rattle.rank.specs.Ranked.{is_port}
use Rattle.senders.specs.declared.Notice as kept
use Rattle.senders.specs.Port as senders
use Rattle.slots.specs.Words.{words_after}
use Rattle.ports.specs.declared.intake.Settings.{Settings}
use Rattle.ports.specs.Words.{own, with, port_at}
use Rattle.senders.specs.declared.Notice.{Notice}
use Rattle.senders.specs.declared.Record.{Record}
use Rattle.refusal.specs.declared.Refusal.{Refusal}

-- the grandmaster of an Announce
abbrev pub grandmaster_of : Announce → Grandmaster
grandmaster_of a =
    record { priority1 = a.priority1; class = a.class; accuracy = a.accuracy; variance = a.variance; priority2 = a.priority2; identity = a.grandmaster }

-- what is kept of an Announce: its sender, sequenceId, the data of a candidate, and wrFlags
abbrev pub notice_of : Heard → kept.Notice
notice_of h =
    record {
      sender = record { clock = h.header.source.clock; port = h.header.source.port };
      sequence = h.header.sequence;
      grandmaster = grandmaster_of h.announce;
      steps = h.announce.steps;
      wrflags = h.flags;
    }

-- "domainNumber is not the set one"; "sender's clockIdentity is our own"
abbrev pub judged_of : Settings → Heard → Result Notice Refusal
judged_of set h =
    refuse (not (eqb h.header.domain set.domain)) (Err Domain)
    (refuse (eqb h.header.source.clock set.clock) (Err Own)
    (Ok (notice_of h)))

abbrev pub admitted_by : Settings → Result Heard Refusal → Result Notice Refusal
admitted_by set (Err x) = Err x
admitted_by set (Ok h) = judged_of set h

-- "8, the reading checks, 3 if it isn't an Announce, 9, 10"
unfoldable pub admitted_of : Settings → ℕ → List ℕ → Result Notice Refusal
admitted_of set port s =
    refuse (not (is_port port)) (Err Port)
    (admitted_by set (announced_of set.magic s))

-- ".., 11, 12, 13"
abbrev pub plan_by : senders.Port → ℕ → Result Notice Refusal → Result (ℕ × Record) Refusal
plan_by p t (Err x) = Err x
plan_by p t (Ok a) = senders.plan_of p t a

unfoldable pub plan_at : Settings → List ℕ → ℕ → ℕ → List ℕ → Result (ℕ × Record) Refusal
plan_at set ws port t s = plan_by (port_at ws port) t (admitted_of set port s)

-- the words after a plan: "State .. stay as they were", or one record and one time of this port are written
abbrev pub state_after : List ℕ → ℕ → ℕ → Result (ℕ × Record) Refusal → List ℕ
state_after ws port t (Err x) = ws
state_after ws port t (Ok (i, r)) = with ws port (words_after (own ws port) t (Ok (i, r)))
