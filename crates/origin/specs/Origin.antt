-- Origin time (01, "Octets of a message": "The origin time of a Sync is ..").
use Rattle.std.specs.Prelude.{ℕ, ◌/◌, ◌%◌, ◌≤◌, ◌≡◌, List, [], Bool, true, not, ◌&&◌, eqb, length, get_or, take, drop, Result, Ok, Err}
use Rattle.refusal.specs.Choice.{pick, refuse}
use Rattle.refusal.specs.declared.Refusal.TheVariants.{«Type»}
use Rattle.message.specs.Fields.{header_of}
use Rattle.message.specs.Reading.{by, takes_of}
use Rattle.refusal.specs.declared.Refusal.{Refusal}

-- "with the two-step bit (0x02 of octet 6)"
abbrev pub is_two_step : List ℕ → Bool
is_two_step sync = eqb (get_or sync 6 0 / 2 % 2) 1

-- a Follow_Up that agrees with its Sync "in sender, domain or sequenceId"; "Identities are ten octets, clock then port"
unfoldable pub follows : List ℕ → List ℕ → Bool
follows sync follow =
    let a = header_of sync in
    let b = header_of follow in
    eqb a.source.clock b.source.clock
    && eqb a.source.port b.source.port
    && eqb a.domain b.domain
    && eqb a.sequence b.sequence

-- the Follow_Up's checks, "a mismatch last"
unfoldable pub follow_check : ℕ → List ℕ → List ℕ → Result (Unit {0}) Refusal
follow_check magic sync follow =
    by (takes_of magic 0x8 follow) Err
    (refuse (not (follows sync follow)) (Err «Type») (Ok tt))

-- "The Sync is checked first"; without the bit "the Follow_Up is not looked at"
unfoldable pub origin_check : ℕ → List ℕ → List ℕ → Result (Unit {0}) Refusal
origin_check magic sync follow =
    by (takes_of magic 0x0 sync) Err (pick (is_two_step sync) (follow_check magic sync follow) (Ok tt))

-- the message that holds the origin time: "with the two-step bit .. its Follow_Up; without it, its own"
abbrev pub holder : List ℕ → List ℕ → List ℕ
holder sync follow = pick (is_two_step sync) follow sync

-- the messages that are looked at have their timestamps
pub record Stamped (sync follow : List ℕ) : Type 0 where
  pub own : 44 ≤ length sync
  pub other : is_two_step sync ≡ true → 44 ≤ length follow

-- "At 34 stands a timestamp": "the ten timestamp octets"
abbrev pub stamp_part : List ℕ → List ℕ
stamp_part s = take 10 (drop 34 s)

-- "those ten octets of whichever message holds them"; "it is empty if refused"
unfoldable pub origin_in : ℕ → List ℕ → List ℕ → List ℕ
origin_in magic sync follow = by (origin_check magic sync follow) (λ x. []) (stamp_part (holder sync follow))
