-- A word that names a port, and one past them.
use Rattle.std.specs.Prelude.{Err}
use mathlib.Core.Path.{◌≡◌, refl, sym}
use mathlib.Core.Bool.{false}
use mathlib.Core.List.{List}
use Prim.Native.Nat.{ℕ, ◌≤◌, ◌<◌}
use borrow.Author.Tests.{le-leb, lt-leb}
use Rattle.refusal.specs.declared.Refusal.TheVariants.{Port}
use Rattle.refusal.proofs.Choice.{is_refused}
use Rattle.rank.specs.Ranked.{is_port}
use Rattle.senders.specs.Port as senders
use Rattle.ports.specs.declared.intake.Settings.{Settings}
use Rattle.ports.specs.Intake.{admitted_of, admitted_by, plan_at, state_after}
use Rattle.message.specs.Announced.{announced_of}
use Rattle.words.specs.Words as named
use Rattle.ports.proofs.Laws.{take_refused}

pub port_is : (w : ℕ) → w ≤ 18 → named.port_of w ≡ w
port_is w h = rw (le-leb w 18 h)

no_port : (w : ℕ) → 18 < w → is_port (named.port_of w) ≡ false
no_port w h = rw (lt-leb w 18 h)

pub take_no_port : (set : Settings) (ws : List ℕ) (w t : ℕ) (s : List ℕ) → 18 < w
    → (Err Port ≡ senders.outcome_of (plan_at set ws (named.port_of w) t s)) × (ws ≡ state_after ws (named.port_of w) t (plan_at set ws (named.port_of w) t s))
unfolding admitted_of
take_no_port set ws w t s h =
    take_refused set ws (named.port_of w) t s (Err Port) Port
    (is_refused (is_port (named.port_of w)) false (sym (no_port w h)) (Err Port) (admitted_by set (announced_of set.magic s)) refl) refl
