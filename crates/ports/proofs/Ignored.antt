-- Ignored means ignored: Announces that differ only in reserved fields, controlField and padding are taken alike.
use Rattle.std.specs.Prelude.{Err}
use Prim.Native.Nat.{ℕ}
use mathlib.Core.Path.{◌≡◌}
use mathlib.Core.List.{List}
use mathlib.Core.Bool.{not}
use Rattle.refusal.specs.Choice.{refuse}
use Rattle.refusal.specs.declared.Refusal.TheVariants.{Port}
use Rattle.message.specs.Ignored.{Alike}
use Rattle.message.proofs.Ignored.{announced_same}
use Rattle.rank.specs.Ranked.{is_port}
use Rattle.ports.specs.declared.intake.Settings.{Settings}
use Rattle.ports.specs.Words.{port_at}
use Rattle.ports.specs.Intake.{admitted_by, admitted_of, plan_by, plan_at, state_after}

module _ (set : Settings) (port : ℕ) (a b : List ℕ) (s : Alike a b) where
  admitted_same : admitted_of set port a ≡ admitted_of set port b
  unfolding admitted_of
  admitted_same = λ i. refuse (not (is_port port)) (Err Port) (admitted_by set (announced_same a b s set.magic i))

  module _ (ws : List ℕ) (t : ℕ) where
    -- THE SAME ANSWER
    pub plan_same : plan_at set ws port t a ≡ plan_at set ws port t b
    unfolding plan_at
    plan_same = λ i. plan_by (port_at ws port) t (admitted_same i)

    -- AND THE SAME WORDS
    pub state_same : state_after ws port t (plan_at set ws port t a) ≡ state_after ws port t (plan_at set ws port t b)
    state_same = λ i. state_after ws port t (plan_same i)
