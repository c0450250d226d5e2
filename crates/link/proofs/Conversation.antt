-- A slave and a master of fitting configs, joined by a channel that loses nothing, bring the link up on both sides, in whatever order
-- things happen. The proof goes back from the end: from each point of the conversation to the next, with what is then on its way.
use Prim.Native.Nat.{ℕ, suc, ◌+◌}
use mathlib.Core.Path.{◌≡◌, refl, sym, subst}
use mathlib.Core.Bool.{Bool, true, false, ◌&&◌}
use mathlib.Core.List.{[], ◌∷◌}
use Rattle.laws.proofs.Bools.{clash}
use Rattle.refusal.specs.Choice.{pick}
use Rattle.tlv.specs.declared.wr.LinkMessage.TheVariants as message
use Rattle.link.specs.declared.Role.{Role}
use Rattle.link.specs.declared.Role.TheVariants.{Slave, Master}
use Rattle.link.specs.declared.State.{State}
use Rattle.link.specs.declared.State.TheVariants.{Idle, Present, MLock, SLock, Locked, Calibration, Calibrated, RespCalibReq}
use Rattle.link.specs.declared.Link.{Link}
use Rattle.link.specs.declared.Settings.{Settings}
use Rattle.link.specs.Machine.{is_idle, CanSlave, CanMaster, on_start, on_slave_present, calibrate_of, calibrated_of, waits_of, in_state, stepped}
use Rattle.link.proofs.StepLaws.{idle_is}
use Rattle.link.specs.Loss.{between, master_up_alone}
use Rattle.link.specs.Conversation.{World, Act, ToMaster, ToSlave, SlaveDone, MasterDone, waits_for_hardware, Can, CanSome, act, Comes, begins, happenings, says, slaves_way, masters_way}

-- these settings, where calibration is needed or not
abbrev with : Bool → Settings → Settings
with needed s =
    record { config = s.config; calibrate = needed; retry = s.retry; period = s.period; tx = s.tx; rx = s.rx }

blocked : {A : Type 0} (b : Bool) → b ≡ false → b ≡ true → A
blocked b p q = clash q p

module _ (ours theirs : Settings) (n : ℕ) (w : World) where
  -- something can happen, and whichever of the four does leads on
  onward : CanSome w ≡ true →
      (Can ToMaster w ≡ true → Comes ours theirs n (act ours theirs ToMaster w)) →
      (Can ToSlave w ≡ true → Comes ours theirs n (act ours theirs ToSlave w)) →
      (Can SlaveDone w ≡ true → Comes ours theirs n (act ours theirs SlaveDone w)) →
      (Can MasterDone w ≡ true → Comes ours theirs n (act ours theirs MasterDone w)) →
      Comes ours theirs (suc n) w
  unfolding Comes
  onward some to_master to_slave slave master = (some, by)
    where
      by : (a : Act) → Can a w ≡ true → Comes ours theirs n (act ours theirs a w)
      by ToMaster c = to_master c
      by ToSlave c = to_slave c
      by SlaveDone c = slave c
      by MasterDone c = master c

-- The points of the conversation, from a slave's and a master's modes before it: `between` while it lasts, and `master_up_alone`.
module _ (s t : Settings) (was theirs : Bool) where
  abbrev both_up : World
  both_up =
      record {
        slave = in_state Slave Idle true;
        master = in_state Master Idle true;
        to_master = [];
        to_slave = [];
        slave_up = true;
        master_up = true;
      }

  up : Comes s t 0 both_up
  unfolding Comes
  up = refl

  to_slave_on : Comes s t 1 (master_up_alone was (message.ModeOn ∷ []))
  unfolding stepped
  to_slave_on = onward s t 0 (master_up_alone was (message.ModeOn ∷ [])) refl (blocked _ refl) (λ c. up) (blocked _ refl) (blocked _ refl)

  to_master_on : Comes s t 2 (between was theirs Calibrated RespCalibReq (calibrated_of s ∷ []) [])
  unfolding stepped
  to_master_on = onward s t 1 (between was theirs Calibrated RespCalibReq (calibrated_of s ∷ []) []) refl (λ c. to_slave_on) (blocked _ refl) (blocked _ refl) (blocked _ refl)

  -- the slave has sent CALIBRATE and CALIBRATED
  both_sent : Comes s t 3 (between was theirs Calibrated Calibrated (calibrate_of s ∷ calibrated_of s ∷ []) [])
  unfolding stepped
  both_sent =
      onward s t 2 (between was theirs Calibrated Calibrated (calibrate_of s ∷ calibrated_of s ∷ []) [])
      refl (λ c. to_master_on) (blocked _ refl) (blocked _ refl) (blocked _ refl)

  -- the master has heard CALIBRATE, and the slave's hardware is not done
  slave_calibrates : Comes s t 3 (between was theirs Calibration RespCalibReq [] [])
  unfolding stepped
  slave_calibrates =
      onward s t 2 (between was theirs Calibration RespCalibReq [] [])
      refl (blocked _ refl) (blocked _ refl) (λ c. to_master_on) (blocked _ refl)

  calibrate_sent : Comes s t 4 (between was theirs Calibration Calibrated (calibrate_of s ∷ []) [])
  unfolding stepped
  calibrate_sent =
      onward s t 3 (between was theirs Calibration Calibrated (calibrate_of s ∷ []) [])
      refl (λ c. slave_calibrates) (blocked _ refl) (λ c. both_sent) (blocked _ refl)

-- The slave hears the master's CALIBRATED; with calibration it takes one happening more, its hardware's.
abbrev second_half : Bool → ℕ
second_half needed = pick needed 5 4

master_calibrated : (needed : Bool) (s t : Settings) (was theirs : Bool) →
    Comes (with needed s) t (second_half needed) (between was theirs RespCalibReq Calibrated [] (calibrated_of t ∷ []))
unfolding stepped
master_calibrated true s t was theirs =
    onward (with true s) t 4 (between was theirs RespCalibReq Calibrated [] (calibrated_of t ∷ []))
    refl (blocked _ refl) (λ c. calibrate_sent (with true s) t was theirs) (blocked _ refl) (blocked _ refl)
master_calibrated false s t was theirs =
    onward (with false s) t 3 (between was theirs RespCalibReq Calibrated [] (calibrated_of t ∷ []))
    refl (blocked _ refl) (λ c. both_sent (with false s) t was theirs) (blocked _ refl) (blocked _ refl)

-- The first half, n being what the second takes.
module _ (s t : Settings) (was theirs : Bool) (n : ℕ) (second : Comes s t n (between was theirs RespCalibReq Calibrated [] (calibrated_of t ∷ []))) where
  master_sent_both : Comes s t (suc n) (between was theirs Locked Calibrated [] (calibrate_of t ∷ calibrated_of t ∷ []))
  unfolding stepped
  master_sent_both =
      onward s t n (between was theirs Locked Calibrated [] (calibrate_of t ∷ calibrated_of t ∷ []))
      refl (blocked _ refl) (λ c. second) (blocked _ refl) (blocked _ refl)

  master_calibrates : Comes s t (suc n) (between was theirs RespCalibReq Calibration [] [])
  unfolding stepped
  master_calibrates =
      onward s t n (between was theirs RespCalibReq Calibration [] [])
      refl (blocked _ refl) (blocked _ refl) (blocked _ refl) (λ c. second)

  master_sent_calibrate : Comes s t (suc (suc n)) (between was theirs Locked Calibration [] (calibrate_of t ∷ []))
  unfolding stepped
  master_sent_calibrate =
      onward s t (suc n) (between was theirs Locked Calibration [] (calibrate_of t ∷ []))
      refl (blocked _ refl) (λ c. master_calibrates) (blocked _ refl) (λ c. master_sent_both)

-- from LOCKED to there; with calibration it takes one happening more, the master's hardware's
abbrev first_half : Bool → ℕ → ℕ
first_half needed n = pick needed (suc (suc (suc n))) (suc (suc n))

slave_locked : (needed : Bool) (s t : Settings) (was theirs : Bool) (n : ℕ) →
    Comes s (with needed t) n (between was theirs RespCalibReq Calibrated [] (calibrated_of t ∷ [])) →
    Comes s (with needed t) (first_half needed n) (between was theirs Locked MLock (message.Locked ∷ []) [])
unfolding stepped
slave_locked true s t was theirs n second =
    onward s (with true t) (suc (suc n)) (between was theirs Locked MLock (message.Locked ∷ []) [])
    refl (λ c. master_sent_calibrate s (with true t) was theirs n second) (blocked _ refl) (blocked _ refl) (blocked _ refl)
slave_locked false s t was theirs n second =
    onward s (with false t) (suc n) (between was theirs Locked MLock (message.Locked ∷ []) [])
    refl (λ c. master_sent_both s (with false t) was theirs n second) (blocked _ refl) (blocked _ refl) (blocked _ refl)

-- SLAVE_PRESENT is on its way to a master in IDLE
abbrev present_sent : Bool → Link → World
present_sent was master =
    record {
      slave = in_state Slave Present was;
      master = master;
      to_master = message.SlavePresent ∷ [];
      to_slave = [];
      slave_up = false;
      master_up = false;
    }

no_hardware : (role : Role) (state : State) → is_idle state ≡ true → waits_for_hardware (waits_of role state) ≡ false
no_hardware Slave state i = rw (← idle_is state i)
no_hardware Master state i = rw (← idle_is state i)

-- The beginning, n being what is left from LOCKED.
module _ (s t : Settings) (was : Bool) (master : Link) (n : ℕ) (rest : Comes s t n (between was master.mode Locked MLock (message.Locked ∷ []) [])) where
  slave_locks : Comes s t (suc n) (between was master.mode SLock MLock [] [])
  unfolding stepped
  slave_locks =
      onward s t n (between was master.mode SLock MLock [] [])
      refl (blocked _ refl) (blocked _ refl) (λ c. rest) (blocked _ refl)

  lock_sent : Comes s t (suc (suc n)) (between was master.mode Present MLock [] (message.Lock ∷ []))
  unfolding stepped
  lock_sent =
      onward s t (suc n) (between was master.mode Present MLock [] (message.Lock ∷ []))
      refl (blocked _ refl) (λ c. slave_locks) (blocked _ refl) (blocked _ refl)

  master_starts : is_idle master.state ≡ true → CanMaster t.config ≡ true →
      act s t ToMaster (present_sent was master) ≡ between was master.mode Present MLock [] (message.Lock ∷ [])
  unfolding stepped on_slave_present
  master_starts i m = rw (i, m)

  slave_present : is_idle master.state ≡ true → CanMaster t.config ≡ true → Comes s t (suc (suc (suc n))) (present_sent was master)
  slave_present i m =
      onward s t (suc (suc n)) (present_sent was master) refl
      (λ c. subst (λ (w : World). Comes s t (suc (suc n)) w) (sym (master_starts i m)) lock_sent)
      (blocked _ refl)
      (blocked _ refl)
      (blocked _ (no_hardware master.role master.state i))

both_halves : (ours theirs : Bool) → suc (suc (suc (first_half theirs (second_half ours)))) ≡ 9 + pick ours 1 0 + pick theirs 1 0
both_halves true true = refl
both_halves true false = refl
both_halves false true = refl
both_halves false false = refl

module _ (s t : Settings) (slave master : Link) where
  -- the slave starts, and sends SLAVE_PRESENT
  starts : is_idle slave.state ≡ true → CanSlave s.config ≡ true → CanMaster t.config ≡ true → (slave.mode && master.mode) ≡ false →
      begins s t slave master ≡ present_sent slave.mode master
  unfolding stepped on_start
  starts i cs cm m = rw (i, cs, cm, m)

  pub link_comes_up : is_idle slave.state ≡ true → is_idle master.state ≡ true → CanSlave s.config ≡ true → CanMaster t.config ≡ true → (slave.mode && master.mode) ≡ false →
      Comes s t (happenings s t) (begins s t slave master)
  link_comes_up i j cs cm m =
      rw (starts i cs cm m, ← both_halves s.calibrate t.calibrate)
      (slave_present s t slave.mode master (first_half t.calibrate (second_half s.calibrate))
      (slave_locked t.calibrate s t slave.mode master.mode (second_half s.calibrate)
      (master_calibrated s.calibrate s t slave.mode master.mode))
      j cm)

-- What each side says on its way, with the data: a slave that has sent SLAVE_PRESENT, a master that has sent LOCK.

slave_by : (needed : Bool) (s : Settings) (mode : Bool) →
    says (with needed s) (in_state Slave Present mode) (slaves_way (with needed s)) ≡ message.Locked ∷ calibrate_of (with needed s) ∷ calibrated_of s ∷ []
unfolding says stepped
slave_by true s mode = refl
slave_by false s mode = refl

pub slave_says : (s : Settings) (mode : Bool) →
    says s (in_state Slave Present mode) (slaves_way s) ≡ message.Locked ∷ calibrate_of s ∷ calibrated_of s ∷ []
slave_says s mode = slave_by s.calibrate s mode

master_by : (needed : Bool) (s : Settings) (mode : Bool) →
    says (with needed s) (in_state Master MLock mode) (masters_way (with needed s)) ≡ calibrate_of (with needed s) ∷ calibrated_of s ∷ message.ModeOn ∷ []
unfolding says stepped
master_by true s mode = refl
master_by false s mode = refl

pub master_says : (s : Settings) (mode : Bool) →
    says s (in_state Master MLock mode) (masters_way s) ≡ calibrate_of s ∷ calibrated_of s ∷ message.ModeOn ∷ []
master_says s mode = master_by s.calibrate s mode
