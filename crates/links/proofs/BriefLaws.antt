-- A step in numbers: the numbers that stand for a state, a role and a bit come back from the word, and what is sent is known by its number.
use Prim.Native.Nat.{ℕ, zero, suc, ◌+◌, ◌*◌, ◌/◌, ◌%◌, ◌<◌}
use mathlib.Core.Path.{◌≡◌, refl, sym, ◌∙◌}
use mathlib.Core.Bool.{Bool, true, false, not, ◌&&◌}
use native.Mathlib.Omega.{arith}
use lib.Dec.{eqb}
use Rattle.link.specs.declared.Role.{Role}
use Rattle.link.specs.declared.Role.TheVariants.{Slave, Master}
use Rattle.link.specs.declared.State.{State}
use Rattle.link.specs.declared.State.TheVariants.{Idle, Present, MLock, SLock, Locked, Calibration, Calibrated, RespCalibReq}
use Rattle.link.specs.declared.Link.{Link}
use Rattle.link.specs.declared.Settings.{Settings}
use Rattle.link.specs.declared.Event.{Event}
use Rattle.link.specs.declared.Move.{Move}
use Rattle.link.specs.declared.Move.TheVariants.{Ignore, Enter, LinkOn, Resend, Leave}
use Rattle.link.specs.declared.Sends.TheVariants.{Two}
use Rattle.refusal.specs.Choice.{pick}
use Rattle.link.specs.States.{state_number, state_of}
use Rattle.link.specs.Machine.{WR-MODE-ON, is_calibration, asked, calibrate_of, calibrated_of, message_of, mode_on_of, in_state, Skips, entered, resent, taken, stepped}
use Rattle.links.specs.Words.{role_number, role_of, bit, word_of, link_of, settings_of}
use Rattle.links.specs.Brief.{sent_first, sent_both, sent_in, brief_of}

pub number_is : (n : ℕ) → n < 8 → state_number (state_of n) ≡ n
unfolding state_of
number_is zero h = refl
number_is (suc zero) h = refl
number_is (suc (suc zero)) h = refl
number_is (suc (suc (suc zero))) h = refl
number_is (suc (suc (suc (suc zero)))) h = refl
number_is (suc (suc (suc (suc (suc zero))))) h = refl
number_is (suc (suc (suc (suc (suc (suc zero)))))) h = refl
number_is (suc (suc (suc (suc (suc (suc (suc zero))))))) h = refl
number_is (suc (suc (suc (suc (suc (suc (suc (suc n)))))))) h = absurd (omega arith)

pub role_is : (n : ℕ) → n < 2 → role_number (role_of n) ≡ n
role_is zero h = refl
role_is (suc zero) h = refl
role_is (suc (suc n)) h = absurd (omega arith)

pub bit_is : (n : ℕ) → n < 2 → bit (eqb n 1) ≡ n
bit_is zero h = refl
bit_is (suc zero) h = refl
bit_is (suc (suc n)) h = absurd (omega arith)

eighth : (w : ℕ) → w % 8 + 8 * (w / 8 % 2) ≡ w % 16
eighth w = omega arith

sixteenth : (w : ℕ) → w % 16 + 16 * (w / 16 % 2) ≡ w % 32
sixteenth w = omega arith

rest : (w : ℕ) → w % 32 + 32 * (w / 32 % 256) ≡ w % 8192
rest w = omega arith

-- a link's state, role and mode, with any retry count
pub counted_is : (w retries : ℕ) → word_of (record { role = (link_of w).role; state = (link_of w).state; retries = retries; mode = (link_of w).mode }) ≡ w % 32 + 32 * retries
unfolding word_of link_of
counted_is w retries =
    rw (number_is (w % 8) (omega arith), role_is (w / 8 % 2) (omega arith), bit_is (w / 16 % 2) (omega arith), eighth w, sixteenth w) refl

-- a link's word, and bits past it
pub word_is : (w : ℕ) → word_of (link_of w) ≡ w % 8192
unfolding link_of
word_is w = counted_is w (w / 32 % 256) ∙ rest w

-- a change of state keeps the mode's bit
pub entered_is : (role : Role) (state : State) (w : ℕ) → word_of (in_state role state (link_of w).mode) ≡ state_number state + 8 * role_number role + 16 * (w / 16 % 2)
unfolding word_of link_of
entered_is role state w = rw (bit_is (w / 16 % 2) (omega arith)) (omega arith)

pub on_is : (w : ℕ) → word_of (in_state (link_of w).role Idle true) ≡ 8 * (w / 8 % 2) + 16
unfolding word_of link_of
on_is w = rw (role_is (w / 8 % 2) (omega arith)) (omega arith)

pub left_is : (w : ℕ) → word_of (in_state (link_of w).role Idle false) ≡ 8 * (w / 8 % 2)
unfolding word_of link_of
left_is w = rw (role_is (w / 8 % 2) (omega arith)) (omega arith)

-- the state's message, by its number, and no other after it
module _ (s : Settings) where
  pub first_is : (state : State) → sent_first (message_of s state) ≡ sent_in state
  first_is Idle = refl
  first_is Present = refl
  first_is MLock = refl
  first_is SLock = refl
  first_is Locked = refl
  first_is Calibration = refl
  first_is Calibrated = refl
  first_is RespCalibReq = refl

  pub only_one : (state : State) → sent_both (message_of s state) ≡ false
  only_one Idle = refl
  only_one Present = refl
  only_one MLock = refl
  only_one SLock = refl
  only_one Locked = refl
  only_one Calibration = refl
  only_one Calibrated = refl
  only_one RespCalibReq = refl

pub mode_on_is : (n : ℕ) → sent_first (mode_on_of (role_of n)) ≡ pick (eqb n 1) WR-MODE-ON 0
mode_on_is n = by (eqb n 1)
  where
    by : (b : Bool) → sent_first (mode_on_of (pick b Master Slave)) ≡ pick b WR-MODE-ON 0
    by true = refl
    by false = refl

pub mode_on_alone : (role : Role) → sent_both (mode_on_of role) ≡ false
mode_on_alone Slave = refl
mode_on_alone Master = refl

-- two settings alike in whether calibration is needed: a step is the same in numbers
module _ (s t : Settings) where
  sent_alike : (state : State) → sent_first (message_of s state) ≡ sent_first (message_of t state)
  sent_alike state = first_is s state ∙ sym (first_is t state)

  one_alike : (state : State) → sent_both (message_of s state) ≡ sent_both (message_of t state)
  one_alike state = only_one s state ∙ sym (only_one t state)

  pub resent_alike : (l : Link) (retries : ℕ) → brief_of (resent s l retries) ≡ brief_of (resent t l retries)
  unfolding brief_of
  resent_alike l retries =
      λ i.
      record {
        word = word_of (resent s l retries).link;
        sends = sent_alike l.state i;
        both = one_alike l.state i;
        report = false;
      }

  first_alike : (skips : Bool) (state : State) → sent_first (pick skips (Two (calibrate_of s) (calibrated_of s)) (message_of s state)) ≡ sent_first (pick skips (Two (calibrate_of t) (calibrated_of t)) (message_of t state))
  first_alike true state = refl
  first_alike false state = sent_alike state

  both_alike : (skips : Bool) (state : State) → sent_both (pick skips (Two (calibrate_of s) (calibrated_of s)) (message_of s state)) ≡ sent_both (pick skips (Two (calibrate_of t) (calibrated_of t)) (message_of t state))
  both_alike true state = refl
  both_alike false state = one_alike state

  module _ (alike : s.calibrate ≡ t.calibrate) where
    entered_alike : (mode : Bool) (role : Role) (state : State) → brief_of (entered s mode role state) ≡ brief_of (entered t mode role state)
    unfolding brief_of
    entered_alike mode role state =
        let k : Skips s state ≡ Skips t state = λ i. is_calibration state && not (alike i) in
        let first = (λ i. sent_first (pick (k i) (Two (calibrate_of s) (calibrated_of s)) (message_of s state))) ∙ first_alike (Skips t state) state in
        let both = (λ i. sent_both (pick (k i) (Two (calibrate_of s) (calibrated_of s)) (message_of s state))) ∙ both_alike (Skips t state) state in
        λ i. record { word = word_of (in_state role (pick (k i) Calibrated state) mode); sends = first i; both = both i; report = false }

    taken_alike : (l : Link) (m : Move) → brief_of (taken s l m) ≡ brief_of (taken t l m)
    taken_alike l Ignore = refl
    taken_alike l (Enter role state) = entered_alike l.mode role state
    taken_alike l LinkOn = refl
    taken_alike l (Resend retries) = resent_alike l retries
    taken_alike l Leave = refl

-- so deltaTx and deltaRx play no part in it
pub without_latencies : (w tx rx : ℕ) (l : Link) (e : Event) → brief_of (stepped (settings_of w tx rx) l e) ≡ brief_of (stepped (settings_of w 0 0) l e)
unfolding settings_of stepped
without_latencies w tx rx l e = taken_alike (settings_of w tx rx) (settings_of w 0 0) refl l (asked (w % 4) l e)

-- what each function of src/brief.rt is proved by
pub ruleset brief_laws = (word_is, entered_is, on_is, left_is, counted_is, first_is, only_one, mode_on_is, mode_on_alone, resent_alike)
