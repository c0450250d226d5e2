-- What holds of every step. Each law goes by the move that the rules make of the event, and by what the rules ask of that move.
use Prim.Native.Nat.{ℕ, ◌+◌, ◌≤◌, ◌<◌}
use mathlib.Core.Path.{◌≡◌, refl, ap, sym, subst, ◌∙◌}
use mathlib.Core.Bool.{Bool, true, false, not, ◌&&◌, and-false}
use mathlib.Core.Logic.{◌⊎◌, inl, inr}
use lib.Dec.{eqb, ltb}
use native.Mathlib.Omega.{arith}
use borrow.Author.Tests.{eq-eqb, eqb-true, ltb-true, lt-ltb}
use Rattle.laws.proofs.Bools.{both, clash}
use Rattle.refusal.specs.Choice.{pick}
use Rattle.link.specs.declared.Role.{Role}
use Rattle.link.specs.declared.Role.TheVariants.{Slave, Master}
use Rattle.link.specs.declared.State.{State}
use Rattle.link.specs.declared.State.TheVariants.{Idle, Present, MLock, SLock, Locked, Calibration, Calibrated, RespCalibReq}
use Rattle.link.specs.declared.Link.{Link}
use Rattle.link.specs.declared.Settings.{Settings}
use Rattle.link.specs.declared.Event.{Event}
use Rattle.link.specs.declared.Event.TheVariants.{Start, Message, Done, Timeout, Stop}
use Rattle.link.specs.declared.Move.{Move}
use Rattle.link.specs.declared.Move.TheVariants.{Ignore, Enter, LinkOn, Resend, Leave}
use Rattle.link.specs.declared.Waits.{Waits}
use Rattle.link.specs.declared.Waits.TheVariants as waits
use Rattle.link.specs.Machine.{SLAVE-PRESENT, LOCK, LOCKED, CALIBRATE, CALIBRATED, WR-MODE-ON, is_idle, is_calibration, CanSlave, CanMaster, on_start, on_slave_present, waits_of, on_message, on_done, on_timeout, asked, message_of, ignored, in_state, resent, left, taken, stepped}
use Rattle.link.specs.States.{state_number, state_of, same_state}
use Rattle.link.specs.Run.{is_timeout, sent, is_message, GoesOn}

-- States.

-- where a link that enters a state is after the step
abbrev pub landed : Bool → State → State
landed needed state = pick (is_calibration state && not needed) Calibrated state

pub same_refl : (state : State) → same_state state state ≡ true
same_refl state = eq-eqb (state_number state) (state_number state) refl

pub number_back : (state : State) → state_of (state_number state) ≡ state
unfolding state_of
number_back Idle = refl
number_back Present = refl
number_back MLock = refl
number_back SLock = refl
number_back Locked = refl
number_back Calibration = refl
number_back Calibrated = refl
number_back RespCalibReq = refl

pub same_is : (a b : State) → same_state a b ≡ true → a ≡ b
same_is a b e = sym (number_back a) ∙ ap state_of (eqb-true (state_number a) (state_number b) e) ∙ number_back b

idle_same : (state : State) → same_state Idle state ≡ is_idle state
idle_same Idle = refl
idle_same Present = refl
idle_same MLock = refl
idle_same SLock = refl
idle_same Locked = refl
idle_same Calibration = refl
idle_same Calibrated = refl
idle_same RespCalibReq = refl

pub idle_is : (state : State) → is_idle state ≡ true → Idle ≡ state
idle_is state e = same_is Idle state (idle_same state ∙ e)

-- What the rules ask of each move.

-- a timeout that counts
abbrev pub counted : Link → Event → Bool
counted l e = is_timeout e && not (is_idle l.state)

-- the state entered is another one, whether calibration is needed or not
abbrev pub Onward : State → State → Type 0
Onward old state = (same_state (landed true state) old ≡ false) × (same_state (landed false state) old ≡ false)

pub data Rule (l : Link) (e : Event) : Move → Type 0 where
  ignores : counted l e ≡ false → Rule l e Ignore
  enters : {role : Role} {state : State} → Onward l.state state → Rule l e (Enter role state)
  goes_on : is_idle l.state ≡ false → Rule l e LinkOn
  resends : counted l e ≡ true → l.retries < 3 → Rule l e (Resend (l.retries + 1))
  leaves : Rule l e Leave

by_test : {l : Link} {e : Event} {x y : Move} (b : Bool) → Rule l e x → Rule l e y → Rule l e (pick b x y)
by_test true p q = p
by_test false p q = q

-- a move along the way, from a state
data Along (state : State) : Move → Type 0 where
  to : {role : Role} {next : State} → Onward state next → Along state (Enter role next)
  up : is_idle state ≡ false → Along state LinkOn

abbrev AlongAll : State → Waits → Type 0
AlongAll state (waits.Message awaited then) = Along state then
AlongAll state (waits.Hardware then) = Along state then
AlongAll state waits.Nothing = Unit {0}

along : (role : Role) (state : State) → AlongAll state (waits_of role state)
along Slave Idle = tt
along Slave Present = to (refl, refl)
along Slave MLock = tt
along Slave SLock = to (refl, refl)
along Slave Locked = to (refl, refl)
along Slave Calibration = to (refl, refl)
along Slave Calibrated = up refl
along Slave RespCalibReq = to (refl, refl)
along Master Idle = tt
along Master Present = tt
along Master MLock = to (refl, refl)
along Master SLock = tt
along Master Locked = tt
along Master Calibration = to (refl, refl)
along Master Calibrated = to (refl, refl)
along Master RespCalibReq = up refl

module _ (l : Link) where
  of_along : {e : Event} {m : Move} → Along l.state m → Rule l e m
  of_along (to h) = enters h
  of_along (up h) = goes_on h

  on_message_lem : (w : Waits) (n : ℕ) → AlongAll l.state w → Rule l (Message n) (on_message w n)
  on_message_lem (waits.Message awaited then) n h = by_test (eqb n awaited) (of_along h) (ignores refl)
  on_message_lem (waits.Hardware then) n h = ignores refl
  on_message_lem waits.Nothing n h = ignores refl

  on_done_lem : (w : Waits) → AlongAll l.state w → Rule l Done (on_done w)
  on_done_lem (waits.Hardware then) h = of_along h
  on_done_lem (waits.Message awaited then) h = ignores refl
  on_done_lem waits.Nothing h = ignores refl

  -- a start from IDLE, by a test
  of_start : {e : Event} (role : Role) (next : State) → counted l e ≡ false → Onward Idle next → (b : Bool) → (b ≡ true → is_idle l.state ≡ true) → Rule l e (pick b (Enter role next) Ignore)
  of_start role next c h true i = enters (subst (λ (old : State). Onward old next) (idle_is l.state (i refl)) h)
  of_start role next c h false i = ignores c

  of_timeout : (idle few : Bool) → is_idle l.state ≡ idle → ltb l.retries 3 ≡ few → Rule l Timeout (pick idle Ignore (pick few (Resend (l.retries + 1)) Leave))
  of_timeout true few i f = ignores (rw i)
  of_timeout false true i f = resends (rw i) (ltb-true _ _ f)
  of_timeout false false i f = leaves

of_message : (config : ℕ) (l : Link) (n : ℕ) (idle : Bool) → is_idle l.state ≡ idle → Rule l (Message n) (pick idle (on_slave_present config n) (on_message (waits_of l.role l.state) n))
unfolding on_slave_present
of_message config l n true i = of_start l Master MLock refl (refl, refl) (CanMaster config && eqb n SLAVE-PRESENT) (λ b. i)
of_message config l n false i = on_message_lem l (waits_of l.role l.state) n (along l.role l.state)

-- the rules hold of every event
pub rule : (config : ℕ) (l : Link) (e : Event) → Rule l e (asked config l e)
unfolding on_start on_timeout
rule config l (Start parent mode) =
    of_start l Slave Present refl (refl, refl)
    (is_idle l.state && CanSlave config && CanMaster parent && not (l.mode && mode))
    (λ b.
    (both (is_idle l.state) (CanSlave config)
    (both (is_idle l.state && CanSlave config) (CanMaster parent)
    (both (is_idle l.state && CanSlave config && CanMaster parent) (not (l.mode && mode)) b).0).0).0)
rule config l (Message n) = of_message config l n (is_idle l.state) refl
rule config l Done = on_done_lem l (waits_of l.role l.state) (along l.role l.state)
rule config l Timeout = of_timeout l (is_idle l.state) (ltb l.retries 3) refl refl
rule config l Stop = leaves

-- The laws.

pub landed_other : (needed : Bool) (old state : State) → Onward old state → same_state (landed needed state) old ≡ false
landed_other true old state h = h.0
landed_other false old state h = h.1

module _ (s : Settings) (l : Link) (e : Event) where
  -- "A change of state zeroes the retry count."
  zeroes : {m : Move} → Rule l e m → same_state (taken s l m).link.state l.state ≡ false → (taken s l m).link.retries ≡ 0
  zeroes (ignores c) other = clash (same_refl l.state) other
  zeroes (enters h) other = refl
  zeroes (goes_on i) other = refl
  zeroes (resends c r) other = clash (same_refl l.state) other
  zeroes leaves other = refl

  pub change_zeroes : same_state (stepped s l e).link.state l.state ≡ false → (stepped s l e).link.retries ≡ 0
  unfolding stepped
  change_zeroes = zeroes (rule s.config l e)

  -- the count after a step: one more by a timeout outside IDLE, as it was by anything else that leaves the state, zero by a change
  counts : {m : Move} → Rule l e m → (is_idle l.state ≡ true → l.retries ≡ 0) →
      (taken s l m).link.retries ≡ pick (same_state (taken s l m).link.state l.state) (pick (counted l e) 1 0 + l.retries) 0
  counts (ignores c) z = rw (same_refl l.state, c) (omega arith)
  counts (enters {role} {state} h) z = rw (landed_other s.calibrate l.state state h)
  counts (goes_on i) z = rw (idle_same l.state, i)
  counts (resends c r) z = rw (same_refl l.state, c) (omega arith)
  counts leaves z = rw (idle_same l.state) (by (is_idle l.state) refl)
    where
      by : (idle : Bool) → is_idle l.state ≡ idle → 0 ≡ pick idle (pick (counted l e) 1 0 + l.retries) 0
      by true i = rw (i, and-false (is_timeout e), z i)
      by false i = refl

  pub step_counts : (is_idle l.state ≡ true → l.retries ≡ 0) →
      (stepped s l e).link.retries ≡ pick (same_state (stepped s l e).link.state l.state) (pick (counted l e) 1 0 + l.retries) 0
  unfolding stepped
  step_counts = counts (rule s.config l e)

  -- the count keeps any bound of three or more
  few : {m : Move} (bound : ℕ) → 3 ≤ bound → Rule l e m → l.retries ≤ bound → (taken s l m).link.retries ≤ bound
  few bound b (ignores c) h = h
  few bound b (enters o) h = omega arith
  few bound b (goes_on i) h = omega arith
  few bound b (resends c r) h = omega arith
  few bound b leaves h = omega arith

  pub at_most : (bound : ℕ) → 3 ≤ bound → l.retries ≤ bound → (stepped s l e).link.retries ≤ bound
  unfolding stepped
  at_most bound b = few bound b (rule s.config l e)

  -- a step that leaves the state sends only what a timeout resends: at most one message
  one_each : (state : State) → sent (message_of s state) ≤ 1
  one_each Idle = omega arith
  one_each Present = omega arith
  one_each MLock = omega arith
  one_each SLock = omega arith
  one_each Locked = omega arith
  one_each Calibration = omega arith
  one_each Calibrated = omega arith
  one_each RespCalibReq = omega arith

  sends_few : {m : Move} → Rule l e m → same_state (taken s l m).link.state l.state ≡ true → sent (taken s l m).sends ≤ pick (counted l e) 1 0
  sends_few (ignores c) same = rw c (omega arith)
  sends_few (enters {role} {state} h) same = clash same (landed_other s.calibrate l.state state h)
  sends_few (goes_on i) same = clash same (idle_same l.state ∙ i)
  sends_few (resends c r) same = rw c (one_each l.state)
  sends_few leaves same = omega arith

  pub resends_few : same_state (stepped s l e).link.state l.state ≡ true → sent (stepped s l e).sends ≤ pick (counted l e) 1 0
  unfolding stepped
  resends_few = sends_few (rule s.config l e)

  -- the mode: on before, or by link on
  on_before : {m : Move} → Rule l e m → (taken s l m).link.mode ≡ true → (l.mode ≡ true) ⊎ ((taken s l m).report ≡ true)
  on_before (ignores c) on = inl on
  on_before (enters h) on = inl on
  on_before (goes_on i) on = inr refl
  on_before (resends c r) on = inl on
  on_before leaves on = clash refl (sym on)

  -- mode on only by link on
  pub mode_by_link_on : (stepped s l e).link.mode ≡ true → (l.mode ≡ true) ⊎ ((stepped s l e).report ≡ true)
  unfolding stepped
  mode_by_link_on = on_before (rule s.config l e)

  -- a report comes with IDLE, the mode on and the count at zero
  reported : {m : Move} → Rule l e m → (taken s l m).report ≡ true → (taken s l m).link ≡ in_state l.role Idle true
  reported (ignores c) r = clash refl (sym r)
  reported (enters h) r = clash refl (sym r)
  reported (goes_on i) r = refl
  reported (resends c h) r = clash refl (sym r)
  reported leaves r = clash refl (sym r)

  pub report_is_on : (stepped s l e).report ≡ true → (stepped s l e).link ≡ in_state l.role Idle true
  unfolding stepped
  report_is_on = reported (rule s.config l e)

  -- "All else is ignored and changes nothing."
  pub ignored_is_equal : asked s.config l e ≡ Ignore → stepped s l e ≡ ignored l
  unfolding stepped
  ignored_is_equal i = rw i

  -- "A stop goes to IDLE with mode off."
  pub stop_leaves : stepped s l Stop ≡ left l.role
  unfolding stepped
  stop_leaves = refl

  -- "the fourth goes to IDLE with mode off"
  pub fourth_leaves : is_idle l.state ≡ false → l.retries ≡ 3 → stepped s l Timeout ≡ left l.role
  unfolding stepped on_timeout
  fourth_leaves i r = rw (i, r)

  -- "A timeout resends the state's message, if any, three times"
  pub third_resends : is_idle l.state ≡ false → l.retries < 3 → stepped s l Timeout ≡ resent s l (l.retries + 1)
  unfolding stepped on_timeout
  third_resends i r = rw (i, lt-ltb _ _ r)

  -- "in IDLE it is ignored"
  pub idle_ignores : is_idle l.state ≡ true → stepped s l Timeout ≡ ignored l
  unfolding stepped on_timeout
  idle_ignores i = rw i

-- A link on its way goes on: what its state waits for changes the state.

module _ (s : Settings) (l : Link) where
  moves : {m : Move} → Along l.state m → same_state (taken s l m).link.state l.state ≡ false
  moves (to {role} {next} h) = landed_other s.calibrate l.state next h
  moves (up i) = idle_same l.state ∙ i

  pub message_moves : (n : ℕ) (then : Move) → is_idle l.state ≡ false → waits_of l.role l.state ≡ waits.Message n then →
      same_state (stepped s l (Message n)).link.state l.state ≡ false
  unfolding stepped
  message_moves n then i w = rw (i, w, eq-eqb n n refl) (moves (rw w at (along l.role l.state)))

  pub done_moves : (then : Move) → waits_of l.role l.state ≡ waits.Hardware then → same_state (stepped s l Done).link.state l.state ≡ false
  unfolding stepped
  done_moves then w = rw w (moves (rw w at (along l.role l.state)))

-- The report comes exactly when the machine goes through link on.

abbrev is_on : Move → Bool
is_on Ignore = false
is_on (Enter role state) = false
is_on LinkOn = true
is_on (Resend retries) = false
is_on Leave = false

report_by_move : (s : Settings) (l : Link) (m : Move) → (taken s l m).report ≡ is_on m
report_by_move s l Ignore = refl
report_by_move s l (Enter role state) = refl
report_by_move s l LinkOn = refl
report_by_move s l (Resend retries) = refl
report_by_move s l Leave = refl

never : (b : Bool) (x y : Move) → is_on x ≡ false → is_on y ≡ false → is_on (pick b x y) ≡ false
never true x y p q = p
never false x y p q = q

exactly : (b : Bool) → is_on (pick b LinkOn Ignore) ≡ b
exactly true = refl
exactly false = refl

never_goes_on : (role : Role) (state : State) (e : Event) → is_message WR-MODE-ON e ≡ false → is_message CALIBRATED e ≡ false → GoesOn role state e ≡ false
never_goes_on Slave state e p q = rw (p, and-false (same_state state Calibrated))
never_goes_on Master state e p q = rw (q, and-false (same_state state RespCalibReq))

on_by_message : (config : ℕ) (role : Role) (state : State) (n : ℕ) →
    is_on (pick (is_idle state) (on_slave_present config n) (on_message (waits_of role state) n)) ≡ GoesOn role state (Message n)
unfolding on_slave_present
on_by_message config Slave Idle n = never (CanMaster config && eqb n SLAVE-PRESENT) (Enter Master MLock) Ignore refl refl
on_by_message config Slave Present n = never (eqb n LOCK) (Enter Slave SLock) Ignore refl refl
on_by_message config Slave MLock n = refl
on_by_message config Slave SLock n = refl
on_by_message config Slave Locked n = never (eqb n CALIBRATE) (Enter Slave RespCalibReq) Ignore refl refl
on_by_message config Slave Calibration n = refl
on_by_message config Slave Calibrated n = exactly (eqb n WR-MODE-ON)
on_by_message config Slave RespCalibReq n = never (eqb n CALIBRATED) (Enter Slave Calibration) Ignore refl refl
on_by_message config Master Idle n = never (CanMaster config && eqb n SLAVE-PRESENT) (Enter Master MLock) Ignore refl refl
on_by_message config Master Present n = refl
on_by_message config Master MLock n = never (eqb n LOCKED) (Enter Master Calibration) Ignore refl refl
on_by_message config Master SLock n = refl
on_by_message config Master Locked n = refl
on_by_message config Master Calibration n = refl
on_by_message config Master Calibrated n = never (eqb n CALIBRATE) (Enter Master RespCalibReq) Ignore refl refl
on_by_message config Master RespCalibReq n = exactly (eqb n CALIBRATED)

never_by_done : (role : Role) (state : State) → is_on (on_done (waits_of role state)) ≡ false
never_by_done Slave Idle = refl
never_by_done Slave Present = refl
never_by_done Slave MLock = refl
never_by_done Slave SLock = refl
never_by_done Slave Locked = refl
never_by_done Slave Calibration = refl
never_by_done Slave Calibrated = refl
never_by_done Slave RespCalibReq = refl
never_by_done Master Idle = refl
never_by_done Master Present = refl
never_by_done Master MLock = refl
never_by_done Master SLock = refl
never_by_done Master Locked = refl
never_by_done Master Calibration = refl
never_by_done Master Calibrated = refl
never_by_done Master RespCalibReq = refl

on_by_event : (config : ℕ) (l : Link) (e : Event) → is_on (asked config l e) ≡ GoesOn l.role l.state e
unfolding on_start on_timeout
on_by_event config l (Start parent mode) =
    never (is_idle l.state && CanSlave config && CanMaster parent && not (l.mode && mode)) (Enter Slave Present) Ignore refl refl
    ∙ sym (never_goes_on l.role l.state (Start parent mode) refl refl)
on_by_event config l (Message n) = on_by_message config l.role l.state n
on_by_event config l Done = never_by_done l.role l.state ∙ sym (never_goes_on l.role l.state Done refl refl)
on_by_event config l Timeout =
    never (is_idle l.state) Ignore (pick (ltb l.retries 3) (Resend (l.retries + 1)) Leave) refl
    (never (ltb l.retries 3) (Resend (l.retries + 1)) Leave refl refl)
    ∙ sym (never_goes_on l.role l.state Timeout refl refl)
on_by_event config l Stop = sym (never_goes_on l.role l.state Stop refl refl)

pub report_exactly : (s : Settings) (l : Link) (e : Event) → (stepped s l e).report ≡ GoesOn l.role l.state e
unfolding stepped
report_exactly s l e = report_by_move s l (asked s.config l e) ∙ on_by_event s.config l e
