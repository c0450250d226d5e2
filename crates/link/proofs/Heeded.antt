-- What is ignored, complete: a step answers the link as it was, with nothing to send or report, exactly where the table does not heed the event.
use Prim.Native.Nat.{ℕ, ◌+◌}
use mathlib.Core.Path.{◌≡◌, refl, ap, sym, ◌∙◌}
use mathlib.Core.Bool.{Bool, true, false, not, ◌&&◌, ◌||◌}
use mathlib.Core.Logic.{◌↔◌}
use native.Mathlib.Omega.{arith}
use lib.Dec.{eqb, ltb}
use borrow.Author.Tests.{eqb-true, not-true, not-false}
use Rattle.refusal.specs.Choice.{pick}
use Rattle.link.specs.declared.Role.{Role}
use Rattle.link.specs.declared.Role.TheVariants.{Slave, Master}
use Rattle.link.specs.declared.State.{State}
use Rattle.link.specs.declared.State.TheVariants.{Idle, Present, MLock, SLock, Locked, Calibration, Calibrated, RespCalibReq}
use Rattle.link.specs.declared.Link.{Link}
use Rattle.link.specs.declared.Settings.{Settings}
use Rattle.link.specs.declared.Event.{Event}
use Rattle.link.specs.declared.Event.TheVariants.{Start, Message, Done, Timeout, Stop}
use Rattle.link.specs.declared.Move.{Move}
use Rattle.link.specs.declared.Move.TheVariants.{Ignore, Enter, LinkOn, Resend, Leave}
use Rattle.link.specs.Machine.{is_idle, CanSlave, CanMaster, on_start, on_slave_present, waits_of, on_message, on_done, on_timeout, asked, ignored, taken, stepped}
use Rattle.link.specs.States.{same_state}
use Rattle.link.specs.Heeded.{awaits, is_number, is_hardware, is_heeded}
use Rattle.laws.proofs.Bools.{both, clash}
use Rattle.link.proofs.StepLaws.{Rule, ignores, enters, goes_on, resends, leaves, rule, landed_other, same_refl, idle_is, ignored_is_equal}

-- which moves are made
abbrev is_move : Move → Bool
is_move Ignore = false
is_move (Enter role state) = true
is_move LinkOn = true
is_move (Resend retries) = true
is_move Leave = true

by_test : (b : Bool) (m : Move) → is_move m ≡ true → is_move (pick b m Ignore) ≡ b
by_test true m e = e
by_test false m e = refl

-- the table's rows, one for each role and state
on_number : (config : ℕ) (role : Role) (state : State) (n : ℕ) →
    is_move (pick (is_idle state) (on_slave_present config n) (on_message (waits_of role state) n))
    ≡ pick (is_idle state) ((eqb config 1 || eqb config 3) && eqb n 0x1000) (is_number (awaits role state) n)
unfolding on_slave_present
on_number config Slave Idle n = by_test (CanMaster config && eqb n 0x1000) (Enter Master MLock) refl
on_number config Slave Present n = by_test (eqb n 0x1001) (Enter Slave SLock) refl
on_number config Slave MLock n = refl
on_number config Slave SLock n = refl
on_number config Slave Locked n = by_test (eqb n 0x1003) (Enter Slave RespCalibReq) refl
on_number config Slave Calibration n = refl
on_number config Slave Calibrated n = by_test (eqb n 0x1005) LinkOn refl
on_number config Slave RespCalibReq n = by_test (eqb n 0x1004) (Enter Slave Calibration) refl
on_number config Master Idle n = by_test (CanMaster config && eqb n 0x1000) (Enter Master MLock) refl
on_number config Master Present n = refl
on_number config Master MLock n = by_test (eqb n 0x1002) (Enter Master Calibration) refl
on_number config Master SLock n = refl
on_number config Master Locked n = refl
on_number config Master Calibration n = refl
on_number config Master Calibrated n = by_test (eqb n 0x1003) (Enter Master RespCalibReq) refl
on_number config Master RespCalibReq n = by_test (eqb n 0x1004) LinkOn refl

on_hardware : (role : Role) (state : State) → is_move (on_done (waits_of role state)) ≡ is_hardware (awaits role state)
on_hardware Slave Idle = refl
on_hardware Slave Present = refl
on_hardware Slave MLock = refl
on_hardware Slave SLock = refl
on_hardware Slave Locked = refl
on_hardware Slave Calibration = refl
on_hardware Slave Calibrated = refl
on_hardware Slave RespCalibReq = refl
on_hardware Master Idle = refl
on_hardware Master Present = refl
on_hardware Master MLock = refl
on_hardware Master SLock = refl
on_hardware Master Locked = refl
on_hardware Master Calibration = refl
on_hardware Master Calibrated = refl
on_hardware Master RespCalibReq = refl

on_silence : (idle few : Bool) (n : ℕ) → is_move (pick idle Ignore (pick few (Resend n) Leave)) ≡ not idle
on_silence true few n = refl
on_silence false true n = refl
on_silence false false n = refl

-- a move is made exactly where the event is heeded; a stop makes one always
abbrev is_stop : Event → Bool
is_stop (Start config mode) = false
is_stop (Message n) = false
is_stop Done = false
is_stop Timeout = false
is_stop Stop = true

moves_exactly : (config : ℕ) (l : Link) (e : Event) → is_stop e ≡ false → is_move (asked config l e) ≡ is_heeded config l e
unfolding is_heeded on_start on_timeout
moves_exactly config l (Start parent on) h =
    by_test (is_idle l.state && CanSlave config && CanMaster parent && not (l.mode && on)) (Enter Slave Present) refl
moves_exactly config l (Message n) h = on_number config l.role l.state n
moves_exactly config l Done h = on_hardware l.role l.state
moves_exactly config l Timeout h = on_silence (is_idle l.state) (ltb l.retries 3) (l.retries + 1)
moves_exactly config l Stop h = clash refl h

no_move : (m : Move) → is_move m ≡ false → m ≡ Ignore
no_move Ignore h = refl
no_move (Enter role state) h = clash refl h
no_move LinkOn h = clash refl h
no_move (Resend n) h = clash refl h
no_move Leave h = clash refl h

-- in IDLE nothing but a stop leaves
abbrev is_leave : Move → Bool
is_leave Ignore = false
is_leave (Enter role state) = false
is_leave LinkOn = false
is_leave (Resend retries) = false
is_leave Leave = true

enters_or_not : (b : Bool) (role : Role) (state : State) → is_leave (pick b (Enter role state) Ignore) ≡ false
enters_or_not true role state = refl
enters_or_not false role state = refl

waits_not : (role : Role) → is_leave (on_done (waits_of role Idle)) ≡ false
waits_not Slave = refl
waits_not Master = refl

stays_idle : (config : ℕ) (l : Link) (e : Event) → is_stop e ≡ false → is_idle l.state ≡ true → is_leave (asked config l e) ≡ false
unfolding on_start on_slave_present on_timeout
stays_idle config l (Start parent on) h i =
    enters_or_not (is_idle l.state && CanSlave config && CanMaster parent && not (l.mode && on)) Slave Present
stays_idle config l (Message n) h i = rw i (enters_or_not (CanMaster config && eqb n 0x1000) Master MLock)
stays_idle config l Done h i = rw (← idle_is l.state i) (waits_not l.role)
stays_idle config l Timeout h i = rw i
stays_idle config l Stop h i = clash refl h

module _ (s : Settings) (l : Link) where
  -- a move that is made changes something
  changes : {e : Event} {m : Move} → Rule l e m → is_move m ≡ true → (is_leave m ≡ true → is_idle l.state ≡ false) → taken s l m ≡ ignored l → ⊥
  changes (ignores c) h o q = clash refl (sym h)
  changes (enters {role} {state} away) h o q =
      clash (ap (λ x. same_state x.link.state l.state) q ∙ same_refl l.state) (landed_other s.calibrate l.state state away)
  changes (goes_on i) h o q = clash refl (ap (λ x. x.report) q)
  changes (resends c r) h o q = let n = ap (λ x. x.link.retries) q in omega arith
  changes leaves h o q = clash refl (ap (λ x. is_idle x.link.state) q ∙ o refl)

  leaves_from : (e : Event) → is_stop e ≡ false → (idle : Bool) → is_idle l.state ≡ idle → is_leave (asked s.config l e) ≡ true → is_idle l.state ≡ false
  leaves_from e h true i m = clash m (stays_idle s.config l e h i)
  leaves_from e h false i m = i

  -- a stop finds nothing to change in a link that is as a stop leaves it
  stopped : is_heeded s.config l Stop ≡ false → stepped s l Stop ≡ ignored l
  unfolding stepped is_heeded
  stopped h =
      let all = not-false (is_idle l.state && not l.mode && eqb l.retries 0) h in
      let off = both (is_idle l.state && not l.mode) (eqb l.retries 0) all in
      let idle = both (is_idle l.state) (not l.mode) off.0 in
      let i = idle.0 in
      let m = not-true l.mode idle.1 in
      let n = eqb-true l.retries 0 off.1 in
      λ k. record { link = record { role = l.role; state = idle_is l.state i k; retries = sym n k; mode = sym m k }; sends = (ignored l).sends; report = false }

  stops : stepped s l Stop ≡ ignored l → is_heeded s.config l Stop ≡ false
  unfolding stepped is_heeded
  stops q =
      let i = ap (λ x. is_idle x.link.state) q in
      let m = ap (λ x. x.link.mode) q in
      let n = ap (λ x. x.link.retries) q in
      rw (← i, ← m, ← n)

  -- each other event
  others : (e : Event) → is_stop e ≡ false → (stepped s l e ≡ ignored l) ↔ (is_heeded s.config l e ≡ false)
  unfolding stepped
  others e h = (by (is_heeded s.config l e) refl, λ t. ignored_is_equal s l e (no_move (asked s.config l e) (moves_exactly s.config l e h ∙ t)))
    where
      by : (heeded : Bool) → is_heeded s.config l e ≡ heeded → stepped s l e ≡ ignored l → is_heeded s.config l e ≡ false
      by true t q =
          absurd
          (changes (rule s.config l e) (moves_exactly s.config l e h ∙ t) (leaves_from e h (is_idle l.state) refl) q)
      by false t q = t

  -- "All else is ignored and changes nothing."
  pub ignored_exactly : (e : Event) → (stepped s l e ≡ ignored l) ↔ (is_heeded s.config l e ≡ false)
  ignored_exactly (Start parent on) = others (Start parent on) refl
  ignored_exactly (Message n) = others (Message n) refl
  ignored_exactly Done = others Done refl
  ignored_exactly Timeout = others Timeout refl
  ignored_exactly Stop = (stops, stopped)
