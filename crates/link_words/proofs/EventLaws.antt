-- The words written from a step in numbers and the settings' words are the step's words.
use Prim.Native.Nat.{ℕ, ◌+◌}
use mathlib.Core.Path.{◌≡◌, refl, ap, ◌∙◌}
use mathlib.Core.Bool.{Bool, true, false, not}
use mathlib.Core.List.{List, [], ◌∷◌}
use lib.Dec.{eqb}
use Rattle.refusal.specs.Choice.{pick}
use Rattle.link.specs.declared.Role.{Role}
use Rattle.link.specs.declared.Role.TheVariants.{Slave, Master}
use Rattle.link.specs.declared.State.{State}
use Rattle.link.specs.declared.State.TheVariants.{Idle, Present, MLock, SLock, Locked, Calibration, Calibrated, RespCalibReq}
use Rattle.link.specs.declared.Link.{Link}
use Rattle.link.specs.declared.Settings.{Settings}
use Rattle.link.specs.declared.Event.{Event}
use Rattle.link.specs.declared.Move.{Move}
use Rattle.link.specs.declared.Move.TheVariants.{Ignore, Enter, LinkOn, Resend, Leave}
use Rattle.link.specs.declared.Sends.{Sends}
use Rattle.link.specs.declared.Sends.TheVariants.{Nothing, Two}
use Rattle.link.specs.declared.Stepped.{Stepped}
use Rattle.link.specs.States.{state_number}
use Rattle.link.specs.Machine.{asked, calibrate_of, calibrated_of, message_of, mode_on_of, Skips, taken, stepped}
use Rattle.links.specs.declared.brief.Brief.{Brief}
use Rattle.links.specs.Words.{bit, role_number, word_of, settings_of}
use Rattle.links.specs.Brief.{sent_first, sent_both, brief_of}
use Rattle.links.proofs.WordLaws.{state_in, role_in, mode_in, count_in}
use Rattle.links.proofs.BriefLaws.{without_latencies}
use Rattle.link_words.specs.Steps.{sends_words, step_words}
use Rattle.link_words.specs.Events.{link_words, with_calibrate, with_calibrated, with_second, brief_words}

-- the eighteen words before what the messages carry
abbrev lead : ℕ → ℕ → ℕ → ℕ → Bool → Sends → List ℕ
lead state role mode retries report sends =
    state ∷ role ∷ mode ∷ retries ∷ bit report ∷ (bit (not (eqb (sent_first sends) 0)) + bit (sent_both sends)) ∷ sent_first sends
    ∷ 0 ∷ 0 ∷ 0 ∷ 0 ∷ 0 ∷ 0 ∷ 0 ∷ 0 ∷ 0 ∷ 0 ∷ 0 ∷ []

link_part : (x : Stepped) → link_words (brief_of x) ≡ lead (state_number x.link.state) (role_number x.link.role) (bit x.link.mode) x.link.retries x.report x.sends
unfolding link_words brief_of
link_part x = λ i. lead (state_in x.link i) (role_in x.link i) (mode_in x.link i) (count_in x.link i) x.report x.sends

module _ (w tx rx : ℕ) where
  abbrev s : Settings
  s = settings_of w tx rx

  abbrev carried : Sends → List ℕ → List ℕ
  carried sends out = with_second tx rx (sent_both sends) (with_calibrated tx rx (sent_first sends) (with_calibrate w (sent_first sends) out))

  module _ (state role mode retries : ℕ) (report : Bool) where
    abbrev Whole : Sends → Type 0
    Whole sends = carried sends (lead state role mode retries report sends) ≡ state ∷ role ∷ mode ∷ retries ∷ bit report ∷ sends_words sends

    none_whole : Whole Nothing
    unfolding with_calibrate with_calibrated with_second sends_words
    none_whole = refl

    message_whole : (next : State) → Whole (message_of s next)
    unfolding with_calibrate with_calibrated with_second sends_words settings_of
    message_whole Idle = refl
    message_whole Present = refl
    message_whole MLock = refl
    message_whole SLock = refl
    message_whole Locked = refl
    message_whole Calibration = refl
    message_whole Calibrated = refl
    message_whole RespCalibReq = refl

    entered_whole : (skips : Bool) (next : State) → Whole (pick skips (Two (calibrate_of s) (calibrated_of s)) (message_of s next))
    unfolding with_calibrate with_calibrated with_second sends_words settings_of
    entered_whole true next = refl
    entered_whole false next = message_whole next

    mode_on_whole : (side : Role) → Whole (mode_on_of side)
    unfolding with_calibrate with_calibrated with_second sends_words
    mode_on_whole Slave = refl
    mode_on_whole Master = refl

    move_whole : (l : Link) (m : Move) → Whole (taken s l m).sends
    move_whole l Ignore = none_whole
    move_whole l (Enter side next) = entered_whole (Skips s next) next
    move_whole l LinkOn = mode_on_whole l.role
    move_whole l (Resend count) = message_whole l.state
    move_whole l Leave = none_whole

  taken_words_lem : (l : Link) (m : Move) → brief_words w tx rx (brief_of (taken s l m)) ≡ step_words (taken s l m)
  unfolding brief_words brief_of step_words
  taken_words_lem l m =
      let x = taken s l m in
      (λ i. carried x.sends (link_part x i))
      ∙ move_whole (state_number x.link.state) (role_number x.link.role) (bit x.link.mode) x.link.retries x.report l m

  -- by what the step in numbers is told of the settings
  pub step_words_lem : (l : Link) (e : Event) → brief_words w tx rx (brief_of (stepped (settings_of w 0 0) l e)) ≡ step_words (stepped s l e)
  unfolding stepped
  step_words_lem l e = rw (← without_latencies w tx rx l e) (taken_words_lem l (asked s.config l e))

  -- and the word that is kept of them is the link's
  pub step_word_lem : (l : Link) (e : Event) → word_of (stepped s l e).link ≡ (brief_of (stepped (settings_of w 0 0) l e)).word
  unfolding brief_of
  step_word_lem l e = ap (λ (b : Brief). b.word) (without_latencies w tx rx l e)
