-- What holds of a link after any sequence of events from a fresh link, under settings that may change between them.
use Prim.Native.Nat.{ℕ, ◌+◌, ◌≤◌}
use mathlib.Core.Path.{◌≡◌, refl, ap, ◌∙◌}
use mathlib.Core.Bool.{Bool, true, false, not, ◌&&◌, ◌||◌}
use mathlib.Core.List.{List, [], ◌∷◌}
use mathlib.Core.Logic.{⊎_elim}
use native.Mathlib.Omega.{arith}
use Rattle.refusal.specs.Choice.{pick}
use Rattle.link.specs.declared.Link.{Link}
use Rattle.link.specs.declared.Settings.{Settings}
use Rattle.link.specs.declared.Event.{Event}
use Rattle.link.specs.declared.Event.TheVariants.{Timeout}
use Rattle.link.specs.Machine.{is_idle, left, stepped}
use Rattle.link.specs.States.{same_state}
use Rattle.link.specs.Run.{Happened, is_timeout, after, stayed, since_change, timeouts, sent, resends, Reported}
use Rattle.link.proofs.StepLaws.{same_is, step_counts, at_most, resends_few, mode_by_link_on, fourth_leaves}

-- The retry count is the number of timeouts since the last change of state; in IDLE, where a timeout is ignored, it is zero.

abbrev Counts : Link → List Event → Type 0
Counts l es = l.retries ≡ pick (is_idle l.state) 0 (timeouts es)

zero_in_idle : (l : Link) (es : List Event) → Counts l es → is_idle l.state ≡ true → l.retries ≡ 0
zero_in_idle l es c i = c ∙ ap (λ (b : Bool). pick b 0 (timeouts es)) i

either_way : (b : Bool) → ◌≡◌ {A = ℕ} 0 (pick b 0 0)
either_way true = refl
either_way false = refl

one_more : (idle timeout : Bool) (n : ℕ) → pick (timeout && not idle) 1 0 + pick idle 0 n ≡ pick idle 0 (pick timeout 1 0 + n)
one_more true true n = refl
one_more true false n = refl
one_more false true n = refl
one_more false false n = refl

module _ (s : Settings) (l : Link) (e : Event) (es : List Event) (c : Counts l es) where
  by_state : (same : Bool) → same_state (stepped s l e).link.state l.state ≡ same → Counts (stepped s l e).link (pick same (e ∷ es) [])
  unfolding timeouts
  by_state true h =
      rw (step_counts s l e (zero_in_idle l es c), h, same_is (stepped s l e).link.state l.state h, c) (one_more (is_idle l.state) (is_timeout e) (timeouts es))
  by_state false h = rw (step_counts s l e (zero_in_idle l es c), h) (either_way (is_idle (stepped s l e).link.state))

pub retries_count : (hs : List Happened) → Counts (after hs) (since_change hs)
unfolding after since_change timeouts
retries_count [] = refl
retries_count (h ∷ older) = by_state h.under (after older) h.event (since_change older) (retries_count older) (stayed h older) refl

-- outside IDLE: the timeouts since the last change of state
pub retries_are_timeouts : (hs : List Happened) → is_idle (after hs).state ≡ false → (after hs).retries ≡ timeouts (since_change hs)
retries_are_timeouts hs i = retries_count hs ∙ ap (λ (b : Bool). pick b 0 (timeouts (since_change hs))) i

pub retries_in_idle : (hs : List Happened) → is_idle (after hs).state ≡ true → (after hs).retries ≡ 0
retries_in_idle hs i = zero_in_idle (after hs) (since_change hs) (retries_count hs) i

-- At most three resends between two changes of state.

pub three_at_most : (hs : List Happened) → (after hs).retries ≤ 3
unfolding after
three_at_most [] = omega arith
three_at_most (h ∷ older) = at_most h.under (after older) h.event 3 (omega arith) (three_at_most older)

module _ (h : Happened) (older : List Happened) (ih : resends older ≤ (after older).retries) where
  resent_by_state : (same : Bool) → stayed h older ≡ same →
      pick same (sent (stepped h.under (after older) h.event).sends + resends older) 0 ≤ (stepped h.under (after older) h.event).link.retries
  resent_by_state true q =
      rw (step_counts h.under (after older) h.event (retries_in_idle older), q)
      (omega (arith, resends_few h.under (after older) h.event q))
  resent_by_state false q = omega arith

resent_is_counted : (hs : List Happened) → resends hs ≤ (after hs).retries
unfolding after resends
resent_is_counted [] = omega arith
resent_is_counted (h ∷ older) = resent_by_state h older (resent_is_counted older) (stayed h older) refl

pub three_resends : (hs : List Happened) → resends hs ≤ 3
three_resends hs = omega (arith, resent_is_counted hs, three_at_most hs)

-- A fourth timeout since the last change of state leaves the link in IDLE with mode off.
pub fourth_timeout : (s : Settings) (hs : List Happened) → is_idle (after hs).state ≡ false → timeouts (since_change hs) ≡ 3 →
    stepped s (after hs) Timeout ≡ left (after hs).role
fourth_timeout s hs i t = fourth_leaves s (after hs) Timeout i (retries_are_timeouts hs i ∙ t)

-- Mode on only by link on: a link whose mode is on has reported it.

or_right : (a b : Bool) → b ≡ true → (a || b) ≡ true
or_right true b e = refl
or_right false b e = e

or_left : (a b : Bool) → a ≡ true → (a || b) ≡ true
or_left a b e = rw e

pub mode_was_reported : (hs : List Happened) → (after hs).mode ≡ true → Reported hs ≡ true
unfolding after Reported
mode_was_reported [] on = on
mode_was_reported (h ∷ older) on =
    ⊎_elim
    (λ was. or_right (stepped h.under (after older) h.event).report (Reported older) (mode_was_reported older was))
    (λ now. or_left (stepped h.under (after older) h.event).report (Reported older) now)
    (mode_by_link_on h.under (after older) h.event on)
