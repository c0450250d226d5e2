-- Origin time gives each number exactly when 01 says.
use Rattle.std.specs.Prelude.{Result, Ok, Err}
use Prim.Native.Nat.{ℕ, ◌<◌}
use mathlib.Core.Path.{◌≡◌, refl, sym, ap, subst, ◌∙◌}
use mathlib.Core.List.{List}
use mathlib.Core.Bool.{Bool, true, false, ◌&&◌}
use native.Mathlib.Omega.{arith}
use borrow.Author.Tests.{eq-eqb, eqb-true}
use Rattle.refusal.specs.Choice.{refuse}
use Rattle.refusal.specs.Refusal.{answer_of, code_of}
use Rattle.refusal.proofs.Numbers.{answered}
use Rattle.message.specs.Reading.{by, takes_of}
use Rattle.message.specs.When.{TakesWhen}
use Rattle.message.proofs.Exactly.{none_refused, when_takes, takes_told}
use Rattle.origin.specs.Origin.{is_two_step, follows, follow_check, origin_check}
use Rattle.origin.specs.When.{Follows, IsTwoStep, OriginWhen, of_sync, one_step, of_follow, mismatch, two_step}
use Rattle.refusal.specs.declared.Refusal.{Refusal}

-- ---- one message: the reading checks, then 3 if it is not the one the call takes
module _ (magic kind : ℕ) (s : List ℕ) where
  pub message_told : TakesWhen magic kind s (code_of (takes_of magic kind s))
  unfolding takes_of
  message_told = takes_told code_of Err (λ x. refl) magic kind s (Ok tt) refl

  pub when_message : {n : ℕ} → TakesWhen magic kind s n → code_of (takes_of magic kind s) ≡ n
  unfolding takes_of
  when_message w = when_takes code_of Err (λ x. refl) magic kind s (Ok tt) refl w

  taken_is : TakesWhen magic kind s 0 → takes_of magic kind s ≡ Ok tt
  taken_is w = none_refused (takes_of magic kind s) (when_message w)

  line : {o : Result (Unit {0}) Refusal} → takes_of magic kind s ≡ o → TakesWhen magic kind s (code_of o)
  line e = subst (λ (o : Result (Unit {0}) Refusal). TakesWhen magic kind s (code_of o)) e message_told

-- a number above 0 is that of the check that comes first
first_refuses : (o p : Result (Unit {0}) Refusal) {n : ℕ} → code_of o ≡ n → 0 < n → code_of (by o Err p) ≡ n
first_refuses (Err x) p e h = e
first_refuses (Ok tt) p e h = absurd (omega arith)

-- ---- the two messages
four : (a b c d : Bool) → (((a && b) && c) && d) ≡ true → (a ≡ true) × (b ≡ true) × (c ≡ true) × (d ≡ true)
four true true true d e = (refl, refl, refl, e)
four true true false d e = absurd (let z : ◌≡◌ {A = ℕ} 0 1 = cc in omega arith)
four true false c d e = absurd (let z : ◌≡◌ {A = ℕ} 0 1 = cc in omega arith)
four false b c d e = absurd (let z : ◌≡◌ {A = ℕ} 0 1 = cc in omega arith)

module _ (sync follow : List ℕ) where
  pub agrees : follows sync follow ≡ true → Follows sync follow
  unfolding follows
  agrees e =
      let f = four _ _ _ _ e in
      record {
        clock = eqb-true _ _ f.0;
        port = eqb-true _ _ f.1;
        domain = eqb-true _ _ f.2;
        sequence = eqb-true _ _ f.3;
      }

  pub agreeing : Follows sync follow → follows sync follow ≡ true
  unfolding follows
  agreeing f =
      rw (eq-eqb _ _ f.clock, eq-eqb _ _ f.port, eq-eqb _ _ f.domain, eq-eqb _ _ f.sequence)

  differs : (b : Bool) → follows sync follow ≡ b → (Follows sync follow → ⊥) → follows sync follow ≡ false
  differs true e n = absurd (n (agrees e))
  differs false e n = e

module _ (magic : ℕ) (sync follow : List ℕ) where
  -- what is left of the checks once the Sync is taken, and once the Follow_Up is
  left_one : takes_of magic 0x0 sync ≡ Ok tt → is_two_step sync ≡ false → origin_check magic sync follow ≡ Ok tt
  unfolding origin_check
  left_one e t = rw (e, t)

  left_two : takes_of magic 0x0 sync ≡ Ok tt → is_two_step sync ≡ true → origin_check magic sync follow ≡ follow_check magic sync follow
  unfolding origin_check
  left_two e t = rw (e, t)

  sync_refuses : {n : ℕ} → code_of (takes_of magic 0x0 sync) ≡ n → 0 < n → code_of (origin_check magic sync follow) ≡ n
  unfolding origin_check
  sync_refuses e h = first_refuses (takes_of magic 0x0 sync) _ e h

  follow_refuses : {n : ℕ} → code_of (takes_of magic 0x8 follow) ≡ n → 0 < n → code_of (follow_check magic sync follow) ≡ n
  unfolding follow_check
  follow_refuses e h = first_refuses (takes_of magic 0x8 follow) _ e h

  differing : takes_of magic 0x8 follow ≡ Ok tt → follows sync follow ≡ false → code_of (follow_check magic sync follow) ≡ 3
  unfolding follow_check refuse
  differing e f = rw (e, f)

  following : takes_of magic 0x8 follow ≡ Ok tt → follows sync follow ≡ true → code_of (follow_check magic sync follow) ≡ 0
  unfolding follow_check refuse
  following e f = rw (e, f)

  in_two : IsTwoStep magic sync → code_of (origin_check magic sync follow) ≡ code_of (follow_check magic sync follow)
  in_two p = ap code_of (left_two (taken_is magic 0x0 sync p.0) p.1)

  -- A LINE THAT HOLDS: its number is given
  pub when_origin : {n : ℕ} → OriginWhen magic sync follow n → code_of (origin_check magic sync follow) ≡ n
  when_origin (of_sync w h) = sync_refuses (when_message magic 0x0 sync w) h
  when_origin (one_step p) = ap code_of (left_one (taken_is magic 0x0 sync p.0) p.1)
  when_origin (of_follow p w h) = in_two p ∙ follow_refuses (when_message magic 0x8 follow w) h
  when_origin (mismatch p w n) = in_two p ∙ differing (taken_is magic 0x8 follow w) (differs sync follow (follows sync follow) refl n)
  when_origin (two_step p w f) = in_two p ∙ following (taken_is magic 0x8 follow w) (agreeing sync follow f)

  -- which line it is
  by_follow : IsTwoStep magic sync → (o : Result (Unit {0}) Refusal) → takes_of magic 0x8 follow ≡ o → (b : Bool) → follows sync follow ≡ b
      → (n : ℕ) × OriginWhen magic sync follow n
  by_follow p (Err x) e b f = (answer_of x, of_follow p (line magic 0x8 follow e) (answered x))
  by_follow p (Ok tt) e true f = (0, two_step p (line magic 0x8 follow e) (agrees sync follow f))
  by_follow p (Ok tt) e false f =
      (3, mismatch p (line magic 0x8 follow e) (λ g. absurd (let z : ◌≡◌ {A = Bool} false true = sym f ∙ agreeing sync follow g in let y : ◌≡◌ {A = ℕ} 0 1 = cc in omega arith)))

  by_sync : (o : Result (Unit {0}) Refusal) → takes_of magic 0x0 sync ≡ o → (b : Bool) → is_two_step sync ≡ b → (n : ℕ) × OriginWhen magic sync follow n
  by_sync (Err x) e b t = (answer_of x, of_sync (line magic 0x0 sync e) (answered x))
  by_sync (Ok tt) e false t = (0, one_step (line magic 0x0 sync e, t))
  by_sync (Ok tt) e true t =
      by_follow (line magic 0x0 sync e, t) (takes_of magic 0x8 follow) refl (follows sync follow) refl

  -- THE NUMBER GIVEN: its line holds
  pub origin_told : OriginWhen magic sync follow (code_of (origin_check magic sync follow))
  origin_told =
      let l = by_sync (takes_of magic 0x0 sync) refl (is_two_step sync) refl in
      subst (OriginWhen magic sync follow) (sym (when_origin l.1)) l.1
