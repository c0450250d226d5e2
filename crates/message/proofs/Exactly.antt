-- Each number that reading gives is given exactly when the table says: by the checks, by every call that reads, and with
-- the 3 of those calls that take messages of one type.
use Rattle.std.specs.Prelude.{Result, Ok, Err}
use Prim.Native.Nat.{ℕ, ◌+◌, ◌<◌}
use mathlib.Core.Path.{◌≡◌, refl, sym, ap, subst, ◌∙◌}
use mathlib.Core.List.{List}
use mathlib.Core.Bool.{Bool, true, false, not}
use mathlib.Core.Logic.{⊎_elim}
use native.Mathlib.Omega.{arith}
use borrow.Author.Tests.{lt-ltb, le-ltb, eq-eqb, ne_eqb, ltb-true, ltb-false, eqb-true, eqb-false}
use lib.Dec.{eqb, ltb}
use lib.ListN.{length}
use Rattle.laws.proofs.Bools.{decided}
use Rattle.refusal.specs.Choice.{refuse}
use Rattle.refusal.specs.Refusal.{answer_of, code_of}
use Rattle.refusal.proofs.Numbers.{answered}
use Rattle.refusal.specs.declared.Refusal.{Refusal}
use Rattle.refusal.specs.declared.Refusal.TheVariants.{Short, Version, «Type», Length, Stamp, Tlv, WrBad}
use Rattle.tlv.specs.Walk.{BreaksAt, FirstTlv, NoTlv}
use Rattle.tlv.specs.Form.{misfit_at}
use Rattle.tlv.specs.Faults.{whole, misfit, fault_of}
use Rattle.tlv.proofs.FaultLaws.{lt_eqb}
use Rattle.tlv.proofs.Reached.{reached_whole, whole_reached, whole_breaks, breaks_is, breaks_whole, first_is, none_absent, one_or_none}
use Rattle.message.specs.Fields.{type_of, version_of, length_of, fixed_size, tail_of, message_of}
use Rattle.message.specs.Reading.{bad_stamp, fault_check, check_of, by, read_of}
use Rattle.message.specs.Announced.{announced_of}
use Rattle.message.specs.When.{HasHeader, IsTwo, IsListed, IsSized, IsLent, IsStamped, IsWhole, When, few, version, unlisted, below, beyond, stamp, tlv, wrbad, sound, TakesWhen, unread, other, taken}
use Rattle.message.specs.Answers.{read_code, announced_code}

-- nothing is refused where the number is 0
pub none_refused : (o : Result (Unit {0}) Refusal) → code_of o ≡ 0 → o ≡ Ok tt
none_refused (Ok tt) e = refl
none_refused (Err x) e = absurd (omega (arith, answered x, e))

module _ (magic : ℕ) (s : List ℕ) where
  -- the answer, from what the octets are like
  no_header : length s < 34 → check_of magic s ≡ Err Short
  unfolding check_of refuse
  no_header h = rw (lt-ltb (length s) 34 h)

  not_two : HasHeader s → (version_of s ≡ 2 → ⊥) → check_of magic s ≡ Err Version
  unfolding check_of refuse
  not_two h n = rw (le-ltb (length s) 34 h, ne_eqb (version_of s) 2 n)

  not_listed : IsTwo s → fixed_size (type_of s) ≡ 0 → check_of magic s ≡ Err «Type»
  unfolding check_of refuse
  not_listed p e = rw (le-ltb (length s) 34 p.0, eq-eqb (version_of s) 2 p.1, eq-eqb (fixed_size (type_of s)) 0 e)

  -- what is left of the checks once the type is listed
  listed : IsListed s → check_of magic s
      ≡ refuse (ltb (length_of s) (fixed_size (type_of s))) (Err Length)
      (refuse (ltb (length s) (length_of s)) (Err Short)
      (refuse (bad_stamp (type_of s) s) (Err Stamp)
      (fault_check (fixed_size (type_of s)) (fault_of magic (tail_of s)))))
  unfolding check_of refuse
  listed p =
      rw (le-ltb (length s) 34 p.0.0, eq-eqb (version_of s) 2 p.0.1, ne_eqb (fixed_size (type_of s)) 0 p.1)

  not_sized : IsListed s → length_of s < fixed_size (type_of s) → check_of magic s ≡ Err Length
  unfolding refuse
  not_sized p h = listed p ∙ rw (lt-ltb (length_of s) (fixed_size (type_of s)) h)

  not_lent : IsSized s → length s < length_of s → check_of magic s ≡ Err Short
  unfolding refuse
  not_lent p h =
      listed p.0 ∙ rw (le-ltb (length_of s) (fixed_size (type_of s)) p.1, lt-ltb (length s) (length_of s) h)

  -- what is left once the octets are there
  lent : IsLent s → check_of magic s ≡ refuse (bad_stamp (type_of s) s) (Err Stamp) (fault_check (fixed_size (type_of s)) (fault_of magic (tail_of s)))
  unfolding refuse
  lent p =
      listed p.0.0
      ∙ rw (le-ltb (length_of s) (fixed_size (type_of s)) p.0.1, le-ltb (length s) (length_of s) p.1)

  bad_stamped : IsLent s → bad_stamp (type_of s) s ≡ true → check_of magic s ≡ Err Stamp
  unfolding refuse
  bad_stamped p e = lent p ∙ rw e

  pub stamped : IsStamped s → check_of magic s ≡ fault_check (fixed_size (type_of s)) (fault_of magic (tail_of s))
  unfolding refuse
  stamped p = lent p.0 ∙ rw p.1

  -- the tail breaks off
  not_whole : {p : ℕ} → IsStamped s → BreaksAt (tail_of s) p → check_of magic s ≡ Err (Tlv (fixed_size (type_of s) + p))
  unfolding fault_of
  not_whole p v = stamped p ∙ rw (breaks_whole (tail_of s) v, breaks_is (tail_of s) v)

  -- a known message has a wrong data size
  misfitting : {p : ℕ} → IsWhole s → FirstTlv (misfit_at magic (tail_of s)) (tail_of s) p → check_of magic s ≡ Err (WrBad (fixed_size (type_of s) + p))
  unfolding fault_of
  misfitting {p} w v =
      stamped w.0
      ∙ rw (reached_whole (tail_of s) w.1, first_is (misfit_at magic (tail_of s)) (tail_of s) v, lt_eqb p (length (tail_of s)) v.at.inside)

  fitting : IsWhole s → misfit magic (tail_of s) 0 ≡ length (tail_of s) → check_of magic s ≡ Ok tt
  unfolding fault_of
  fitting p e =
      stamped p.0 ∙ rw (reached_whole (tail_of s) p.1, eq-eqb (misfit magic (tail_of s) 0) (length (tail_of s)) e)

  give : {x : Result (Unit {0}) Refusal} → check_of magic s ≡ x → When magic s (code_of x) → When magic s (code_of (check_of magic s))
  give e w = subst (λ (o : Result (Unit {0}) Refusal). When magic s (code_of o)) (sym e) w

  -- from check to check
  at_tail : IsWhole s → When magic s (code_of (check_of magic s))
  at_tail p =
      ⊎_elim
      (λ (f : FirstTlv (misfit_at magic (tail_of s)) (tail_of s) (misfit magic (tail_of s) 0)).
      give (misfitting p f) (wrbad p f))
      (λ (n : NoTlv (misfit_at magic (tail_of s)) (tail_of s)).
      give (fitting p (none_absent (misfit_at magic (tail_of s)) (tail_of s) n)) (sound p n))
      (one_or_none (misfit_at magic (tail_of s)) (tail_of s))

  at_stamp : IsStamped s → When magic s (code_of (check_of magic s))
  at_stamp p =
      ⊎_elim
      (λ (t : whole (tail_of s) ≡ true). at_tail (p, whole_reached (tail_of s) t))
      (λ (t : whole (tail_of s) ≡ false).
      let v = whole_breaks (tail_of s) t in give (not_whole p v) (tlv p v))
      (decided (whole (tail_of s)))

  at_lent : IsLent s → When magic s (code_of (check_of magic s))
  at_lent p =
      ⊎_elim
      (λ (t : bad_stamp (type_of s) s ≡ true). give (bad_stamped p t) (stamp p t))
      (λ (t : bad_stamp (type_of s) s ≡ false). at_stamp (p, t))
      (decided (bad_stamp (type_of s) s))

  at_sized : IsSized s → When magic s (code_of (check_of magic s))
  at_sized p =
      ⊎_elim
      (λ (t : ltb (length s) (length_of s) ≡ true).
      let h = ltb-true (length s) (length_of s) t in give (not_lent p h) (beyond p h))
      (λ (t : ltb (length s) (length_of s) ≡ false). at_lent (p, ltb-false (length s) (length_of s) t))
      (decided (ltb (length s) (length_of s)))

  at_listed : IsListed s → When magic s (code_of (check_of magic s))
  at_listed p =
      ⊎_elim
      (λ (t : ltb (length_of s) (fixed_size (type_of s)) ≡ true).
      let h = ltb-true (length_of s) (fixed_size (type_of s)) t in give (not_sized p h) (below p h))
      (λ (t : ltb (length_of s) (fixed_size (type_of s)) ≡ false).
      at_sized (p, ltb-false (length_of s) (fixed_size (type_of s)) t))
      (decided (ltb (length_of s) (fixed_size (type_of s))))

  at_two : IsTwo s → When magic s (code_of (check_of magic s))
  at_two p =
      ⊎_elim
      (λ (t : eqb (fixed_size (type_of s)) 0 ≡ true).
      let e = eqb-true (fixed_size (type_of s)) 0 t in give (not_listed p e) (unlisted p e))
      (λ (t : eqb (fixed_size (type_of s)) 0 ≡ false). at_listed (p, eqb-false (fixed_size (type_of s)) 0 t))
      (decided (eqb (fixed_size (type_of s)) 0))

  at_header : HasHeader s → When magic s (code_of (check_of magic s))
  at_header p =
      ⊎_elim
      (λ (t : eqb (version_of s) 2 ≡ true). at_two (p, eqb-true (version_of s) 2 t))
      (λ (t : eqb (version_of s) 2 ≡ false).
      let n = eqb-false (version_of s) 2 t in give (not_two p n) (version p n))
      (decided (eqb (version_of s) 2))

  -- THE NUMBER GIVEN: its line of the table holds
  pub told : When magic s (code_of (check_of magic s))
  told =
      ⊎_elim
      (λ (t : ltb (length s) 34 ≡ true). let h = ltb-true (length s) 34 t in give (no_header h) (few h))
      (λ (t : ltb (length s) 34 ≡ false). at_header (ltb-false (length s) 34 t))
      (decided (ltb (length s) 34))

  -- A LINE OF THE TABLE THAT HOLDS: its number is given
  pub when_told : {n : ℕ} → When magic s n → code_of (check_of magic s) ≡ n
  when_told (few h) = ap code_of (no_header h)
  when_told (version p n) = ap code_of (not_two p n)
  when_told (unlisted p e) = ap code_of (not_listed p e)
  when_told (below p h) = ap code_of (not_sized p h)
  when_told (beyond p h) = ap code_of (not_lent p h)
  when_told (stamp p e) = ap code_of (bad_stamped p e)
  when_told (tlv p v) = ap code_of (not_whole p v)
  when_told (wrbad p v) = ap code_of (misfitting p v)
  when_told (sound p n) = ap code_of (fitting p (none_absent (misfit_at magic (tail_of s)) (tail_of s) n))

-- ---- the calls that read: an answer by the checks has the checks' number
module _ {A : Type 0} (code : A → ℕ) (refused : Refusal → A) (number : (x : Refusal) → code (refused x) ≡ answer_of x) where
  pub by_code : (o : Result (Unit {0}) Refusal) (a : A) → code a ≡ 0 → code (by o refused a) ≡ code_of o
  by_code (Ok tt) a z = z
  by_code (Err x) a z = number x

  -- those that take messages of one type
  module _ (magic kind : ℕ) (s : List ℕ) (a : A) (z : code a ≡ 0) where
    abbrev answer : A
    answer = by (check_of magic s) refused (refuse (not (eqb (type_of s) kind)) (refused «Type») a)

    refused_as : {n : ℕ} (x : Refusal) → check_of magic s ≡ Err x → code_of (check_of magic s) ≡ n → code answer ≡ n
    refused_as x e m = rw e (number x ∙ ap code_of (sym e) ∙ m)

    other_as : check_of magic s ≡ Ok tt → (type_of s ≡ kind → ⊥) → code answer ≡ 3
    unfolding refuse
    other_as e n = rw (e, ne_eqb (type_of s) kind n) (number «Type»)

    taken_as : check_of magic s ≡ Ok tt → type_of s ≡ kind → code answer ≡ 0
    unfolding refuse
    taken_as e k = rw (e, eq-eqb (type_of s) kind k) z

    refused_by : {n : ℕ} (o : Result (Unit {0}) Refusal) → check_of magic s ≡ o → code_of (check_of magic s) ≡ n → 0 < n → code answer ≡ n
    refused_by (Err x) e m p = refused_as x e m
    refused_by (Ok tt) e m p = absurd (let z = ap code_of e in omega (arith, z, m, p))

    pub when_takes : {n : ℕ} → TakesWhen magic kind s n → code answer ≡ n
    when_takes (unread w p) = refused_by (check_of magic s) refl (when_told magic s w) p
    when_takes (other w n) = other_as (none_refused (check_of magic s) (when_told magic s w)) n
    when_takes (taken w k) = taken_as (none_refused (check_of magic s) (when_told magic s w)) k

    -- which of the three it is
    line : (o : Result (Unit {0}) Refusal) → check_of magic s ≡ o → (b : Bool) → eqb (type_of s) kind ≡ b → (n : ℕ) × TakesWhen magic kind s n
    line (Err x) e b t =
        (answer_of x, unread (subst (λ (o : Result (Unit {0}) Refusal). When magic s (code_of o)) e (told magic s)) (answered x))
    line (Ok tt) e true t =
        (0, taken (subst (λ (o : Result (Unit {0}) Refusal). When magic s (code_of o)) e (told magic s)) (eqb-true (type_of s) kind t))
    line (Ok tt) e false t =
        (3, other (subst (λ (o : Result (Unit {0}) Refusal). When magic s (code_of o)) e (told magic s)) (eqb-false (type_of s) kind t))

    pub takes_told : TakesWhen magic kind s (code answer)
    takes_told =
        let l = line (check_of magic s) refl (eqb (type_of s) kind) refl in
        subst (TakesWhen magic kind s) (sym (when_takes l.1)) l.1

module _ (magic : ℕ) (s : List ℕ) where
  -- reading
  read_code_lem : read_code (read_of magic s) ≡ code_of (check_of magic s)
  unfolding read_of
  read_code_lem = by_code read_code Err (λ x. refl) (check_of magic s) (Ok (message_of s)) refl

  pub read_told : When magic s (read_code (read_of magic s))
  read_told = subst (When magic s) (sym read_code_lem) (told magic s)

  pub when_read : {n : ℕ} → When magic s n → read_code (read_of magic s) ≡ n
  when_read w = read_code_lem ∙ when_told magic s w

  -- what intake reads: 3 where the message is no Announce
  pub announced_told : TakesWhen magic 0xB s (announced_code (announced_of magic s))
  unfolding announced_of
  announced_told = takes_told announced_code Err (λ x. refl) magic 0xB s _ refl

  pub when_announced : {n : ℕ} → TakesWhen magic 0xB s n → announced_code (announced_of magic s) ≡ n
  unfolding announced_of
  when_announced w = when_takes announced_code Err (λ x. refl) magic 0xB s _ refl w
