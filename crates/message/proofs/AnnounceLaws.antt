-- Octets that are an Announce as far as version, type and lengths go, and what the checks say of them.
use Rattle.std.specs.Prelude.{Option, Some, None, Result, Ok, Err}
use Rattle.std.specs.Result.{result_ok}
use Prim.Native.Nat.{ℕ, ◌-◌, ◌<◌, ◌≤◌}
use mathlib.Core.Path.{◌≡◌, refl, sym, ap, ◌∙◌}
use mathlib.Core.List.{List}
use mathlib.Core.Bool.{Bool, true, false}
use native.Mathlib.Omega.{arith}
use borrow.Author.Tests.{le-ltb, ltb-false, le-leb, lt-leb, eq-eqb, ne_eqb, eqb-true, not-false}
use lib.ListN.{length, take, drop}
use Rattle.octets.specs.Be.{be}
use Rattle.refusal.specs.Choice.{refuse}
use Rattle.refusal.proofs.Choice.{passed}
use Rattle.tlv.specs.Faults.{fault_of}
use Rattle.message.specs.Fields.{type_of, version_of, length_of, fixed_size, tail_of}
use Rattle.message.specs.Reading.{bad_stamp, fault_check, check_of}
use Rattle.message.specs.Announced.{announce_length, refusal_of, announced_of}
use Rattle.message.specs.declared.announce.Heard.{Heard}
use Rattle.message.proofs.Laws.{accepted}
use Rattle.refusal.specs.declared.Refusal.{Refusal}

no_length : {n : ℕ} → ◌≡◌ {A = Option ℕ} None (Some n) → ⊥
no_length e = let z : ◌≡◌ {A = ℕ} 0 1 = cc in omega arith

module _ (s : List ℕ) where
  pub record Sized : Type 0 where
    pub room : 64 ≤ length s
    pub version : version_of s ≡ 2
    pub type : type_of s ≡ 0xB
    pub least : 64 ≤ length_of s
    pub lent : length_of s ≤ length s

  -- a length that is told is messageLength, of such octets
  pub sized : {n : ℕ} → announce_length s ≡ Some n → Sized × (length_of s ≡ n)
  unfolding announce_length
  sized {n} e =
      let p1 = passed _ _ _ _ no_length e in
      let p2 = passed _ _ _ _ no_length p1.1 in
      let p3 = passed _ _ _ _ no_length p2.1 in
      let p4 = passed _ _ _ _ no_length p3.1 in
      let p5 = passed _ _ _ _ no_length p4.1 in
      let k : ◌≡◌ {A = Option ℕ} (Some (length_of s)) (Some n) = p5.1 in (
        record {
          room = ltb-false _ _ p1.0;
          version = eqb-true _ _ (not-false _ p2.0);
          type = eqb-true _ _ (not-false _ p3.0);
          least = ltb-false _ _ p4.0;
          lent = ltb-false _ _ p5.0;
        },
        cc,
      )

  pub sized_tail : {n : ℕ} → Sized × (length_of s ≡ n) → tail_of s ≡ take (n - 64) (drop 64 s)
  unfolding fixed_size
  sized_tail z = rw (z.0.type, z.1)

  -- and it is told of all such octets
  pub told_length : Sized → announce_length s ≡ Some (length_of s)
  unfolding announce_length refuse
  told_length z =
      rw (le-ltb _ _ z.room, eq-eqb _ _ z.version, eq-eqb _ _ z.type, le-ltb _ _ z.least, le-ltb _ _ z.lent)

  -- where it is not told, no Announce is accepted
  pub unsized : (magic : ℕ) → announce_length s ≡ None → check_of magic s ≡ Ok tt → type_of s ≡ 0xB → ⊥
  unfolding fixed_size
  unsized magic e d k =
      let a = accepted magic s d in
      let l : 64 ≤ length_of s = rw k at a.least in
      let z = told_length (record { room = omega arith; version = a.version; type = k; least = l; lent = a.lent }) in
      no_length (sym e ∙ z)

  -- nor with nanoseconds that are too many
  pub unstamped : (magic : ℕ) → 1000000000 ≤ be 4 s 40 → check_of magic s ≡ Ok tt → type_of s ≡ 0xB → ⊥
  unstamped magic h d k =
      let a = accepted magic s d in
      let b : bad_stamp 0xB s ≡ false = rw k at a.stamp in
      let c : ◌≡◌ {A = Bool} true false = rw (le-leb 1000000000 (be 4 s 40) h) at b in
      let z : ◌≡◌ {A = ℕ} 0 1 = cc in
      omega arith

  -- such octets are accepted where stamp and tail are
  pub sized_check : (magic : ℕ) → Sized → be 4 s 40 < 1000000000 → fault_of magic (tail_of s) ≡ Ok tt → check_of magic s ≡ Ok tt
  unfolding check_of refuse fixed_size
  sized_check magic z h t =
      rw (le-ltb (length s) 34 (omega (arith, z.room)), eq-eqb _ _ z.version, z.type, le-ltb _ _ z.least, le-ltb _ _ z.lent, lt-leb _ _ h)
      (ap (fault_check 64) (rw z.type at t))

-- what cannot be an Announce is refused by the checks, else for its type
pub by_checks : (magic : ℕ) (s : List ℕ) → (check_of magic s ≡ Ok tt → type_of s ≡ 0xB → ⊥) → Err (refusal_of magic s) ≡ announced_of magic s
unfolding refusal_of announced_of refuse
by_checks magic s h = by (check_of magic s) refl
  where
    by : (o : Result (Unit {0}) Refusal) → check_of magic s ≡ o → Err (refusal_of magic s) ≡ announced_of magic s
    by (Err x) e = rw e
    by (Ok tt) e = rw (e, ne_eqb (type_of s) 0xB (h e))

no_heard : {h : Heard} → ◌≡◌ {A = Option Heard} (Some h) None → ⊥
no_heard e = let z : ◌≡◌ {A = ℕ} 0 1 = cc in omega arith

-- what was not read in one walk is refused by the checks, else for its type
pub unheard : (magic : ℕ) (s : List ℕ) → result_ok (announced_of magic s) ≡ None → Err (refusal_of magic s) ≡ announced_of magic s
unfolding announced_of refuse
unheard magic s e = by_checks magic s (λ d k. no_heard (rw (d, k) at e))
