-- What an accepted message says of the octets lent, one of the type that a call takes, and the bounds of the fixed sizes.
use Rattle.std.specs.Prelude.{Result, Ok, Err}
use Prim.Native.Nat.{ℕ, ◌+◌, ◌-◌, ◌<◌, ◌≤◌}
use mathlib.Core.Path.{◌≡◌, refl, sym, ap}
use mathlib.Core.List.{List, []}
use mathlib.Core.Bool.{Bool, true, false, not}
use native.Mathlib.Omega.{arith}
use borrow.Author.Tests.{le-ltb, ltb-false, eq-eqb, ne_eqb, eqb-true, eqb-false, not-false}
use lib.Dec.{eqb, ltb}
use lib.ListN.{length, take, drop, length-take, length-drop}
use Rattle.refusal.specs.Choice.{pick, refuse}
use Rattle.refusal.proofs.Choice.{passed}
pub use Rattle.refusal.proofs.Choice.{no_refusal}
use Rattle.refusal.specs.declared.Refusal.{Refusal}
use Rattle.refusal.specs.declared.Refusal.TheVariants.{Short, Version, «Type», Length, Stamp}
use Rattle.tlv.specs.Walk.{walk_by, walk}
use Rattle.tlv.specs.Faults.{fault_of, is_fault}
use Rattle.tlv.specs.declared.walk.Fault.{Fault}
use Rattle.tlv.specs.declared.walk.Fault.TheVariants.{Broken, Misfit}
use Rattle.tlv.proofs.FaultLaws.{break_inside, misfit_inside}
use Rattle.message.specs.Fields.{type_of, version_of, length_of, fixed_size, tail_of}
use Rattle.message.specs.Reading.{bad_stamp, IsPlaced, fault_check, headed, bounds_at, head_of, check_of, by, takes_of, Bounded}
use Rattle.message.specs.When.{IsStamped}
use Rattle.message.specs.declared.reading.Bounds.{Bounds}

-- `fixed_size`, by its six tests
abbrev size_by : (a b c d e f : Bool) → ℕ
size_by a b c d e f = pick a 44 (pick b 44 (pick c 44 (pick d 54 (pick e 64 (pick f 44 0)))))

least_by : (a b c d e f : Bool) → (size_by a b c d e f ≡ 0 → ⊥) → 44 ≤ size_by a b c d e f
least_by true b c d e f h = omega arith
least_by false true c d e f h = omega arith
least_by false false true d e f h = omega arith
least_by false false false true e f h = omega arith
least_by false false false false true f h = omega arith
least_by false false false false false true h = omega arith
least_by false false false false false false h = absurd (h refl)

most_by : (a b c d e f : Bool) → size_by a b c d e f ≤ 64
most_by true b c d e f = omega arith
most_by false true c d e f = omega arith
most_by false false true d e f = omega arith
most_by false false false true e f = omega arith
most_by false false false false true f = omega arith
most_by false false false false false true = omega arith
most_by false false false false false false = omega arith

-- a listed type has 44 octets or more
pub size_least : (kind : ℕ) → (fixed_size kind ≡ 0 → ⊥) → 44 ≤ fixed_size kind
unfolding fixed_size
size_least kind =
    least_by (eqb kind 0x0) (eqb kind 0x1) (eqb kind 0x8) (eqb kind 0x9) (eqb kind 0xB) (eqb kind 0xC)

-- no type has more than 64
pub size_most : (kind : ℕ) → fixed_size kind ≤ 64
unfolding fixed_size
size_most kind = most_by (eqb kind 0x0) (eqb kind 0x1) (eqb kind 0x8) (eqb kind 0x9) (eqb kind 0xB) (eqb kind 0xC)

-- nothing is wrong with no tail
pub no_tail : (magic : ℕ) → fault_of magic [] ≡ Ok tt
unfolding fault_of walk walk_by
no_tail magic = refl

-- a tail is refused exactly where it has a fault
pub no_fault : (size : ℕ) (x : Result (Unit {0}) Fault) → fault_check size x ≡ Ok tt → x ≡ Ok tt
no_fault size (Ok tt) e = refl
no_fault size (Err (Broken p)) e = absurd (no_refusal _ e)
no_fault size (Err (Misfit p)) e = absurd (no_refusal _ e)

-- a fault has its place in the message
pub fault_placed : (magic size : ℕ) (t : List ℕ) → size + length t < 65536 → (x : Result (Unit {0}) Fault) → x ≡ fault_of magic t → IsPlaced size x
fault_placed magic size t h (Ok tt) e = tt
fault_placed magic size t h (Err (Broken p)) e = let l = break_inside magic t (sym e) in omega arith
fault_placed magic size t h (Err (Misfit p)) e = let l = misfit_inside magic t (sym e) in omega arith

-- what stands between two lengths ends at the second
pub part_short : (size n : ℕ) (s : List ℕ) → size ≤ n → n < 65536 → size + length (take (n - size) (drop size s)) < 65536
part_short size n s h m = let l : length (take (n - size) (drop size s)) ≤ n - size = simp length-take (omega arith) in omega arith

-- a tail that is refused has a fault
pub told_fault : (size : ℕ) (x : Result (Unit {0}) Fault) {y : Refusal} → fault_check size x ≡ Err y → is_fault x ≡ true
told_fault size (Ok tt) e = absurd (no_refusal _ (sym e))
told_fault size (Err (Broken p)) e = refl
told_fault size (Err (Misfit p)) e = refl

-- and one that is not has none
pub told_sound : (size : ℕ) (x : Result (Unit {0}) Fault) → fault_check size x ≡ Ok tt → is_fault x ≡ false
told_sound size x e = rw (no_fault size x e)

no_bounds : {x : Refusal} {b : Bounds} → ◌≡◌ {A = Result Bounds Refusal} (Err x) (Ok b) → ⊥
no_bounds e = let z : ◌≡◌ {A = ℕ} 0 1 = cc in omega arith

-- what one of six checks refuses, or what comes after them
abbrev by_tests : {B : Type 0} → (Refusal → B) → B → (a b c d e f : Bool) → B
by_tests told end a b c d e f =
    refuse a (told Short) (refuse b (told Version) (refuse c (told «Type») (refuse d (told Length) (refuse e (told Short) (refuse f (told Stamp) end)))))

same_refusal : {y z : Refusal} → ◌≡◌ {A = Result Bounds Refusal} (Err y) (Err z) → y ≡ z
same_refusal e = cc

refused_alike : {A : Type 0} (refused : Refusal → A) (rest : A) (n : Bounds) {x : Refusal} (a b c d e f : Bool)
    → by_tests {B = Result Bounds Refusal} Err (Ok n) a b c d e f ≡ Err x → by_tests refused rest a b c d e f ≡ refused x
unfolding refuse
refused_alike refused rest n true b c d e f h = ap refused (same_refusal h)
refused_alike refused rest n false true c d e f h = ap refused (same_refusal h)
refused_alike refused rest n false false true d e f h = ap refused (same_refusal h)
refused_alike refused rest n false false false true e f h = ap refused (same_refusal h)
refused_alike refused rest n false false false false true f h = ap refused (same_refusal h)
refused_alike refused rest n false false false false false true h = ap refused (same_refusal h)
refused_alike refused rest n false false false false false false h = absurd (no_bounds (sym h))

-- the checks before the tail's, whatever comes after them
module _ (s : List ℕ) where
  -- lengths that are told are those of octets that pass them
  pub head_passed : {b : Bounds} → head_of s ≡ Ok b → IsStamped s × (b ≡ bounds_at s)
  unfolding head_of
  head_passed {b} e =
      let p1 = passed _ _ _ _ no_bounds e in
      let p2 = passed _ _ _ _ no_bounds p1.1 in
      let p3 = passed _ _ _ _ no_bounds p2.1 in
      let p4 = passed _ _ _ _ no_bounds p3.1 in
      let p5 = passed _ _ _ _ no_bounds p4.1 in
      let p6 = passed _ _ _ _ no_bounds p5.1 in
      let k : ◌≡◌ {A = Result Bounds Refusal} (Ok (bounds_at s)) (Ok b) = p6.1 in
      (((((((ltb-false _ _ p1.0, eqb-true _ _ (not-false _ p2.0)), eqb-false _ _ p3.0), ltb-false _ _ p4.0), ltb-false _ _ p5.0), p6.0), cc))

  module _ {A : Type 0} (refused : Refusal → A) (rest : A) where
    -- passed, they leave what comes after them
    pub headed_passed : IsStamped s → headed refused rest s ≡ rest
    unfolding refuse
    headed_passed p =
        rw (le-ltb _ _ p.0.0.0.0.0, eq-eqb _ _ p.0.0.0.0.1, ne_eqb _ _ p.0.0.0.1, le-ltb _ _ p.0.0.1, le-ltb _ _ p.0.1, p.1)

    -- and else they refuse alike
    pub headed_refused : {x : Refusal} → head_of s ≡ Err x → headed refused rest s ≡ refused x
    unfolding head_of refuse
    headed_refused {x} =
        refused_alike refused rest (bounds_at s) (ltb (length s) 34) (not (eqb (version_of s) 2)) (eqb (fixed_size (type_of s)) 0) (ltb (length_of s) (fixed_size (type_of s)))
        (ltb (length s) (length_of s)) (bad_stamp (type_of s) s)

-- the part between the lengths told is the tail
pub part_tail : (s : List ℕ) {b : Bounds} → b ≡ bounds_at s → take (b.length - b.size) (drop b.size s) ≡ tail_of s
part_tail s e = λ i. take ((e i).length - (e i).size) (drop (e i).size s)

-- all the checks are passed
pub record Accepted (magic : ℕ) (s : List ℕ) : Type 0 where
  pub header : 34 ≤ length s
  pub version : version_of s ≡ 2
  pub listed : fixed_size (type_of s) ≡ 0 → ⊥
  pub least : fixed_size (type_of s) ≤ length_of s
  pub lent : length_of s ≤ length s
  pub stamp : bad_stamp (type_of s) s ≡ false
  pub tail : fault_of magic (tail_of s) ≡ Ok tt

pub accepted : (magic : ℕ) (s : List ℕ) → check_of magic s ≡ Ok tt → Accepted magic s
unfolding check_of
accepted magic s e =
    let p1 = passed _ _ _ _ (no_refusal _) e in
    let p2 = passed _ _ _ _ (no_refusal _) p1.1 in
    let p3 = passed _ _ _ _ (no_refusal _) p2.1 in
    let p4 = passed _ _ _ _ (no_refusal _) p3.1 in
    let p5 = passed _ _ _ _ (no_refusal _) p4.1 in
    let p6 = passed _ _ _ _ (no_refusal _) p5.1 in
    record {
      header = ltb-false _ _ p1.0;
      version = eqb-true _ _ (not-false _ p2.0);
      listed = eqb-false _ _ p3.0;
      least = ltb-false _ _ p4.0;
      lent = ltb-false _ _ p5.0;
      stamp = p6.0;
      tail = no_fault _ _ p6.1;
    }

-- so the fixed part and the tail are there
pub bounded : (magic : ℕ) (s : List ℕ) → check_of magic s ≡ Ok tt → Bounded s
bounded magic s e = let a = accepted magic s e in record { header = a.header; least = a.least; lent = a.lent }

-- the tail is what messageLength leaves behind the fixed part
pub tail_length : (s : List ℕ) → Bounded s → length (tail_of s) ≡ length_of s - fixed_size (type_of s)
tail_length s b = simp (length-take, length-drop) (omega arith)

pub fixed_part : (magic : ℕ) (s : List ℕ) → check_of magic s ≡ Ok tt → (44 ≤ length s) × (fixed_size (type_of s) ≤ length s)
fixed_part magic s e =
    let a = accepted magic s e in
    let h : 44 ≤ fixed_size (type_of s) = size_least (type_of s) a.listed in
    (omega arith, omega arith)

-- two lists of checks, one after the other, are passed
pub both_done : (x y : Result (Unit {0}) Refusal) → by x Err y ≡ Ok tt → (x ≡ Ok tt) × (y ≡ Ok tt)
both_done (Ok tt) y e = (refl, e)
both_done (Err z) y e = absurd (no_refusal z e)

-- a message of the type that is taken
pub record Taken (magic kind : ℕ) (s : List ℕ) : Type 0 where
  pub checked : check_of magic s ≡ Ok tt
  pub type_is : type_of s ≡ kind
  pub fixed : 44 ≤ length s

pub taken : (magic kind : ℕ) (s : List ℕ) → takes_of magic kind s ≡ Ok tt → Taken magic kind s
unfolding takes_of
taken magic kind s e =
    let p = both_done (check_of magic s) _ e in
    let q = passed _ _ _ _ (no_refusal _) p.1 in
    record { checked = p.0; type_is = eqb-true _ _ (not-false _ q.0); fixed = (fixed_part magic s p.0).0 }

-- what a call answers that takes one type, by what was told of these checks
module _ {A : Type 0} (refused : Refusal → A) (a : A) (magic kind : ℕ) (s : List ℕ) where
  pub taking : {r o : Result (Unit {0}) Refusal} → r ≡ takes_of magic kind s → r ≡ o
      → by o refused a ≡ by (check_of magic s) refused (refuse (not (eqb (type_of s) kind)) (refused «Type») a)
  unfolding takes_of refuse
  taking e d = rw (← d, e) (cases (check_of magic s) (not (eqb (type_of s) kind)))
    where
      cases : (o : Result (Unit {0}) Refusal) (b : Bool) → by (by o Err (refuse b (Err «Type») (Ok tt))) refused a ≡ by o refused (refuse b (refused «Type») a)
      cases (Err x) b = refl
      cases (Ok tt) true = refl
      cases (Ok tt) false = refl
