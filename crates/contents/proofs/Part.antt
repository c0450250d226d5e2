-- What `lookup` hands back is the data of the first TLV of the type that the walk comes to, as a part of the message lent;
-- nothing where the message is refused or has no such TLV.
use Rattle.std.specs.Prelude.{Option, Some, None, Result, Ok, Err}
use Prim.Native.Nat.{ℕ, zero, suc, ◌+◌, ◌-◌, ◌<◌, ◌≤◌}
use mathlib.Core.Path.{◌≡◌, refl, sym, ap, subst, ◌∙◌}
use mathlib.Core.List.{List, [], ◌∷◌}
use mathlib.Core.Bool.{Bool, true, false}
use native.Mathlib.Omega.{arith}
use borrow.Author.Tests.{lt-ltb, le-ltb, ltb-true, ltb-false, ne_eqb, eqb-true, eqb-false}
use lib.Dec.{ltb}
use lib.ListN.{length, take, drop, length-take, length-drop}
use lib.Seq.{take-take, drop-drop}
use Rattle.octets.specs.Be.{be}
use Rattle.octets.proofs.Laws.{be_drop, be_take}
use Rattle.refusal.specs.Choice.{pick}
use Rattle.refusal.specs.declared.Refusal.{Refusal}
use Rattle.tlv.specs.Walk.{type_at, size_at, walk_by, walk, TlvAt, FirstTlv}
use Rattle.tlv.specs.Faults.{sought_at}
use Rattle.tlv.specs.declared.walk.Sought.TheVariants.{OfType}
use Rattle.tlv.proofs.FaultLaws.{place_found}
use Rattle.tlv.proofs.Reached.{first_inside, found_first, first_is}
use Rattle.tlv.proofs.Reached as walked
use Rattle.message.specs.Fields.{type_of, length_of, fixed_size, tail_of}
use Rattle.message.specs.Reading.{check_of, by}
use Rattle.contents.specs.Parts.{first_of_type, tail_in, data_in, lookup_of, IsWithin, data_length}
use Rattle.message.specs.When.{When}
use Rattle.message.proofs.Laws.{bounded, tail_length}
use Rattle.message.proofs.Exactly.{none_refused, when_told}

-- a part of what was taken is the same part of the whole
pub inside : (a l n : ℕ) (s : List ℕ) → a + l ≤ n → take l (drop a (take n s)) ≡ take l (drop a s)
inside zero l n s h = take-take l n s (omega arith)
inside (suc a) l zero s h = absurd (omega arith)
inside (suc a) l (suc n) [] h = refl
inside (suc a) l (suc n) (x ∷ s) h = inside a l n s (omega arith)

-- a number of the tail is that number of the message
pub tail_be : (n : ℕ) (s : List ℕ) (p : ℕ) → p + n ≤ length_of s - fixed_size (type_of s) → be n (tail_of s) p ≡ be n s (fixed_size (type_of s) + p)
tail_be n s p h = be_take n (length_of s - fixed_size (type_of s)) (drop (fixed_size (type_of s)) s) p h ∙ be_drop n (fixed_size (type_of s)) s p

-- an answer of `lookup_of` that is no refusal was made of an accepted message
not_refused : (o : Result (Unit {0}) Refusal) (x : Result (Option ℕ) Refusal) {at : ℕ} → by o Err x ≡ Ok (Some at) → (o ≡ Ok tt) × (x ≡ Ok (Some at))
not_refused (Ok tt) x e = (refl, e)
not_refused (Err r) x e = absurd (let z : ◌≡◌ {A = ℕ} 0 1 = cc in omega arith)

found_by : (b : Bool) (n : ℕ) {at : ℕ} → pick {A = Result (Option ℕ) Refusal} b (Ok (Some n)) (Ok None) ≡ Ok (Some at) → (b ≡ true) × (n ≡ at)
found_by true n e = (refl, cc)
found_by false n e = absurd (let z : ◌≡◌ {A = ℕ} 0 1 = cc in omega arith)

absent_done : (o : Result (Unit {0}) Refusal) (x : Result (Option ℕ) Refusal) → by o Err x ≡ Ok None → (o ≡ Ok tt) × (x ≡ Ok None)
absent_done (Ok tt) x e = (refl, e)
absent_done (Err r) x e = absurd (let z : ◌≡◌ {A = ℕ} 0 1 = cc in omega arith)

absent_by : (b : Bool) (n : ℕ) → pick {A = Result (Option ℕ) Refusal} b (Ok (Some n)) (Ok None) ≡ Ok None → b ≡ false
absent_by true n e = absurd (let z : ◌≡◌ {A = ℕ} 0 1 = cc in omega arith)
absent_by false n e = refl

-- a refusal is the checks'
refused_by : (o : Result (Unit {0}) Refusal) (b : Bool) (n : ℕ) (x : Refusal) → by o Err (pick b (Ok (Some n)) (Ok None)) ≡ Err x → o ≡ Err x
refused_by (Ok tt) true n x e = absurd (let z : ◌≡◌ {A = ℕ} 0 1 = cc in omega arith)
refused_by (Ok tt) false n x e = absurd (let z : ◌≡◌ {A = ℕ} 0 1 = cc in omega arith)
refused_by (Err r) b n x e = cc

module _ (magic kind : ℕ) (s : List ℕ) where
  -- where the TLV stands in the tail
  place : ℕ
  place = first_of_type kind (tail_of s)

  pub record Part (at : ℕ) : Type 0 where
    -- the octets of the message from `at` on, as many as the length before them says
    pub data_is : data_in magic kind s ≡ take (be 2 s (at - 2)) (drop at s)
    -- the type before that is the one looked for
    pub type_is : be 2 s (at - 4) ≡ kind
    -- and all of it lies before messageLength
    pub inside_message : at + be 2 s (at - 2) ≤ length_of s
    -- FOUND MEANS REACHED: it is the first TLV of that type that the walk over the tail comes to
    pub first_tlv : FirstTlv (sought_at (OfType kind) (tail_of s)) (tail_of s) (at - 4 - fixed_size (type_of s))

  pub found_part : {at : ℕ} → lookup_of magic kind s ≡ Ok (Some at) → Part at
  unfolding lookup_of data_in tail_in place
  found_part {at} e =
      let d = not_refused (check_of magic s) _ e in
      let f = found_by (ltb place (length (tail_of s))) (fixed_size (type_of s) + place + 4) d.1 in
      let l : place < length (tail_of s) = ltb-true place (length (tail_of s)) f.0 in
      let w = place_found (OfType kind) (tail_of s) {p = place} refl l in
      let b = bounded magic s d.0 in
      let n : length (tail_of s) ≡ length_of s - fixed_size (type_of s) = tail_length s b in
      let h : place + 4 + size_at (tail_of s) place ≤ length (tail_of s) = w.whole.fits in
      let a2 : fixed_size (type_of s) + (place + 2) ≡ at - 2 = omega arith in
      let a4 : fixed_size (type_of s) + place ≡ at - 4 = omega arith in
      let at-is : fixed_size (type_of s) + (place + 4) ≡ at = omega arith in
      let size : size_at (tail_of s) place ≡ be 2 s (at - 2) = rw a2 at (tail_be 2 s (place + 2) (omega arith)) in
      let type : be 2 (tail_of s) place ≡ be 2 s (at - 4) = rw a4 at (tail_be 2 s place (omega arith)) in
      let cut : place + 4 + be 2 s (at - 2) ≤ length_of s - fixed_size (type_of s) = omega arith in
      record {
        data_is = rw (d.0, f.0, size)
            (inside (place + 4) (be 2 s (at - 2)) (length_of s - fixed_size (type_of s)) (drop (fixed_size (type_of s)) s) cut
            ∙ ap (take (be 2 s (at - 2))) (drop-drop (place + 4) (fixed_size (type_of s)) s ∙ ap (λ (k : ℕ). drop k s) at-is));
        type_is = sym type ∙ eqb-true (be 2 (tail_of s) place) kind w.passes;
        inside_message = omega arith;
        first_tlv =
            let k : place ≡ at - 4 - fixed_size (type_of s) = omega arith in
            subst (FirstTlv (sought_at (OfType kind) (tail_of s)) (tail_of s)) k (found_first (sought_at (OfType kind) (tail_of s)) (tail_of s) l);
      }

  -- of a message that is read the first TLV of the type is found
  pub first_is_found : {p : ℕ} → When magic s 0 → FirstTlv (sought_at (OfType kind) (tail_of s)) (tail_of s) p → lookup_of magic kind s ≡ Ok (Some (fixed_size (type_of s) + p + 4))
  unfolding lookup_of
  first_is_found {p} w f =
      rw (none_refused (check_of magic s) (when_told magic s w), first_is (sought_at (OfType kind) (tail_of s)) (tail_of s) f, lt-ltb p (length (tail_of s)) f.at.inside)

  -- ABSENT MEANS THAT THERE IS NONE: where no TLV of the type is found, none of the tail has it
  pub absent_none : lookup_of magic kind s ≡ Ok None → (p : ℕ) → TlvAt (tail_of s) p → type_at (tail_of s) p ≡ kind → ⊥
  unfolding lookup_of place
  absent_none e p v t =
      let d = absent_done (check_of magic s) _ e in
      let f = absent_by (ltb place (length (tail_of s))) (fixed_size (type_of s) + place + 4) d.1 in
      let l = ltb-false place (length (tail_of s)) f in
      let i = first_inside (sought_at (OfType kind) (tail_of s)) (tail_of s) in
      let k : place ≡ length (tail_of s) = omega (arith, l, i) in
      eqb-false _ _ (walked.absent_none (sought_at (OfType kind) (tail_of s)) (tail_of s) k p v) t

  -- and where none has it, a message that is read says so
  pub none_absent : When magic s 0 → ((p : ℕ) → TlvAt (tail_of s) p → type_at (tail_of s) p ≡ kind → ⊥) → lookup_of magic kind s ≡ Ok None
  unfolding lookup_of
  none_absent w n =
      let e = walked.none_absent (sought_at (OfType kind) (tail_of s)) (tail_of s) (λ p v. ne_eqb _ _ (n p v)) in
      rw (none_refused (check_of magic s) (when_told magic s w), e, le-ltb (length (tail_of s)) (length (tail_of s)) (omega arith))

  -- it is empty if refused
  pub empty_refused : {x : Refusal} → check_of magic s ≡ Err x → data_in magic kind s ≡ []
  unfolding data_in tail_in walk walk_by
  empty_refused e = rw e

  -- it is empty if absent
  pub empty_absent : lookup_of magic kind s ≡ Ok None → data_in magic kind s ≡ []
  unfolding lookup_of data_in tail_in place
  empty_absent e =
      let d = absent_done (check_of magic s) _ e in
      let f = absent_by (ltb place (length (tail_of s))) (fixed_size (type_of s) + place + 4) d.1 in
      rw (d.0, f)

  -- what is found was found in an accepted message
  found_done : {at : ℕ} → lookup_of magic kind s ≡ Ok (Some at) → (check_of magic s ≡ Ok tt) × (fixed_size (type_of s) + place + 4 ≡ at)
  unfolding lookup_of place
  found_done {at} e =
      let d = not_refused (check_of magic s) _ e in
      (d.0, (found_by (ltb place (length (tail_of s))) (fixed_size (type_of s) + place + 4) d.1).1)

  -- so its data begin inside the octets, behind a length
  pub found_within : {x : Result (Option ℕ) Refusal} → x ≡ lookup_of magic kind s → IsWithin x s
  found_within {x} e = cases x (sym e)
    where
      cases : (x : Result (Option ℕ) Refusal) → lookup_of magic kind s ≡ x → IsWithin x s
      cases (Ok (Some at)) e =
          let d = found_done e in
          let h = (found_part e).inside_message in
          let l = (bounded magic s d.0).lent in
          (omega (arith, d.1), omega (arith, h, l))
      cases (Ok None) e = tt
      cases (Err x) e = tt

  refused : (x : Refusal) → lookup_of magic kind s ≡ Err x → check_of magic s ≡ Err x
  unfolding lookup_of
  refused x e =
      refused_by (check_of magic s) (ltb (first_of_type kind (tail_of s)) (length (tail_of s))) (fixed_size (type_of s) + first_of_type kind (tail_of s) + 4) x e

  -- and that length is how many they are
  pub data_length_lem : {x : Result (Option ℕ) Refusal} → x ≡ lookup_of magic kind s → data_length x s ≡ length (data_in magic kind s)
  data_length_lem {x} e = cases x (sym e)
    where
      cases : (x : Result (Option ℕ) Refusal) → lookup_of magic kind s ≡ x → data_length x s ≡ length (data_in magic kind s)
      cases (Ok (Some at)) e =
          let p = found_part e in
          let h = p.inside_message in
          let l = (bounded magic s (found_done e).0).lent in
          rw p.data_is (simp (length-take, length-drop) (omega arith))
      cases (Ok None) e = rw (empty_absent e)
      cases (Err x) e = rw (empty_refused (refused x e))
