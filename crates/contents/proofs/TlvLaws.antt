-- The TLVs of a message that is read: they lie end to end from the fixed size to messageLength, a loop of calls gives them in order, and
-- looking up a type finds the first of them that has it. What a call gives lies in the message, and a walk is refused as reading is.
use Rattle.std.specs.Prelude.{Option, Some, None, Result, Ok, Err}
use Prim.Native.Nat.{ℕ, ◌+◌, ◌-◌, ◌<◌, ◌≤◌}
use mathlib.Core.Path.{◌≡◌, refl, sym, ap, subst, ◌∙◌}
use mathlib.Core.List.{List, [], ◌∷◌}
use mathlib.Core.Bool.{Bool, true, false, not}
use native.Mathlib.Omega.{arith}
use borrow.Author.Tests.{lt-ltb, le-ltb, ltb-false, le-leb, lt-leb, eqb-true, eqb-false, ne_eqb}
use lib.Dec.{eqb, leb, ltb}
use lib.ListN.{length}
use Rattle.octets.specs.Be.{be}
use Rattle.refusal.specs.Choice.{pick, refuse}
use Rattle.refusal.specs.Refusal.{code_of}
use Rattle.refusal.proofs.Choice.{passed}
use Rattle.refusal.specs.declared.Refusal.{Refusal}
use Rattle.tlv.specs.Walk.{type_at, size_at, next_of, broken, first, Reached, start, next}
use Rattle.tlv.specs.Form.{misfit_at}
use Rattle.tlv.specs.Faults.{sought_at}
use Rattle.tlv.specs.declared.walk.Sought.TheVariants.{OfType}
use Rattle.tlv.proofs.WalkLaws.{next_fits, walk_end, walk_bad, walk_more, walk_ind}
use Rattle.tlv.proofs.FaultLaws.{sound_whole, sound_fits}
use Rattle.tlv.proofs.Reached.{absent_none}
use Rattle.message.specs.Fields.{type_of, version_of, length_of, fixed_size, tail_of}
use Rattle.message.specs.Reading.{bad_stamp, headed, check_of, by}
use Rattle.message.specs.Reading.{Bounded}
use Rattle.contents.specs.Parts.{lookup_of}
use Rattle.message.specs.When.{IsStamped, When}
use Rattle.contents.specs.Tlvs.{tlv_of, end_of, tlvs_from, tlvs_of, standing, next_in, Tiles, Gives, of_type}
use Rattle.contents.specs.Answers.{walked_code}
use Rattle.contents.specs.declared.tlvs.Tlv.{Tlv}
use Rattle.message.proofs.Laws.{accepted, bounded, tail_length}
use Rattle.message.proofs.Laws as checks
use Rattle.contents.proofs.Part.{tail_be}
use Rattle.message.proofs.Exactly.{told, when_told}

no_next : {x : Refusal} {y : Tlv} → ◌≡◌ {A = Result (Option Tlv) Refusal} (Err x) (Ok (Some y)) → ⊥
no_next e = let z : ◌≡◌ {A = ℕ} 0 1 = cc in omega arith

end_next : {y : Tlv} → ◌≡◌ {A = Result (Option Tlv) Refusal} (Ok None) (Ok (Some y)) → ⊥
end_next e = let z : ◌≡◌ {A = ℕ} 0 1 = cc in omega arith

-- what comes after the checks before the tail's, where they are passed
pub headed_passed : {A : Type 0} (refused : Refusal → A) (rest : A) (s : List ℕ) → IsStamped s → headed refused rest s ≡ rest
headed_passed refused rest s p = checks.headed_passed s refused rest p

-- ---- a TLV that is given
module _ (magic size : ℕ) (t : List ℕ) (p : ℕ) where
  -- it stands at the place asked for, and is whole
  standing_given : {x : Tlv} → standing magic size t p ≡ Ok (Some x) → (q : ℕ) × (next_of t p ≡ Some q) × (tlv_of size t p ≡ x)
  unfolding standing
  standing_given {x} e = cases (leb (length t) p) (next_of t p) (misfit_at magic t p) refl refl refl
    where
      cases : (a : Bool) (n : Option ℕ) (b : Bool) → leb (length t) p ≡ a → next_of t p ≡ n → misfit_at magic t p ≡ b
          → (q : ℕ) × (next_of t p ≡ Some q) × (tlv_of size t p ≡ x)
      cases true n b ea en eb = absurd (end_next (rw ea at e))
      cases false None b ea en eb = absurd (no_next (rw (ea, en) at e))
      cases false (Some q) true ea en eb = absurd (no_next (rw (ea, en, eb) at e))
      cases false (Some q) false ea en eb =
          let k : ◌≡◌ {A = Result (Option Tlv) Refusal} (Ok (Some (tlv_of size t p))) (Ok (Some x)) = rw (ea, en, eb) at e in (q, en, cc)

module _ (magic from : ℕ) (s : List ℕ) (x : Tlv) where
  given_by : next_in magic from s ≡ Ok (Some x) → Bounded s × (standing magic (fixed_size (type_of s)) (tail_of s) (from - fixed_size (type_of s)) ≡ Ok (Some x))
  unfolding next_in
  given_by e = cases (eqb from 0) refl
    where
      begun : (o : Result (Unit {0}) Refusal) → check_of magic s ≡ o → from ≡ 0 → by (check_of magic s) Err (standing magic (fixed_size (type_of s)) (tail_of s) 0) ≡ Ok (Some x)
          → Bounded s × (standing magic (fixed_size (type_of s)) (tail_of s) (from - fixed_size (type_of s)) ≡ Ok (Some x))
      begun (Err y) eo z h = absurd (no_next (rw eo at h))
      begun (Ok tt) eo z h =
          let m : from - fixed_size (type_of s) ≡ 0 = omega arith in
          (bounded magic s eo, rw m (rw eo at h))

      cases : (b : Bool) → eqb from 0 ≡ b → Bounded s × (standing magic (fixed_size (type_of s)) (tail_of s) (from - fixed_size (type_of s)) ≡ Ok (Some x))
      cases true t = begun (check_of magic s) refl (eqb-true from 0 t) (rw t at e)
      cases false t =
          let p1 = passed _ _ _ _ no_next (rw t at e) in
          let p2 = passed _ _ _ _ no_next p1.1 in
          let p3 = passed _ _ _ _ no_next p2.1 in
          let p4 = passed _ _ _ _ no_next p3.1 in
          let p5 = passed _ _ _ _ no_next p4.1 in
          let p6 = passed _ _ _ _ no_next p5.1 in
          (record { header = ltb-false _ _ p1.0; least = ltb-false _ _ p4.0; lent = ltb-false _ _ p5.0 }, p6.1)

  -- IT LIES IN THE MESSAGE: its type and length are the octets at its place, and its data end before messageLength
  pub record InMessage : Type 0 where
    pub kind_is : x.kind ≡ be 2 s x.place
    pub length_is : x.length ≡ be 2 s (x.place + 2)
    pub inside : end_of x ≤ length_of s
    pub lent : length_of s ≤ length s

  pub next_inside : next_in magic from s ≡ Ok (Some x) → InMessage
  next_inside e =
      let g = given_by e in
      let p = from - fixed_size (type_of s) in
      let w = standing_given magic (fixed_size (type_of s)) (tail_of s) p g.1 in
      let f = next_fits (tail_of s) p w.1 in
      let n = tail_length s g.0 in
      let two : fixed_size (type_of s) + (p + 2) ≡ fixed_size (type_of s) + p + 2 = omega arith in
      let k : type_at (tail_of s) p ≡ be 2 s (fixed_size (type_of s) + p) = tail_be 2 s p (omega arith) in
      let z : size_at (tail_of s) p ≡ be 2 s (fixed_size (type_of s) + p + 2) = tail_be 2 s (p + 2) (omega arith) ∙ ap (be 2 s) two in
      let i = w.2 in
      record {
        kind_is = ap (λ (y : Tlv). y.kind) (sym i) ∙ k ∙ ap (λ (y : Tlv). be 2 s y.place) i;
        length_is = ap (λ (y : Tlv). y.length) (sym i) ∙ z ∙ ap (λ (y : Tlv). be 2 s (y.place + 2)) i;
        inside = subst (λ (y : Tlv). end_of y ≤ length_of s) i (omega (arith, f, n, g.0.least));
        lent = g.0.lent;
      }

-- ---- all of them
module _ (magic : ℕ) (s : List ℕ) (read : check_of magic s ≡ Ok tt) where
  abbrev size : ℕ
  size = fixed_size (type_of s)

  here : Bounded s
  here = bounded magic s read

  is_whole : broken (tail_of s) 0 ≡ length (tail_of s)
  is_whole = eqb-true _ _ (sound_whole magic (tail_of s) (accepted magic s read).tail)

  -- no TLV is missed
  not_broken : {p : ℕ} → p < length (tail_of s) → broken (tail_of s) p ≡ p → broken (tail_of s) p ≡ length (tail_of s) → ⊥
  not_broken l e w = omega arith

  one_more : {p q : ℕ} → p < length (tail_of s) → next_of (tail_of s) p ≡ Some q → tlvs_from s p ≡ tlv_of size (tail_of s) p ∷ tlvs_from s q
  one_more {p} {q} l m = walk_more [] (λ (r : ℕ). []) (λ (r : ℕ) (xs : List Tlv). tlv_of size (tail_of s) r ∷ xs) (tail_of s) p q l m

  no_more : tlvs_from s (length (tail_of s)) ≡ []
  no_more = walk_end [] (λ (r : ℕ). []) (λ (r : ℕ) (xs : List Tlv). tlv_of size (tail_of s) r ∷ xs) (tail_of s)

  still : {p q : ℕ} → p < length (tail_of s) → next_of (tail_of s) p ≡ Some q → broken (tail_of s) p ≡ length (tail_of s) → broken (tail_of s) q ≡ length (tail_of s)
  still {p} {q} l m w = sym (walk_more (length (tail_of s)) (λ (r : ℕ). r) (λ (r x : ℕ). x) (tail_of s) p q l m) ∙ w

  -- a TLV ends where the walk goes on
  end_is : (p : ℕ) {q : ℕ} → next_of (tail_of s) p ≡ Some q → size + q ≡ end_of (tlv_of size (tail_of s) p)
  end_is p m = let f = next_fits (tail_of s) p m in omega arith

  -- THEY COVER THE TAIL: the first stands at the fixed size, each next where the one before ended, the last ends at messageLength
  pub covers : Tiles size (tlvs_of s) (length_of s)
  covers =
      let n = tail_length s here in
      let b = here.least in
      let first-at : size + 0 ≡ size = omega arith in
      let ends_at : size + length (tail_of s) ≡ length_of s = omega arith in
      subst (λ (k : ℕ). Tiles k (tlvs_of s) (length_of s)) first-at
      (subst (λ (k : ℕ). Tiles (size + 0) (tlvs_of s) k) ends_at (tiled 0 (omega arith) is_whole))
    where
      tiled : (p : ℕ) → p ≤ length (tail_of s) → broken (tail_of s) p ≡ length (tail_of s) → Tiles (size + p) (tlvs_from s p) (size + length (tail_of s))
      tiled =
          walk_ind (tail_of s) (λ (p : ℕ). broken (tail_of s) p ≡ length (tail_of s) → Tiles (size + p) (tlvs_from s p) (size + length (tail_of s)))
          (λ w. rw no_more refl)
          (λ p l e w. absurd (not_broken l (walk_bad (length (tail_of s)) (λ (r : ℕ). r) (λ (r x : ℕ). x) (tail_of s) p l e) w))
          (λ p q l m k w. rw (one_more l m) (refl, rw (← end_is p m) (k (still l m w))))

  -- a call on such a message tells what stands at the place
  pub read_on : (from : ℕ) → next_in magic from s ≡ standing magic size (tail_of s) (from - size)
  unfolding next_in
  read_on from = cases (eqb from 0) refl
    where
      is_stamped : IsStamped s
      is_stamped = let a = accepted magic s read in (((((a.header, a.version), a.listed), a.least), a.lent), a.stamp)

      cases : (b : Bool) → eqb from 0 ≡ b → next_in magic from s ≡ standing magic size (tail_of s) (from - size)
      cases true t = let z : from - size ≡ 0 = let k = eqb-true from 0 t in omega arith in rw (t, read, z)
      cases false t = rw t (headed_passed Err (standing magic size (tail_of s) (from - size)) s is_stamped)

  -- A LOOP GIVES THEM ALL, and in order: it begins at 0 and goes on from where each ended, until there is none
  pub given : Gives magic s 0 (tlvs_of s)
  unfolding standing
  given = run 0 (omega arith) 0 (omega arith) start is_whole
    where
      one : {p q : ℕ} (from : ℕ) → from - size ≡ p → Reached (tail_of s) p → p < length (tail_of s) → next_of (tail_of s) p ≡ Some q
          → next_in magic from s ≡ Ok (Some (tlv_of size (tail_of s) p))
      one {p} {q} from e r l m =
          let f = absent_none (misfit_at magic (tail_of s)) (tail_of s) (sound_fits magic (tail_of s) (accepted magic s read).tail) p (record { reached = r; inside = l; end = q; whole = m }) in
          read_on from ∙ rw (e, lt-leb (length (tail_of s)) p l, m, f)

      last : (from : ℕ) → from - size ≡ length (tail_of s) → next_in magic from s ≡ Ok None
      last from e = let n = length (tail_of s) in read_on from ∙ rw (e, le-leb n n (omega arith))

      run : (p : ℕ) → p ≤ length (tail_of s) → (from : ℕ) → from - size ≡ p → Reached (tail_of s) p → broken (tail_of s) p ≡ length (tail_of s)
          → Gives magic s from (tlvs_from s p)
      run =
          walk_ind (tail_of s) (λ (p : ℕ). (from : ℕ) → from - size ≡ p → Reached (tail_of s) p → broken (tail_of s) p ≡ length (tail_of s) → Gives magic s from (tlvs_from s p))
          (λ from e r w. rw no_more (last from e))
          (λ p l b from e r w. absurd (not_broken l (walk_bad (length (tail_of s)) (λ (r : ℕ). r) (λ (r x : ℕ). x) (tail_of s) p l b) w))
          (λ p q l m k from e r w.
          let z : end_of (tlv_of size (tail_of s) p) - size ≡ q = let f = end_is p m in omega arith in
          rw (one_more l m) (one from e r l m, k (end_of (tlv_of size (tail_of s) p)) z (next r l m) (still l m w)))

  -- LOOKING UP FINDS THE FIRST of them that has the type
  pub looked_up : (kind : ℕ) → lookup_of magic kind s ≡ of_type kind (tlvs_of s)
  unfolding lookup_of
  looked_up kind = rw read (found 0 (omega arith) is_whole)
    where
      test : ℕ → Bool
      test = sought_at (OfType kind) (tail_of s)

      told : ℕ → Result (Option ℕ) Refusal
      told p = pick (ltb p (length (tail_of s))) (Ok (Some (size + p + 4))) (Ok None)

      none : ℕ → ℕ
      none q = length (tail_of s)

      step : ℕ → ℕ → ℕ
      step q r = pick (test q) q r

      -- the TLV at p is of the type, or what follows it answers
      there : (p q : ℕ) → p < length (tail_of s) → (b : Bool) → test p ≡ b
          → told (first test (tail_of s) q) ≡ of_type kind (tlvs_from s q)
          → told (pick (test p) p (first test (tail_of s) q)) ≡ of_type kind (tlv_of size (tail_of s) p ∷ tlvs_from s q)
      there p q l true t k = rw (t, lt-ltb p (length (tail_of s)) l)
      there p q l false t k = rw t k

      found : (p : ℕ) → p ≤ length (tail_of s) → broken (tail_of s) p ≡ length (tail_of s) → told (first test (tail_of s) p) ≡ of_type kind (tlvs_from s p)
      found =
          walk_ind (tail_of s) (λ (p : ℕ). broken (tail_of s) p ≡ length (tail_of s) → told (first test (tail_of s) p) ≡ of_type kind (tlvs_from s p))
          (λ w.
          rw (no_more, walk_end (length (tail_of s)) none step (tail_of s), le-ltb (length (tail_of s)) (length (tail_of s)) (omega arith)))
          (λ p l b w. absurd (not_broken l (walk_bad (length (tail_of s)) (λ (r : ℕ). r) (λ (r x : ℕ). x) (tail_of s) p l b) w))
          (λ p q l m k w.
          rw (one_more l m, walk_more (length (tail_of s)) none step (tail_of s) p q l m) (there p q l (test p) refl (k (still l m w))))

-- ---- A WALK IS REFUSED AS READING IS: its first call gives the number that reading gives, with its place
module _ (magic : ℕ) (s : List ℕ) where
  -- a loop that gives TLVs is not refused
  first_given : (xs : List Tlv) → Gives magic s 0 xs → walked_code (next_in magic 0 s) ≡ 0
  first_given [] e = ap walked_code e
  first_given (x ∷ xs) e = ap walked_code e.0

  walk_code : walked_code (next_in magic 0 s) ≡ code_of (check_of magic s)
  unfolding next_in
  walk_code = cases (check_of magic s) refl
    where
      cases : (o : Result (Unit {0}) Refusal) → check_of magic s ≡ o → walked_code (next_in magic 0 s) ≡ code_of (check_of magic s)
      cases (Ok tt) e = first_given (tlvs_of s) (given magic s e) ∙ ap code_of (sym e)
      cases (Err x) e = rw e

  pub walk_told : When magic s (walked_code (next_in magic 0 s))
  walk_told = subst (When magic s) (sym walk_code) (told magic s)

  pub when_walk : {n : ℕ} → When magic s n → walked_code (next_in magic 0 s) ≡ n
  when_walk w = walk_code ∙ when_told magic s w
