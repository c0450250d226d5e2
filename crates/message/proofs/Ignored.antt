-- Ignored means ignored: messages that differ only in reserved fields, controlField and padding get the same answers from
-- every call that reads.
use Rattle.std.specs.Prelude.{Result, Ok, Err}
use Prim.Native.Nat.{ℕ, zero, suc, ◌+◌, ◌-◌, ◌*◌, ◌/◌, ◌%◌, ◌≤◌, ◌<◌}
use mathlib.Core.Path.{◌≡◌, refl, sym, ap, ◌∙◌}
use mathlib.Core.List.{List, [], ◌∷◌, ◌++◌}
use mathlib.Core.Bool.{Bool, true, false, not, ◌&&◌, ◌||◌}
use mathlib.Core.Logic.{inl, inr, ⊎_elim}
use native.Mathlib.Omega.{arith}
use borrow.Author.Tests.{le-ltb, lt-leb, ne_eqb, ltb-true, ltb-false, leb-false, eqb-true, eqb-false, not-true, not-false}
use lib.Dec.{eqb, ltb, leb}
use lib.ListN.{length, get_or, set, take, drop, length-set, length-append, length-take, length-drop}
use lib.Seq.{ext_get_or, get_or-set_same, get_or-set_other, get_or-take, get_or-drop}
use mir.Syntax.{w8, w16, w64}
use mir.Val.{to_z}
use Rattle.refusal.specs.Choice.{pick, refuse}
use Rattle.refusal.specs.declared.Refusal.{Refusal}
use Rattle.refusal.specs.declared.Refusal.TheVariants.{Short, Version, «Type», Length, Stamp}
use Rattle.octets.specs.Be.{be}
use Rattle.tlv.specs.Faults.{fault_of}
use Rattle.tlv.specs.Wr.{suffix_in, wr_flags_of}
use Rattle.message.specs.Fields.{type_of, version_of, length_of, fixed_size, identity_at, stamp_of, header_of, announce_of, body_of, message_of, tail_of}
use Rattle.message.specs.Reading.{bad_stamp, headed, fault_check, check_of, by, read_of}
use Rattle.message.specs.Announced.{announced_of}
use Rattle.message.specs.Ignored.{header_ignored, rest_ignored, is_ignored, Reaches, Alike}
use Rattle.message.specs.declared.fields.Body.{Body}
use Rattle.message.specs.declared.fields.Body.TheVariants as body
use Rattle.message.proofs.Laws.{accepted, size_least}

-- ---- checks that were passed
-- what stands below a check counts only where it is passed
pub under : {A : Type 0} (t : Bool) (x : A) {y z : A} → (t ≡ false → y ≡ z) → refuse t x y ≡ refuse t x z
unfolding refuse
under true x h = refl
under false x h = h refl

pub by_under : {A : Type 0} (o : Result (Unit {0}) Refusal) (refused : Refusal → A) {y z : A} → (o ≡ Ok tt → y ≡ z) → by o refused y ≡ by o refused z
by_under (Ok tt) refused h = h refl
by_under (Err x) refused h = refl

and_true : (a b : Bool) → a && b ≡ true → (a ≡ true) × (b ≡ true)
and_true true b e = (refl, e)
and_true false b e = absurd (let z : ◌≡◌ {A = ℕ} 0 1 = cc in omega arith)

or_false : (a b : Bool) → a || b ≡ false → (a ≡ false) × (b ≡ false)
or_false true b e = absurd (let z : ◌≡◌ {A = ℕ} 0 1 = cc in omega arith)
or_false false b e = (refl, e)

-- ---- which messages are alike
no_truth : ◌≡◌ {A = Bool} true false → ⊥
no_truth e = let z : ◌≡◌ {A = ℕ} 0 1 = cc in omega arith

module _ (s : List ℕ) (v : ℕ) where
  -- an ignored octet may have any value,
  pub ignored_octet : (k : ℕ) → is_ignored s k ≡ true → Alike s (set s k v)
  ignored_octet k h =
      record {
        octets = λ j i n. sym (get_or-set_other s k j v 0 (apart j i));
        version = ap (λ (n : ℕ). n % 16) (sym (get_or-set_other s k 1 v 0 (apart 1 refl)));
        lent = inl (sym (length-set s k v));
      }
    where
      apart : (j : ℕ) → is_ignored s j ≡ false → j ≡ k → ⊥
      apart j i e = no_truth (sym h ∙ ap (is_ignored s) (sym e) ∙ i)

  -- and octet 1 any high half
  pub ignored_half : v % 16 ≡ version_of s → 1 < length s → Alike s (set s 1 v)
  ignored_half e l =
      record {
        octets = λ j i n. sym (get_or-set_other s 1 j v 0 n);
        version = sym (ap (λ (n : ℕ). n % 16) (get_or-set_same s 1 v 0 l) ∙ e);
        lent = inl (sym (length-set s 1 v));
      }

-- there may be any padding
pub ignored_padding : (s more : List ℕ) → Reaches s (length_of s) → Alike s (s ++ more)
ignored_padding s more r =
    record {
      octets = λ k i n. sym (get_d_append_left s more k (inside k i));
      version = ap (λ (n : ℕ). n % 16) (sym (get_d_append_left s more 1 (omega (arith, r.header))));
      lent = inr (r, record { header = omega (arith, r.header, length-append s more); message = omega (arith, r.message, length-append s more) });
    }
  where
    inside : (k : ℕ) → is_ignored s k ≡ false → k < length s
    inside k i = cases (ltb k 34) refl
      where
        cases : (b : Bool) → ltb k 34 ≡ b → k < length s
        cases true e = let l = ltb-true k 34 e in omega (arith, r.header)
        cases false e =
            let q : rest_ignored s k ≡ false = rw e at i in
            let l = leb-false (length_of s) k (or_false (eqb k 46 && eqb (type_of s) 0xB) (leb (length_of s) k) q).1 in
            omega (arith, r.message)

    get_d_append_left : (l m : List ℕ) (k : ℕ) → k < length l → get_or (l ++ m) k 0 ≡ get_or l k 0
    get_d_append_left [] m k h = absurd (omega arith)
    get_d_append_left (x ∷ l) m zero h = refl
    get_d_append_left (x ∷ l) m (suc k) h = get_d_append_left l m k (omega arith)

-- ---- the header
-- an octet of the header that is looked at as a whole
abbrev looked : ℕ → Bool
looked k = ltb k 34 && not (eqb k 1 || header_ignored k)

-- n of them at a place
abbrev span : ℕ → ℕ → Bool
span zero at = true
span (suc n) at = span n at && looked (at + n)

module _ (a b : List ℕ) (s : Alike a b) where
  header_at : (k : ℕ) → looked k ≡ true → get_or a k 0 ≡ get_or b k 0
  header_at k h =
      let p = and_true (ltb k 34) _ h in
      let q = or_false (eqb k 1) _ (not-true _ p.1) in
      s.octets k (rw p.0 q.1) (eqb-false k 1 q.0)

  header_be : (n at : ℕ) → span n at ≡ true → be n a at ≡ be n b at
  unfolding be
  header_be zero at h = refl
  header_be (suc n) at h =
      let p = and_true (span n at) _ h in
      λ i. header_be n at p.0 i * 256 + header_at (at + n) p.1 i

  pub type_same : type_of a ≡ type_of b
  type_same = λ i. header_at 0 refl i % 16

  pub length_same : length_of a ≡ length_of b
  length_same = header_be 2 2 refl

  pub header_same : header_of a ≡ header_of b
  unfolding header_of identity_at
  header_same =
      λ i. record {
        transport = header_at 0 refl i / 16;
        domain = header_at 4 refl i;
        flags = header_be 2 6 refl i;
        correction = to_z w64 (header_be 8 8 refl i);
        source = record { clock = header_be 8 20 refl i; port = header_be 2 28 refl i };
        sequence = header_be 2 30 refl i;
        interval = to_z w8 (header_at 33 refl i);
      }

  pub octet_six : get_or a 6 0 ≡ get_or b 6 0
  octet_six = header_at 6 refl

  -- ---- behind the header, up to messageLength
  rest_at : (k : ℕ) → 34 ≤ k → k < length_of a → (eqb k 46 && eqb (type_of a) 0xB) ≡ false → get_or a k 0 ≡ get_or b k 0
  rest_at k h l r = s.octets k (rw (le-ltb k 34 h, r) (lt-leb (length_of a) k l)) (λ e. omega arith)

  rest_be : (n at : ℕ) → 34 ≤ at → at + n ≤ length_of a → ((k : ℕ) → at ≤ k → k < at + n → (eqb k 46 && eqb (type_of a) 0xB) ≡ false)
      → be n a at ≡ be n b at
  unfolding be
  rest_be zero at h l r = refl
  rest_be (suc n) at h l r =
      let p = rest_be n at h (omega arith) (λ k u v. r k u (omega arith)) in
      let q = rest_at (at + n) (omega arith) (omega arith) (r (at + n) (omega arith) (omega arith)) in
      λ i. p i * 256 + q i

  -- a part of the message
  span_same : (n at : ℕ) → 34 ≤ at → at + n ≤ length_of a → at + n ≤ length a → at + n ≤ length b
      → ((k : ℕ) → at ≤ k → k < at + n → (eqb k 46 && eqb (type_of a) 0xB) ≡ false)
      → take n (drop at a) ≡ take n (drop at b)
  span_same n at h l la lb r =
      ext_get_or 0 (take n (drop at a)) (take n (drop at b)) (simp (length-take, length-drop) (omega arith))
      (λ i u.
      let g = simp (length-take, length-drop) at u in
      let m : i < n = omega (arith, g) in
      get_or-take n (drop at a) i 0 m
      ∙ get_or-drop at a i 0
      ∙ rest_at (at + i) (omega arith) (omega arith) (r (at + i) (omega arith) (omega arith))
      ∙ sym (get_or-take n (drop at b) i 0 m ∙ get_or-drop at b i 0))

  -- before octet 46, and behind it
  low_be : (n at : ℕ) → 34 ≤ at → at + n ≤ 46 → at + n ≤ length_of a → be n a at ≡ be n b at
  low_be n at h u l = rest_be n at h l (λ k g v. rw (ne_eqb k 46 (λ e. omega arith)))

  high_be : (n at : ℕ) → 47 ≤ at → at + n ≤ length_of a → be n a at ≡ be n b at
  high_be n at h l = rest_be n at (omega arith) l (λ k g v. rw (ne_eqb k 46 (λ e. omega arith)))

  high_at : (k : ℕ) → 47 ≤ k → k < length_of a → get_or a k 0 ≡ get_or b k 0
  high_at k h l = rest_at k (omega arith) l (rw (ne_eqb k 46 (λ e. omega arith)))

  stamp_same : 44 ≤ length_of a → stamp_of a ≡ stamp_of b
  unfolding stamp_of
  stamp_same l =
      let p = low_be 6 34 (omega arith) (omega arith) (omega arith) in
      let q = low_be 4 40 (omega arith) (omega arith) (omega arith) in
      λ i. record { seconds = p i; nanoseconds = q i }

  target_same : 44 ≤ length_of a → identity_at a 34 ≡ identity_at b 34
  unfolding identity_at
  target_same l =
      let p = low_be 8 34 (omega arith) (omega arith) (omega arith) in
      let q = low_be 2 42 (omega arith) (omega arith) (omega arith) in
      λ i. record { clock = p i; port = q i }

  requester_same : 54 ≤ length_of a → eqb (type_of a) 0xB ≡ false → identity_at a 44 ≡ identity_at b 44
  unfolding identity_at
  requester_same l t =
      let r : (k : ℕ) → (eqb k 46 && eqb (type_of a) 0xB) ≡ false = λ k. rw t (and_false (eqb k 46)) in
      let p = rest_be 8 44 (omega arith) (omega arith) (λ k u v. r k) in
      let q = rest_be 2 52 (omega arith) (omega arith) (λ k u v. r k) in
      λ i. record { clock = p i; port = q i }
    where
      and_false : (x : Bool) → (x && false) ≡ false
      and_false true = refl
      and_false false = refl

  pub announce_same : 64 ≤ length_of a → announce_of a ≡ announce_of b
  unfolding announce_of
  announce_same l =
      let o = stamp_same (omega arith) in
      let u = low_be 2 44 (omega arith) (omega arith) (omega arith) in
      let p1 = high_at 47 (omega arith) (omega arith) in
      let c = high_at 48 (omega arith) (omega arith) in
      let y = high_at 49 (omega arith) (omega arith) in
      let v = high_be 2 50 (omega arith) (omega arith) in
      let p2 = high_at 52 (omega arith) (omega arith) in
      let g = high_be 8 53 (omega arith) (omega arith) in
      let n = high_be 2 61 (omega arith) (omega arith) in
      let t = high_at 63 (omega arith) (omega arith) in
      λ i. record {
        origin = o i;
        utc = to_z w16 (u i);
        priority1 = p1 i;
        class = c i;
        accuracy = y i;
        variance = v i;
        priority2 = p2 i;
        grandmaster = g i;
        steps = n i;
        timesource = t i;
      }

  -- ---- the body, by its type
  module _ (least : fixed_size (type_of a) ≤ length_of a) (listed : fixed_size (type_of a) ≡ 0 → ⊥) where
    fixed : 44 ≤ length_of a
    fixed = let h = size_least (type_of a) listed in omega arith

    long : (k n : ℕ) → eqb (type_of a) k ≡ true → fixed_size k ≡ n → n ≤ length_of a
    long k n e f = let t = eqb-true (type_of a) k e in let g : fixed_size (type_of a) ≡ n = rw t f in omega arith

    resp_long : eqb (type_of a) 0x9 ≡ true → 54 ≤ length_of a
    unfolding fixed_size
    resp_long e = long 0x9 54 e refl

    pub announce_long : eqb (type_of a) 0xB ≡ true → 64 ≤ length_of a
    unfolding fixed_size
    announce_long e = long 0xB 64 e refl

    abbrev by_type : List ℕ → (b0 b1 b8 b9 bB : Bool) → Body
    by_type l b0 b1 b8 b9 bB =
        pick b0 (body.Sync (stamp_of l))
        (pick b1 (body.DelayReq (stamp_of l))
        (pick b8 (body.FollowUp (stamp_of l))
        (pick b9 (body.DelayResp (record { receive = stamp_of l; requester = identity_at l 44 }))
        (pick bB (body.Announce (announce_of l))
        (body.Signaling (identity_at l 34))))))

    no_announce : eqb (type_of a) 0x9 ≡ true → eqb (type_of a) 0xB ≡ false
    no_announce e = let t = eqb-true (type_of a) 0x9 e in ne_eqb (type_of a) 0xB (λ f. omega arith)

    same_body : (b0 b1 b8 b9 bB : Bool) → eqb (type_of a) 0x9 ≡ b9 → eqb (type_of a) 0xB ≡ bB → by_type a b0 b1 b8 b9 bB ≡ by_type b b0 b1 b8 b9 bB
    same_body true b1 b8 b9 bB e9 eB = ap body.Sync (stamp_same fixed)
    same_body false true b8 b9 bB e9 eB = ap body.DelayReq (stamp_same fixed)
    same_body false false true b9 bB e9 eB = ap body.FollowUp (stamp_same fixed)
    same_body false false false true bB e9 eB =
        let p = stamp_same fixed in
        let q = requester_same (resp_long e9) (no_announce e9) in
        λ i. body.DelayResp (record { receive = p i; requester = q i })
    same_body false false false false true e9 eB = ap body.Announce (announce_same (announce_long eB))
    same_body false false false false false e9 eB = ap body.Signaling (target_same fixed)

    body_same : body_of a ≡ body_of b
    unfolding body_of
    body_same =
        same_body (eqb (type_of a) 0x0) (eqb (type_of a) 0x1) (eqb (type_of a) 0x8) (eqb (type_of a) 0x9) (eqb (type_of a) 0xB) refl refl
        ∙ (λ i. by_type b (eqb (type_same i) 0x0) (eqb (type_same i) 0x1) (eqb (type_same i) 0x8) (eqb (type_same i) 0x9) (eqb (type_same i) 0xB))

    pub message_same : message_of a ≡ message_of b
    message_same = λ i. record { header = header_same i; body = body_same i }

    pub bad_stamp_same : bad_stamp (type_of a) a ≡ bad_stamp (type_of b) b
    bad_stamp_same =
        let f = fixed in
        let p = low_be 4 40 (omega arith) (omega arith) (omega arith) in
        λ i. not (eqb (type_same i) 0xC) && leb 1000000000 (p i)

    -- the tail, in which no octet is reserved
    announce_size : eqb (type_of a) 0xB ≡ true → fixed_size (type_of a) ≡ 64
    unfolding fixed_size
    announce_size e = rw (eqb-true (type_of a) 0xB e)

    quiet : (k : ℕ) → fixed_size (type_of a) ≤ k → (eqb k 46 && eqb (type_of a) 0xB) ≡ false
    quiet k h = cases (eqb k 46) (eqb (type_of a) 0xB) refl refl
      where
        cases : (x y : Bool) → eqb k 46 ≡ x → eqb (type_of a) 0xB ≡ y → (x && y) ≡ false
        cases true true ex ey = let e = eqb-true k 46 ex in let z = announce_size ey in absurd (omega arith)
        cases true false ex ey = refl
        cases false y ex ey = refl

    pub tail_same : length_of a ≤ length a → length_of a ≤ length b → tail_of a ≡ tail_of b
    tail_same la lb =
        let h = size_least (type_of a) listed in
        span_same (length_of a - fixed_size (type_of a)) (fixed_size (type_of a)) (omega arith) (omega arith) (omega arith) (omega arith)
        (λ k u v. quiet k u)
        ∙ (λ i. take (length_same i - fixed_size (type_same i)) (drop (fixed_size (type_same i)) b))

  -- ---- the checks
  short_same : ltb (length a) 34 ≡ ltb (length b) 34
  short_same =
      ⊎_elim
      (λ (e : length a ≡ length b). ap (λ (n : ℕ). ltb n 34) e)
      (λ (r : Reaches a (length_of a) × Reaches b (length_of a)). le-ltb (length a) 34 r.0.header ∙ sym (le-ltb (length b) 34 r.1.header))
      s.lent

  beyond_same : ltb (length a) (length_of a) ≡ ltb (length b) (length_of b)
  beyond_same =
      ⊎_elim
      (λ (e : length a ≡ length b). λ i. ltb (e i) (length_same i))
      (λ (r : Reaches a (length_of a) × Reaches b (length_of a)).
      le-ltb (length a) (length_of a) r.0.message ∙ sym (le-ltb (length b) (length_of a) r.1.message) ∙ ap (ltb (length b)) length_same)
      s.lent

  both_lent : ltb (length a) (length_of a) ≡ false → (length_of a ≤ length a) × (length_of a ≤ length b)
  both_lent e =
      let h = ltb-false (length a) (length_of a) e in
      (h, ⊎_elim (λ (q : length a ≡ length b). rw (← q) h) (λ (r : Reaches a (length_of a) × Reaches b (length_of a)). r.1.message) s.lent)

  -- THE CHECKS BEFORE THE TAIL'S GIVE THE SAME, and what comes after them does where tails that are lent are the same
  module _ {A : Type 0} (refused : Refusal → A) {y z : A}
      (h : (fixed_size (type_of a) ≡ 0 → ⊥) → tail_of a ≡ tail_of b → y ≡ z) where
    rest_same : (fixed_size (type_of a) ≡ 0 → ⊥) → fixed_size (type_of a) ≤ length_of a
        → refuse (ltb (length a) (length_of a)) (refused Short) (refuse (bad_stamp (type_of a) a) (refused Stamp) y)
        ≡ refuse (ltb (length b) (length_of b)) (refused Short) (refuse (bad_stamp (type_of b) b) (refused Stamp) z)
    rest_same listed least =
        under (ltb (length a) (length_of a)) (refused Short)
        (λ e.
        let l = both_lent e in
        let k = h listed (tail_same least listed l.0 l.1) in
        let q = bad_stamp_same least listed in
        λ i. refuse (q i) (refused Stamp) (k i))
        ∙ (λ i. refuse (beyond_same i) (refused Short) (refuse (bad_stamp (type_of b) b) (refused Stamp) z))

    pub headed_same : headed refused y a ≡ headed refused z b
    headed_same =
        under (ltb (length a) 34) (refused Short)
        (λ e1. under (not (eqb (version_of a) 2)) (refused Version)
        (λ e2. under (eqb (fixed_size (type_of a)) 0) (refused «Type»)
        (λ e3. under (ltb (length_of a) (fixed_size (type_of a))) (refused Length)
        (λ e4. rest_same (eqb-false _ _ e3) (ltb-false _ _ e4)))))
        ∙ (λ i. refuse (short_same i) (refused Short)
        (refuse (not (eqb (s.version i) 2)) (refused Version)
        (refuse (eqb (fixed_size (type_same i)) 0) (refused «Type»)
        (refuse (ltb (length_same i) (fixed_size (type_same i))) (refused Length)
        (refuse (ltb (length b) (length_of b)) (refused Short)
        (refuse (bad_stamp (type_of b) b) (refused Stamp)
        z))))))

  module _ (magic : ℕ) where
    -- THE READING CHECKS GIVE THE SAME
    pub check_same : check_of magic a ≡ check_of magic b
    unfolding check_of
    check_same = headed_same Err (λ listed t. λ i. fault_check (fixed_size (type_same i)) (fault_of magic (t i)))

    -- what an accepted message says
    pub accepted_tail : check_of magic a ≡ Ok tt → tail_of a ≡ tail_of b
    accepted_tail e =
        let c = accepted magic a e in
        let l = both_lent (le-ltb _ _ c.lent) in
        tail_same c.least c.listed l.0 l.1

    -- the ten octets of its timestamp
    pub accepted_stamp : check_of magic a ≡ Ok tt → take 10 (drop 34 a) ≡ take 10 (drop 34 b)
    accepted_stamp e =
        let c = accepted magic a e in
        let l = both_lent (le-ltb _ _ c.lent) in
        let h = size_least (type_of a) c.listed in
        let g = c.least in
        span_same 10 34 (omega arith) (omega arith) (omega arith) (omega arith) (λ k u v. rw (ne_eqb k 46 (λ q. omega arith)))

    pub accepted_message : check_of magic a ≡ Ok tt → message_of a ≡ message_of b
    accepted_message e = let c = accepted magic a e in message_same c.least c.listed

    -- an answer by the checks, of what an accepted message says
    pub by_same : {A : Type 0} (refused : Refusal → A) {y z : A} → (check_of magic a ≡ Ok tt → y ≡ z)
        → by (check_of magic a) refused y ≡ by (check_of magic b) refused z
    by_same refused {y} {z} h = by_under (check_of magic a) refused h ∙ (λ i. by (check_same i) refused z)

    -- THE SAME ANSWERS from reading,
    pub read_same : read_of magic a ≡ read_of magic b
    unfolding read_of
    read_same = by_same Err (λ e. ap Ok (accepted_message e))

    -- and reading an Announce with its suffix
    pub announced_same : announced_of magic a ≡ announced_of magic b
    unfolding announced_of
    announced_same =
        by_same Err
        (λ e.
        let c = accepted magic a e in
        let t = accepted_tail e in
        under (not (eqb (type_of a) 0xB)) (Err «Type»)
        (λ k.
        let l = announce_same (announce_long c.least c.listed (not-false _ k)) in
        λ i. Ok (record { header = header_same i; announce = l i; flags = wr_flags_of (suffix_in magic (t i)) }))
        ∙ (λ i. refuse (not (eqb (type_same i) 0xB)) (Err «Type»)
        (Ok (record { header = header_of b; announce = announce_of b; flags = wr_flags_of (suffix_in magic (tail_of b)) }))))
