-- What an Announce does to a port, by its cases, and what the customer is promised of it: nobody is pushed out, 13 comes
-- exactly for a new sender among sixteen live ones, an expired place is used again, and no sender has two records.
use Rattle.std.specs.Prelude.{Result, Ok, Err}
use Rattle.std.proofs.Common.{◌≡◌, ℕ, ◌<◌, ◌≤◌, Bool, true, false, not, eqb, ltb, length, get_or, set, sym, refl, ap, ◌∙◌, subst, arith, length-set, get_or-set_other, get_or-set_same, ltb-false, ltb-true, eqb-true}
use native.Mathlib.Decide.{dec_lt}
use borrow.Author.Tests.{not-true, not-false, eqb-false}
use Rattle.laws.proofs.Bools.{clash}
use Rattle.refusal.specs.Choice.{pick, refuse}
use Rattle.refusal.specs.Refusal.{number_of}
use Rattle.refusal.specs.declared.Refusal.{Refusal}
use Rattle.refusal.specs.declared.Refusal.TheVariants.{Backward, Stale, Full}
use Rattle.identity.specs.declared.PortIdentity.{PortIdentity}
use Rattle.senders.specs.declared.Notice.{Notice}
use Rattle.senders.specs.declared.Record.{Record}
use Rattle.senders.specs.Record.{window_of, is_of, is_live, is_free, is_newer, fresh_of, next_of}
use Rattle.senders.specs.Port.{Port, empty_slot, slot_of, first, sender_plan, plan_of, port_after, New, Live, AllLive, Single}
use Rattle.senders.proofs.First.{first_misses, first_passes}
use Rattle.senders.proofs.Names.{of_name, of_heard, is_of_lem}

-- The cases of an Announce: what is refused, and what is put where.
pub record Cases (p : Port) (t : ℕ) (a : Notice) (P : Result (ℕ × Record) Refusal → Type 0) : Type 0 where
  pub backward : t < p.last → P (Err Backward)
  -- a live sender, newer or not
  pub renewed : (i : ℕ) → p.last ≤ t → i < 16 → is_of a.sender (slot_of p i) ≡ true → Live p t i
      → is_newer a.sequence (slot_of p i).notice.sequence ≡ true → P (Ok (i, next_of (slot_of p i) t a))
  pub stale : (i : ℕ) → p.last ≤ t → i < 16 → is_of a.sender (slot_of p i) ≡ true → Live p t i
      → is_newer a.sequence (slot_of p i).notice.sequence ≡ false → P (Err Stale)
  -- an expired one
  pub restarted : (i : ℕ) → p.last ≤ t → i < 16 → is_of a.sender (slot_of p i) ≡ true
      → is_live (window_of p.e) t (slot_of p i) ≡ false → P (Ok (i, fresh_of t a))
  -- a new one, with a free slot or none
  pub placed : (j : ℕ) → p.last ≤ t → New p a → j < 16 → is_live (window_of p.e) t (slot_of p j) ≡ false
      → ((k : ℕ) → k < j → Live p t k) → P (Ok (j, fresh_of t a))
  pub full : p.last ≤ t → New p a → AllLive p t → P (Err Full)

module _ (p : Port) (t : ℕ) (a : Notice) (size : length p.slots ≡ 16) (P : Result (ℕ × Record) Refusal → Type 0) (cases : Cases p t a P) (later : p.last ≤ t) where
  known_case : (i : ℕ) → i < 16 → is_of a.sender (slot_of p i) ≡ true → (b c : Bool) → is_live (window_of p.e) t (slot_of p i) ≡ b
      → is_newer a.sequence (slot_of p i).notice.sequence ≡ c
      → P (pick b (refuse (not c) (Err Stale) (Ok (i, next_of (slot_of p i) t a))) (Ok (i, fresh_of t a)))
  unfolding refuse
  known_case i h o true true l n = cases.renewed i later h o l n
  known_case i h o true false l n = cases.stale i later h o l n
  known_case i h o false c l n = cases.restarted i later h o l

  new_case : New p a → (j : ℕ) → first (is_free (window_of p.e) t) p.slots ≡ j → (b : Bool) → ltb j 16 ≡ b
      → P (refuse (not b) (Err Full) (Ok (j, fresh_of t a)))
  unfolding refuse
  new_case new j f true h =
      let free = is_free (window_of p.e) t in
      let j<16 = ltb-true j 16 h in
      let hit : free (slot_of p j) ≡ true = rw f at (first_passes free empty_slot p.slots (rw (f, size) j<16)) in
      cases.placed j later new j<16 (not-true _ hit)
      (λ k g. not-false _ (first_misses free empty_slot p.slots k (rw f g)))
  new_case new j f false h =
      let j≥16 = ltb-false j 16 h in
      cases.full later new
      (λ k g. not-false _ (first_misses (is_free (window_of p.e) t) empty_slot p.slots k (rw f (omega arith))))

  sender_case : (i : ℕ) → first (is_of a.sender) p.slots ≡ i → (b : Bool) → ltb i 16 ≡ b
      → P (pick b
      (pick (is_live (window_of p.e) t (slot_of p i)) (refuse (not (is_newer a.sequence (slot_of p i).notice.sequence)) (Err Stale) (Ok (i, next_of (slot_of p i) t a))) (Ok (i, fresh_of t a)))
      (refuse (not (ltb (first (is_free (window_of p.e) t) p.slots) 16)) (Err Full) (Ok (first (is_free (window_of p.e) t) p.slots, fresh_of t a))))
  sender_case i f true h =
      let i<16 = ltb-true i 16 h in
      let hit : is_of a.sender (slot_of p i) ≡ true = rw f at (first_passes (is_of a.sender) empty_slot p.slots (rw (f, size) i<16)) in
      known_case i i<16 hit (is_live (window_of p.e) t (slot_of p i)) (is_newer a.sequence (slot_of p i).notice.sequence) refl refl
  sender_case i f false h =
      let i≥16 = ltb-false i 16 h in
      new_case (λ k g. first_misses (is_of a.sender) empty_slot p.slots k (rw f (omega arith)))
      (first (is_free (window_of p.e) t) p.slots) refl (ltb (first (is_free (window_of p.e) t) p.slots) 16) refl

module _ (p : Port) (t : ℕ) (a : Notice) (size : length p.slots ≡ 16) (P : Result (ℕ × Record) Refusal → Type 0) (cases : Cases p t a P) where
  plan_by_lem : (b : Bool) → ltb t p.last ≡ b
      → P (refuse b (Err Backward) (sender_plan (window_of p.e) t a p.slots (first (is_of a.sender) p.slots)))
  unfolding refuse
  plan_by_lem true h = cases.backward (ltb-true t p.last h)
  plan_by_lem false h =
      let i = first (is_of a.sender) p.slots in
      sender_case p t a size P cases (ltb-false t p.last h) i refl (ltb i 16) refl

  -- what holds of each case holds of the plan
  pub plan_cases : P (plan_of p t a)
  unfolding plan_of
  plan_cases = plan_by_lem (ltb t p.last) refl

-- A plan that refuses: every case that puts a record is ruled out.
module _ (p : Port) (t : ℕ) (a : Notice) (x : Refusal) (Q : Type 0) where
  no_put : {k : ℕ} {z : Record} → ◌≡◌ {A = Result (ℕ × Record) Refusal} (Ok (k, z)) (Err x) → Q
  no_put {k} {z} e = absurd (let d : ◌≡◌ {A = ℕ} 0 1 = cc in omega arith)

  same : {y : Refusal} → ◌≡◌ {A = Result (ℕ × Record) Refusal} (Err y) (Err x) → y ≡ x
  same {y} e = cc

  refused_by : (t < p.last → Backward ≡ x → Q)
      → ((i : ℕ) → p.last ≤ t → i < 16 → is_of a.sender (slot_of p i) ≡ true → Live p t i
      → is_newer a.sequence (slot_of p i).notice.sequence ≡ false → Stale ≡ x → Q)
      → (p.last ≤ t → New p a → AllLive p t → Full ≡ x → Q)
      → Cases p t a (λ q. q ≡ Err x → Q)
  refused_by backward stale full =
      record {
        backward = λ l e. backward l (same e);
        renewed = λ i l g o v n e. no_put e;
        stale = λ i l g o v n e. stale i l g o v n (same e);
        restarted = λ i l g o v e. no_put e;
        placed = λ j l n g v b e. no_put e;
        full = λ l n v e. full l n v (same e);
      }

-- the rows of the table are different
apart : {G : Type 0} {x y : Refusal} → ltb (number_of x) (number_of y) ≡ true → x ≡ y → G
apart {G} {x} {y} h e =
    let l : number_of x < number_of y = ltb-true (number_of x) (number_of y) h in
    let same = ap number_of e in
    absurd (omega arith)

pub record IsStale (p : Port) (t : ℕ) (a : Notice) : Type 0 where
  pub at : ℕ
  pub inside : at < 16
  pub later : p.last ≤ t
  pub own : is_of a.sender (slot_of p at) ≡ true
  pub live : Live p t at
  pub older : is_newer a.sequence (slot_of p at).notice.sequence ≡ false

module _ (p : Port) (t : ℕ) (a : Notice) (size : length p.slots ≡ 16) where
  -- "time below this port's last accepted time": 11 exactly then
  pub backward_when : t < p.last → plan_of p t a ≡ Err Backward
  backward_when h =
      plan_cases p t a size (λ q. q ≡ Err Backward)
      (record {
        backward = λ l. refl;
        renewed = λ i l g o v n. absurd (omega arith);
        stale = λ i l g o v n. absurd (omega arith);
        restarted = λ i l g o v. absurd (omega arith);
        placed = λ j l n g v b. absurd (omega arith);
        full = λ l n v. absurd (omega arith);
      })

  pub backward_only : plan_of p t a ≡ Err Backward → t < p.last
  backward_only =
      plan_cases p t a size (λ q. q ≡ Err Backward → t < p.last)
      (refused_by p t a Backward (t < p.last)
      (λ l e. l)
      (λ i l g o v n e. apart refl (sym e))
      (λ l n v e. apart refl (sym e)))

  -- "live record, sequenceId not newer": 12 exactly then, where no sender has two records
  pub stale_only : plan_of p t a ≡ Err Stale → IsStale p t a
  stale_only =
      plan_cases p t a size (λ q. q ≡ Err Stale → IsStale p t a)
      (refused_by p t a Stale (IsStale p t a)
      (λ l e. apart refl e)
      (λ i l g o v n e. record { at = i; inside = g; later = l; own = o; live = v; older = n })
      (λ l n v e. apart refl (sym e)))

  module _ (single : Single p) (s : IsStale p t a) where
    -- the record that is found is the sender's only one
    its : {G : Type 0} {i : ℕ} (f : Record → Bool) → i < 16 → is_of a.sender (slot_of p i) ≡ true
        → f (slot_of p s.at) ≡ true → f (slot_of p i) ≡ false → G
    its {G} {i} f g o hit miss =
        let e = single a.sender s.at i s.inside g s.own o in
        clash hit (subst (λ (k : ℕ). f (slot_of p k) ≡ false) (sym e) miss)

    pub stale_when : plan_of p t a ≡ Err Stale
    stale_when =
        let newer = is_newer a.sequence in
        plan_cases p t a size (λ q. q ≡ Err Stale)
        (record {
          backward = λ l. let h = s.later in absurd (omega arith);
          renewed = λ i l g o v n. its (λ r. not (newer r.notice.sequence)) g o (ap not s.older) (ap not n);
          stale = λ i l g o v n. refl;
          restarted = λ i l g o v. its (is_live (window_of p.e) t) g o s.live v;
          placed = λ j l n g v b. clash s.own (n s.at s.inside);
          full = λ l n v. clash s.own (n s.at s.inside);
        })

  -- "new sender, 16 live records on the port": 13 exactly then
  pub full_when : p.last ≤ t → New p a → AllLive p t → plan_of p t a ≡ Err Full
  full_when h new live =
      plan_cases p t a size (λ q. q ≡ Err Full)
      (record {
        backward = λ l. absurd (omega arith);
        renewed = λ i l g o v n. clash o (new i g);
        stale = λ i l g o v n. clash o (new i g);
        restarted = λ i l g o v. clash o (new i g);
        placed = λ j l n g v b. clash (live j g) v;
        full = λ l n v. refl;
      })

  pub full_only : plan_of p t a ≡ Err Full → (p.last ≤ t) × New p a × AllLive p t
  full_only =
      plan_cases p t a size (λ q. q ≡ Err Full → (p.last ≤ t) × New p a × AllLive p t)
      (refused_by p t a Full ((p.last ≤ t) × New p a × AllLive p t)
      (λ l e. apart refl e)
      (λ i l g o v n e. apart refl e)
      (λ l n v e. (l, n, v)))

-- A place that is used again: the lowest one that is empty or expired, for one receipt of the new sender.
pub record Reused (p : Port) (t : ℕ) (a : Notice) (i : ℕ) (q : Result (ℕ × Record) Refusal) : Type 0 where
  pub at : ℕ
  pub is : q ≡ Ok (at, fresh_of t a)
  pub low : at ≤ i
  pub free : is_live (window_of p.e) t (slot_of p at) ≡ false

not_later : (p : Port) (t i j : ℕ) → is_live (window_of p.e) t (slot_of p i) ≡ false → ((k : ℕ) → k < j → Live p t k) → j ≤ i
not_later p t i j v b = by (dec_lt i j)
  where
    by : Dec (i < j) → j ≤ i
    by (yes h) = clash (b i h) v
    by (no h) = omega arith

module _ (p : Port) (t : ℕ) (a : Notice) (size : length p.slots ≡ 16) where
  -- "A new sender takes the lowest slot that is empty or expired.": if there is one, it is taken
  pub expired_place_used : (i : ℕ) → p.last ≤ t → New p a → i < 16 → is_live (window_of p.e) t (slot_of p i) ≡ false → Reused p t a i (plan_of p t a)
  expired_place_used i h new g v =
      plan_cases p t a size (Reused p t a i)
      (record {
        backward = λ l. absurd (omega arith);
        renewed = λ k l m o u n. clash o (new k m);
        stale = λ k l m o u n. clash o (new k m);
        restarted = λ k l m o u. clash o (new k m);
        placed = λ j l n m u b. record { at = j; is = refl; low = not_later p t i j v b; free = u };
        full = λ l n u. clash (u i g) v;
      })

  other_slot : (i k : ℕ) (z : Record) (f : Record → Bool) → f (slot_of p k) ≡ true → f (slot_of p i) ≡ false
      → slot_of (port_after p t (Ok (k, z))) i ≡ slot_of p i
  other_slot i k z f hit miss =
      get_or-set_other p.slots k i z empty_slot (λ e. clash hit (subst (λ (m : ℕ). f (slot_of p m) ≡ false) e miss))

  -- NOBODY IS PUSHED OUT: another sender's Announce leaves a live record in its slot, as it was
  pub keeps_live : (i : ℕ) → is_of a.sender (slot_of p i) ≡ false → Live p t i
      → slot_of (port_after p t (plan_of p t a)) i ≡ slot_of p i
  keeps_live i other live =
      let own = is_of a.sender in
      plan_cases p t a size (λ q. slot_of (port_after p t q) i ≡ slot_of p i)
      (record {
        backward = λ l. refl;
        renewed = λ k l m o u n. other_slot i k _ own o other;
        stale = λ k l m o u n. refl;
        restarted = λ k l m o u. other_slot i k _ own o other;
        placed = λ j l n m u b. other_slot i j _ (λ r. not (is_live (window_of p.e) t r)) (ap not u) (ap not live);
        full = λ l n u. refl;
      })

  -- sixteen slots stay sixteen
  pub size_kept : length (port_after p t (plan_of p t a)).slots ≡ 16
  size_kept =
      let put : (k : ℕ) (z : Record) → length (set p.slots k z) ≡ 16 = λ k z. length-set p.slots k z ∙ size in
      plan_cases p t a size (λ q. length (port_after p t q).slots ≡ 16)
      (record {
        backward = λ l. size;
        renewed = λ k l m o u n. put k _;
        stale = λ k l m o u n. size;
        restarted = λ k l m o u. put k _;
        placed = λ j l n m u b. put j _;
        full = λ l n u. size;
      })

-- ---- one sender has at most one record
-- two records of one sender
same_sender : (x : PortIdentity) (z r : Record) → is_of x z ≡ true → is_of x r ≡ true → is_of z.notice.sender r ≡ true
same_sender x z r ez er = is_of_lem z.notice.sender r (of_name x r er ∙ sym (of_name x z ez)) (of_heard x r er)

module _ (p : Port) (t : ℕ) (size : length p.slots ≡ 16) (single : Single p) (k : ℕ) (z : Record) (inside : k < 16)
    (others : (j : ℕ) → j < 16 → (j ≡ k → ⊥) → is_of z.notice.sender (slot_of p j) ≡ false) where
  abbrev after : ℕ → Record
  after i = get_or (set p.slots k z) i empty_slot

  at_k : {i : ℕ} → i ≡ k → after i ≡ z
  at_k {i} e = ap after e ∙ get_or-set_same p.slots k z empty_slot (rw size inside)

  beside : {i : ℕ} → (i ≡ k → ⊥) → after i ≡ slot_of p i
  beside {i} e = get_or-set_other p.slots k i z empty_slot e

  at_and_beside : {G : Type 0} (x : PortIdentity) (i j : ℕ) → j < 16 → i ≡ k → (j ≡ k → ⊥) → is_of x (after i) ≡ true → is_of x (after j) ≡ true → G
  at_and_beside x i j h e f oi oj =
      clash (same_sender x z (slot_of p j) (rw (at_k e) at oi) (rw (beside f) at oj)) (others j h f)

  single_by : (x : PortIdentity) (i j : ℕ) → i < 16 → j < 16 → is_of x (after i) ≡ true → is_of x (after j) ≡ true
      → (b c : Bool) → eqb i k ≡ b → eqb j k ≡ c → i ≡ j
  single_by x i j hi hj oi oj true true e f = eqb-true _ _ e ∙ sym (eqb-true _ _ f)
  single_by x i j hi hj oi oj true false e f = at_and_beside x i j hj (eqb-true _ _ e) (eqb-false _ _ f) oi oj
  single_by x i j hi hj oi oj false true e f = at_and_beside x j i hi (eqb-true _ _ f) (eqb-false _ _ e) oj oi
  single_by x i j hi hj oi oj false false e f =
      single x i j hi hj (rw (beside (eqb-false _ _ e)) at oi) (rw (beside (eqb-false _ _ f)) at oj)

  single_put : Single (port_after p t (Ok (k, z)))
  single_put x i j hi hj oi oj = single_by x i j hi hj oi oj (eqb i k) (eqb j k) refl refl

-- no other slot than its own has a record of the sender
alone_by : (p : Port) (a : Notice) (k j : ℕ) → Single p → k < 16 → is_of a.sender (slot_of p k) ≡ true → j < 16 → (j ≡ k → ⊥)
    → (b : Bool) → is_of a.sender (slot_of p j) ≡ b → is_of a.sender (slot_of p j) ≡ false
alone_by p a k j single h o g other true e = absurd (other (single a.sender j k g h e o))
alone_by p a k j single h o g other false e = e

pub alone : (p : Port) (a : Notice) (k : ℕ) → Single p → k < 16 → is_of a.sender (slot_of p k) ≡ true
    → (j : ℕ) → j < 16 → (j ≡ k → ⊥) → is_of a.sender (slot_of p j) ≡ false
alone p a k single h o j g other = alone_by p a k j single h o g other (is_of a.sender (slot_of p j)) refl

pub single_kept : (p : Port) (t : ℕ) (a : Notice) → length p.slots ≡ 16 → Single p → Single (port_after p t (plan_of p t a))
single_kept p t a size single =
    plan_cases p t a size (λ q. Single (port_after p t q))
    (record {
      backward = λ l. single;
      renewed = λ k l h o v n. single_put p t size single k _ h (alone p a k single h o);
      stale = λ k l h o v n. single;
      restarted = λ k l h o v. single_put p t size single k _ h (alone p a k single h o);
      placed = λ j l n h v b. single_put p t size single j _ h (λ i g e. n i g);
      full = λ l n v. single;
    })
