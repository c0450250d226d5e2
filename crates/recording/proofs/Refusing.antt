-- A message is refused with 8, 19, 11 and 17 exactly when 02, (iv), says so, in this order, and a refused one changes nothing.
use Rattle.std.specs.Prelude.{Result, Ok, Err}
use Prim.Native.Nat.{ℕ, ◌+◌, ◌≤◌}
use mathlib.Core.Path.{◌≡◌, ◌∙◌, refl, sym, ap, subst}
use mathlib.Core.List.{List}
use mathlib.Core.Bool.{Bool, true, false, not, ◌&&◌, and-false}
use mathlib.Core.Logic.{◌⊎◌, inl, inr, ⊎_elim}
use lib.Dec.{leb, ltb}
use lib.ListN.{length}
use borrow.Author.Tests.{lt-ltb, le-ltb, ltb-true, ltb-false, leb-true, not-false}
use Rattle.laws.proofs.Bools.{clash, both}
use Rattle.refusal.specs.Choice.{refuse}
use Rattle.refusal.specs.Refusal.{code_of}
use Rattle.refusal.specs.Limits.{is_port}
use Rattle.refusal.specs.declared.Refusal.{Refusal}
use Rattle.refusal.specs.declared.Refusal.TheVariants.{Port, Long, Backward, Many}
use Rattle.refusal.proofs.Choice.{goes_on, passed, no_refusal}
use Rattle.block.specs.Layout.{block_octets, records_at, head_octets, longest, Entry}
use Rattle.recording.specs.Recording.{next_of, last_of, has_place, fits, check_by, record_check, told_by, answer_by, recorded_of, open_after, words_after, out_after, closes}
use Rattle.recording.specs.Refusing.{recorded_code, last_number, Taken, RecordWhen, no_port, too_long, backward, many, taken}

module _ (ws : List ℕ) (e : Entry) where
  -- which line it is, by the four tests
  line : (p : Bool) → is_port e.port ≡ p → (l : Bool) → ltb longest (length e.message) ≡ l
      → (b : Bool) → ltb e.time (last_of ws) ≡ b → (f : Bool) → fits ws e ≡ f → (m : Bool) → ltb last_number (next_of ws) ≡ m
      → RecordWhen ws e (code_of (refuse (not p) (Err Port)
      (refuse l (Err Long) (refuse b (Err Backward) (refuse (not f && m) (Err Many) (Ok tt))))))
  unfolding refuse
  line false p l el b eb f ef m em = no_port p
  line true p true el b eb f ef m em = too_long p (ltb-true _ _ el)
  line true p false el true eb f ef m em = backward p (ltb-false _ _ el) (ltb-true _ _ eb)
  line true p false el false eb false ef true em =
      many p (ltb-false _ _ el) (ltb-false _ _ eb) ef (ltb-true _ _ em)
  line true p false el false eb false ef false em =
      taken (record { port = p; short = ltb-false _ _ el; later = ltb-false _ _ eb; place = inr (ltb-false _ _ em) })
  line true p false el false eb true ef m em =
      taken (record { port = p; short = ltb-false _ _ el; later = ltb-false _ _ eb; place = inl ef })

  checked : RecordWhen ws e (code_of (record_check ws e))
  unfolding check_by
  checked = line _ refl _ refl _ refl _ refl _ refl

  -- what has its place is not too many
  placed : (fits ws e ≡ true) ⊎ (next_of ws ≤ last_number) → (not (fits ws e) && ltb last_number (next_of ws)) ≡ false
  placed (inl f) = rw f
  placed (inr m) = rw (le-ltb last_number (next_of ws) m) (and-false (not (fits ws e)))

  pub is_done_lem : Taken ws e → record_check ws e ≡ Ok tt
  unfolding check_by
  is_done_lem t =
      goes_on _ _ _ (rw t.port) ∙ goes_on _ _ _ (le-ltb _ _ t.short) ∙ goes_on _ _ _ (le-ltb _ _ t.later)
      ∙ goes_on _ _ _ (placed t.place)

  -- A LINE THAT HOLDS, of the checks
  by_line : {n : ℕ} → RecordWhen ws e n → code_of (record_check ws e) ≡ n
  unfolding check_by refuse
  by_line (no_port p) = rw p
  by_line (too_long p l) = rw (p, lt-ltb _ _ l)
  by_line (backward p s b) = rw (p, le-ltb _ _ s, lt-ltb _ _ b)
  by_line (many p s l f m) = rw (p, le-ltb _ _ s, le-ltb _ _ l, f, lt-ltb _ _ m)
  by_line (taken t) = ap code_of (is_done_lem t)

  -- the answer's number is that of the checks
  same_number : (o : Result (Unit {0}) Refusal) (closed : Bool) → recorded_code (answer_by o (told_by closed)) ≡ code_of o
  same_number (Err x) closed = refl
  same_number (Ok tt) true = refl
  same_number (Ok tt) false = refl

  -- THE NUMBER GIVEN: its line holds
  pub recorded_told : RecordWhen ws e (recorded_code (recorded_of ws e))
  recorded_told = subst (RecordWhen ws e) (sym (same_number (record_check ws e) (closes ws e))) checked

  -- A LINE THAT HOLDS: its number is given
  pub when_recorded : {n : ℕ} → RecordWhen ws e n → recorded_code (recorded_of ws e) ≡ n
  when_recorded w = same_number (record_check ws e) (closes ws e) ∙ by_line w

  -- WHAT IS NOT REFUSED passed all four checks
  many_passed : (f m : Bool) → (not f && m) ≡ false → (f ≡ true) ⊎ (m ≡ false)
  many_passed true m h = inl refl
  many_passed false m h = inr h

  pub done : record_check ws e ≡ Ok tt → Taken ws e
  unfolding check_by
  done h =
      let a = passed _ _ _ _ (no_refusal Port) h in
      let b = passed _ _ _ _ (no_refusal Long) a.1 in
      let c = passed _ _ _ _ (no_refusal Backward) b.1 in
      let d = passed _ _ _ _ (no_refusal Many) c.1 in
      record {
        port = not-false _ a.0;
        short = ltb-false _ _ b.0;
        later = ltb-false _ _ c.0;
        place = ⊎_elim (λ f. inl f) (λ m. inr (ltb-false _ _ m)) (many_passed _ _ d.0);
      }

  -- a new block that is opened for it has a number
  pub has_number : record_check ws e ≡ Ok tt → fits ws e ≡ false → next_of ws ≤ last_number
  has_number h f = ⊎_elim (λ g. clash g f) (λ l. l) (done h).place

-- what has its place stands behind the head, and ends inside the block
pub bounds : (end n : ℕ) → has_place end n ≡ true → (records_at ≤ end) × (end + (head_octets + n) ≤ block_octets)
bounds end n h =
    let b = both (leb records_at end) (leb (end + (head_octets + n)) block_octets) h in
    (leb-true _ _ b.0, leb-true _ _ b.1)

-- A REFUSED MESSAGE CHANGES NOTHING
module _ (ws : List ℕ) (e : Entry) (x : Refusal) where
  by_check : (o : Result (Unit {0}) Refusal) (closed : Bool) → answer_by o (told_by closed) ≡ Err x → o ≡ Err x
  by_check (Err y) closed h = cc
  by_check (Ok tt) true h = cc
  by_check (Ok tt) false h = cc

  pub refused_nothing : (opened out : List ℕ) → recorded_of ws e ≡ Err x
      → (open_after opened ws e ≡ opened) × (words_after ws e ≡ ws) × (out_after opened ws e out ≡ out)
  refused_nothing opened out h = let c = by_check (record_check ws e) (closes ws e) h in (rw c, rw c, rw c)
