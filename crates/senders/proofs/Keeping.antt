-- A sender keeps its place: an Announce leaves a record in its slot under its name, unless the record is expired and the
-- Announce another sender's.
use Rattle.std.specs.Prelude.{Ok}
use Rattle.std.proofs.Common.{◌≡◌, ℕ, ◌<◌, true, false, eqb, length, sym, refl, ap, ◌∙◌, get_or-set_other, get_or-set_same, eqb-true}
use borrow.Author.Tests.{eqb-false}
use Rattle.identity.specs.declared.PortIdentity.{PortIdentity}
use Rattle.rank.proofs.Best.{cases}
use Rattle.senders.specs.declared.Notice.{Notice}
use Rattle.senders.specs.declared.Record.{Record}
use Rattle.senders.specs.Record.{window_of, is_of, is_live, fresh_of, next_of}
use Rattle.senders.specs.Port.{Port, empty_slot, slot_of, port_after, plan_of, Live}
use Rattle.laws.proofs.Bools.{clash}
use Rattle.senders.proofs.Names.{of_name, is_of_lem}
use Rattle.senders.proofs.Intake.{plan_cases}

module _ (p : Port) (t : ℕ) (a : Notice) (size : length p.slots ≡ 16) (i : ℕ) (x : PortIdentity) (its : is_of x (slot_of p i) ≡ true)
    (live : is_of a.sender (slot_of p i) ≡ false → Live p t i) where
  beside : (k : ℕ) (z : Record) → (i ≡ k → ⊥) → is_of x (slot_of (port_after p t (Ok (k, z))) i) ≡ true
  beside k z other = ap (is_of x) (get_or-set_other p.slots k i z empty_slot other) ∙ its

  at : (k : ℕ) (z : Record) → k < 16 → i ≡ k → is_of x z ≡ true → is_of x (slot_of (port_after p t (Ok (k, z))) i) ≡ true
  at k z h e o =
      ap (λ (j : ℕ). is_of x (slot_of (port_after p t (Ok (k, z))) j)) e
      ∙ ap (is_of x) (get_or-set_same p.slots k z empty_slot (rw size h))
      ∙ o

  -- the sender's own record, put anew
  own : (k : ℕ) (z : Record) → k < 16 → is_of a.sender (slot_of p k) ≡ true → z.notice.sender ≡ a.sender → eqb z.receipts 0 ≡ false
      → is_of x (slot_of (port_after p t (Ok (k, z))) i) ≡ true
  own k z h o e n =
      cases (eqb i k)
      (λ f.
      let g = eqb-true i k f in
      at k z h g (is_of_lem x z (e ∙ sym (of_name a.sender (slot_of p i) (ap (λ (j : ℕ). is_of a.sender (slot_of p j)) g ∙ o)) ∙ of_name x (slot_of p i) its) n))
      (λ f. beside k z (eqb-false i k f))

  -- a new sender's, in a slot that is not live
  new : (k : ℕ) (z : Record) → k < 16 → is_of a.sender (slot_of p k) ≡ false → is_live (window_of p.e) t (slot_of p k) ≡ false
      → is_of x (slot_of (port_after p t (Ok (k, z))) i) ≡ true
  new k z h n v =
      beside k z (λ e.
      let l : is_live (window_of p.e) t (slot_of p i) ≡ true = live (ap (λ (j : ℕ). is_of a.sender (slot_of p j)) e ∙ n) in
      let m : is_live (window_of p.e) t (slot_of p i) ≡ false = ap (λ (j : ℕ). is_live (window_of p.e) t (slot_of p j)) e ∙ v in
      clash l m)

  pub place_kept : is_of x (slot_of (port_after p t (plan_of p t a)) i) ≡ true
  place_kept =
      plan_cases p t a size (λ q. is_of x (slot_of (port_after p t q) i) ≡ true)
      (record {
        backward = λ l. its;
        renewed = λ k l h o v n. own k (next_of (slot_of p k) t a) h o refl refl;
        stale = λ k l h o v n. its;
        restarted = λ k l h o v. own k (fresh_of t a) h o refl refl;
        placed = λ j l n h v b. new j (fresh_of t a) h (n j h) v;
        full = λ l n v. its;
      })
