-- 12 exactly when, for whatever records a port holds: also where, in words that no calls made, a sender has two. The plan that a
-- number shows: 11, 12 and 13 are one refusal each. And what none of them refuses is taken.
use Rattle.std.specs.Prelude.{Result, Ok, Err}
use Rattle.std.proofs.Common.{◌≡◌, ℕ, ◌<◌, ◌≤◌, Bool, true, false, not, ltb, length, sym, refl, ap, ◌∙◌, arith, ltb-false, ltb-true, le-ltb, lt-ltb}
use Rattle.refusal.specs.Choice.{pick, refuse}
use Rattle.refusal.specs.Refusal.{number_of, answer_of, code_of}
use Rattle.refusal.specs.declared.Refusal.{Refusal}
use Rattle.refusal.specs.declared.Refusal.TheVariants.{Backward, Stale, Full}
use Rattle.senders.specs.declared.Notice.{Notice}
use Rattle.senders.specs.Record.{window_of, is_of, is_live, is_free, is_newer, fresh_of, next_of}
use Rattle.senders.specs.Port.{Port, empty_slot, slot_of, first, new_of, plan_of, outcome_of}
use Rattle.senders.specs.When.{Knows, WhenStale, WhenTaken}
use Rattle.senders.proofs.First.{first_hit, first_misses, first_passes}
use Rattle.senders.proofs.Intake.{plan_cases}
use Rattle.senders.proofs.Intake as intake
use Rattle.senders.specs.declared.Record.{Record}

module _ (p : Port) (t : ℕ) (a : Notice) (size : length p.slots ≡ 16) where
  -- the search finds it
  found : (known : Knows p a.sender) → first (is_of a.sender) p.slots ≡ known.at
  found known = first_hit (is_of a.sender) empty_slot p.slots known.at known.lowest (rw size known.inside) known.its

  pub stale_when : WhenStale p t a → plan_of p t a ≡ Err Stale
  unfolding plan_of refuse
  stale_when s =
      rw (le-ltb t p.last s.later, found s.known, lt-ltb s.known.at 16 s.known.inside, s.live, s.old)

  -- the refusals of a new sender are others
  none_stale : (b : Bool) (j : ℕ) → refuse {A = Result (ℕ × Record) Refusal} (not b) (Err Full) (Ok (j, fresh_of t a)) ≡ Err Stale → ⊥
  unfolding refuse
  none_stale true j e = let z : ◌≡◌ {A = ℕ} 0 1 = cc in omega arith
  none_stale false j e = let z : ◌≡◌ {A = ℕ} 0 1 = cc in omega arith

  only_by : (i : ℕ) → first (is_of a.sender) p.slots ≡ i → (b c d e : Bool) → ltb t p.last ≡ b → ltb i 16 ≡ c
      → is_live (window_of p.e) t (slot_of p i) ≡ d → is_newer a.sequence (slot_of p i).notice.sequence ≡ e
      → refuse {A = Result (ℕ × Record) Refusal} b (Err Backward)
      (pick c (pick d (refuse (not e) (Err Stale) (Ok (i, next_of (slot_of p i) t a))) (Ok (i, fresh_of t a))) (new_of t a (first (is_free (window_of p.e) t) p.slots)))
      ≡ Err Stale
      → WhenStale p t a
  unfolding refuse
  only_by i f true c d e hb hc hd he q = absurd (let z : ◌≡◌ {A = ℕ} 0 1 = cc in omega arith)
  only_by i f false false d e hb hc hd he q =
      let j = first (is_free (window_of p.e) t) p.slots in
      absurd (none_stale (ltb j 16) j q)
  only_by i f false true false e hb hc hd he q = absurd (let z : ◌≡◌ {A = ℕ} 0 1 = cc in omega arith)
  only_by i f false true true true hb hc hd he q = absurd (let z : ◌≡◌ {A = ℕ} 0 1 = cc in omega arith)
  only_by i f false true true false hb hc hd he q =
      let i<16 = ltb-true i 16 hc in
      record {
        later = ltb-false t p.last hb;
        known =
            record {
              at = i;
              inside = i<16;
              its = rw f at (first_passes (is_of a.sender) empty_slot p.slots (rw (f, size) i<16));
              lowest = λ k g. first_misses (is_of a.sender) empty_slot p.slots k (rw f g);
            };
        live = hd;
        old = he;
      }

  pub stale_only : plan_of p t a ≡ Err Stale → WhenStale p t a
  unfolding plan_of
  stale_only q =
      let i = first (is_of a.sender) p.slots in
      only_by i refl (ltb t p.last) (ltb i 16) (is_live (window_of p.e) t (slot_of p i)) (is_newer a.sequence (slot_of p i).notice.sequence) refl refl refl refl q

  -- the plan by its number
  module _ (x : Refusal) (some : 0 < number_of x) (eleven : 11 ≡ number_of x → Backward ≡ x) (twelve : 12 ≡ number_of x → Stale ≡ x)
      (thirteen : 13 ≡ number_of x → Full ≡ x) where
    pub plan_numbered : code_of (outcome_of (plan_of p t a)) ≡ number_of x → plan_of p t a ≡ Err x
    plan_numbered =
        plan_cases p t a size (λ q. code_of (outcome_of q) ≡ number_of x → q ≡ Err x)
        (record {
          backward = λ l e. ap Err (eleven e);
          renewed = λ i l g o v n e. absurd (omega arith);
          stale = λ i l g o v n e. ap Err (twelve e);
          restarted = λ i l g o v e. absurd (omega arith);
          placed = λ j l n g v b e. absurd (omega arith);
          full = λ l n v e. ap Err (thirteen e);
        })

  -- no other number than 0, 11, 12 and 13
  pub plan_at_most : code_of (outcome_of (plan_of p t a)) ≤ 13
  plan_at_most =
      plan_cases p t a size (λ q. code_of (outcome_of q) ≤ 13)
      (record {
        backward = λ l. omega arith;
        renewed = λ i l g o v n. omega arith;
        stale = λ i l g o v n. omega arith;
        restarted = λ i l g o v. omega arith;
        placed = λ j l n g v b. omega arith;
        full = λ l n v. omega arith;
      })

  -- what is not refused is taken
  pub taken_when : WhenTaken p t a → code_of (outcome_of (plan_of p t a)) ≡ 0
  taken_when w =
      plan_cases p t a size (λ q. (q ≡ Err Stale → ⊥) → code_of (outcome_of q) ≡ 0)
      (record {
        backward = λ l n. absurd (w.0 l);
        renewed = λ i l g o v n f. refl;
        stale = λ i l g o v n f. absurd (f refl);
        restarted = λ i l g o v f. refl;
        placed = λ j l n g v b f. refl;
        full = λ l n v f. absurd (w.2 (l, n, v));
      })
      (λ e. w.1 (stale_only e))

  pub taken_only : code_of (outcome_of (plan_of p t a)) ≡ 0 → WhenTaken p t a
  taken_only e = (
    λ h. never Backward (intake.backward_when p t a size h) (omega arith),
    λ h. never Stale (stale_when h) (omega arith),
    λ h. never Full (intake.full_when p t a size h.0 h.1 h.2) (omega arith),
  )
    where
      never : (x : Refusal) → plan_of p t a ≡ Err x → 0 < answer_of x → ⊥
      never x f some = let z : 0 ≡ answer_of x = sym e ∙ ap (λ (q : Result (ℕ × Record) Refusal). code_of (outcome_of q)) f in omega arith
