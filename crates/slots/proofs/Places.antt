-- A plan puts its record into one of the sixteen slots, and the record is of the notice that was planned for.
use Rattle.std.specs.Prelude.{Result, Ok, Err}
use mathlib.Core.Path.{◌≡◌, refl, ap}
use mathlib.Core.List.{List}
use Prim.Native.Nat.{ℕ, ◌<◌}
use native.Mathlib.Omega.{arith}
use Rattle.refusal.specs.declared.Refusal.{Refusal}
use Rattle.senders.specs.declared.Notice.{Notice}
use Rattle.senders.specs.declared.Record.{Record}
use Rattle.senders.specs.Port.{plan_of}
use Rattle.senders.proofs.Intake.{plan_cases}
use Rattle.slots.specs.Words.{port_of, slot_at}
use Rattle.slots.proofs.Laws.{length_tab}

no_put : {G : Type 0} {x : Refusal} {k : ℕ} {r : Record} → ◌≡◌ {A = Result (ℕ × Record) Refusal} (Err x) (Ok (k, r)) → G
no_put {G} {x} {k} {r} e = absurd (let d : ◌≡◌ {A = ℕ} 0 1 = cc in omega arith)

inside : {k i : ℕ} {r s : Record} → i < 16 → ◌≡◌ {A = Result (ℕ × Record) Refusal} (Ok (i, s)) (Ok (k, r)) → k < 16
inside {k} {i} {r} {s} h e =
    let pair : ◌≡◌ {A = ℕ × Record} (i, s) (k, r) = cc in
    let d : i ≡ k = ap (λ (q : ℕ × Record). q.0) pair in
    omega arith

of_notice : {a : Notice} {k i : ℕ} {r s : Record} → s.notice ≡ a → ◌≡◌ {A = Result (ℕ × Record) Refusal} (Ok (i, s)) (Ok (k, r)) → r.notice ≡ a
of_notice {a} {k} {i} {r} {s} h e =
    let pair : ◌≡◌ {A = ℕ × Record} (i, s) (k, r) = cc in
    let d : s ≡ r = ap (λ (q : ℕ × Record). q.1) pair in
    rw d at h

pub plan_place : (ws : List ℕ) (t : ℕ) (a : Notice) (k : ℕ) (r : Record) → plan_of (port_of ws) t a ≡ Ok (k, r) → k < 16
plan_place ws t a k r =
    plan_cases (port_of ws) t a (length_tab 16 (slot_at ws)) (λ q. q ≡ Ok (k, r) → k < 16)
    (record {
      backward = λ l e. no_put e;
      renewed = λ i l h o v n e. inside h e;
      stale = λ i l h o v n e. no_put e;
      restarted = λ i l h o v e. inside h e;
      placed = λ j l n h v b e. inside h e;
      full = λ l n v e. no_put e;
    })

pub plan_notice : (ws : List ℕ) (t : ℕ) (a : Notice) (k : ℕ) (r : Record) → plan_of (port_of ws) t a ≡ Ok (k, r) → r.notice ≡ a
plan_notice ws t a k r =
    plan_cases (port_of ws) t a (length_tab 16 (slot_at ws)) (λ q. q ≡ Ok (k, r) → r.notice ≡ a)
    (record {
      backward = λ l e. no_put e;
      renewed = λ i l h o v n e. of_notice refl e;
      stale = λ i l h o v n e. no_put e;
      restarted = λ i l h o v e. of_notice refl e;
      placed = λ j l n h v b e. of_notice refl e;
      full = λ l n v e. no_put e;
    })
