-- 20, 22 AND 16 EXACTLY WHEN 02, (vi), says so, in this order: the answer has its line in specs/When.antt, and a line that holds is the answer.
use Rattle.std.specs.Prelude.{Result}
use Prim.Native.Nat.{ℕ, ◌/◌}
use mathlib.Core.Path.{◌≡◌, refl, sym, ap, subst, ◌∙◌}
use mathlib.Core.List.{List, [], ◌∷◌}
use mathlib.Core.Bool.{Bool, true, false, not, ◌&&◌, and-false, true≢false}
use native.Mathlib.Omega.{arith}
use lib.Dec.{eqb, ltb}
use lib.ListN.{length}
use borrow.Author.Tests.{eq-eqb, ne_eqb, eqb-true, eqb-false, lt-ltb, le-ltb, ltb-true, ltb-false}
use Rattle.laws.proofs.Bools.{both, cases}
use Rattle.refusal.specs.Refusal.{code_of}
use Rattle.refusal.specs.Limits.{second_nanos}
use Rattle.refusal.specs.declared.Refusal.TheVariants.{Block}
use Rattle.refusal.proofs.Choice.{goes_on, refused}
use Rattle.block.specs.Layout.{Entry, entries_of}
use Rattle.block.specs.Making.{All}
use Rattle.playback.specs.Playback.{reader_of, accepts, is_trace}
use Rattle.playback.specs.When.{replayed_code, BlockWhen, TraceWhen}
use Rattle.playback.proofs.Exactly.{block_told, when_block, trace_told, when_trace, twenty, when_twenty}
use Rattle.exporting.specs.Exporting.{capture_of, port_of, is_writable, are_writable, records_of, can_write, export_of, port_behind, export_block_of}
use Rattle.exporting.specs.When.{written_code, Unfit, mixed, late, Fit, Some, first, later, ExportWhen, no_trace, unwritable, no_room, written, ExportBlockWhen, no_block, block_unwritable, block_written}
use Rattle.exporting.proofs.Exported as exported
use Rattle.refusal.specs.declared.Refusal.{Refusal}

-- ---- RECORDS
module _ (port : ℕ) where
  unfit : (e : Entry) → is_writable port e ≡ false → Unfit port e
  unfit e h =
      cases (eqb e.port port)
      (λ y. late (ltb-false (e.time / second_nanos) 4294967296 (ap (λ (b : Bool). b && ltb (e.time / second_nanos) 4294967296) (sym y) ∙ h)))
      (λ n. mixed (eqb-false e.port port n))

  unfit_not : (e : Entry) → Unfit port e → is_writable port e ≡ false
  unfit_not e (mixed n) = rw (ne_eqb e.port port n)
  unfit_not e (late h) = rw (le-ltb (e.time / second_nanos) 4294967296 h) (and-false (eqb e.port port))

  fit : (e : Entry) → is_writable port e ≡ true → Fit port e
  fit e h =
      let k = both (eqb e.port port) (ltb (e.time / second_nanos) 4294967296) h in
      record { its = eqb-true _ _ k.0; early = ltb-true _ _ k.1 }

  fit_is : (e : Entry) → Fit port e → is_writable port e ≡ true
  fit_is e f = rw (eq-eqb e.port port f.its, lt-ltb (e.time / second_nanos) 4294967296 f.early)

  -- RECORDS CANNOT BE WRITTEN exactly where one of them has no place ..
  pub some_unfit : (es : List Entry) → are_writable port es ≡ false → Some (Unfit port) es
  unfolding are_writable
  some_unfit [] h = absurd (true≢false h)
  some_unfit (e ∷ es) h =
      cases (is_writable port e)
      (λ y. later (some_unfit es (ap (λ (b : Bool). b && are_writable port es) (sym y) ∙ h)))
      (λ n. first (unfit e n))

  pub unfit_some : {es : List Entry} → Some (Unfit port) es → are_writable port es ≡ false
  unfolding are_writable
  unfit_some (first {e} {es} u) = rw (unfit_not e u)
  unfit_some (later {e} {es} u) = rw (unfit_some u) (and-false (is_writable port e))

  -- .. and can be exactly where each has one
  pub all_fit : (es : List Entry) → are_writable port es ≡ true → All (Fit port) es
  unfolding are_writable
  all_fit [] h = tt
  all_fit (e ∷ es) h = let k = both (is_writable port e) (are_writable port es) h in (fit e k.0, all_fit es k.1)

  pub fit_all : (es : List Entry) → All (Fit port) es → are_writable port es ≡ true
  unfolding are_writable
  fit_all [] f = refl
  fit_all (e ∷ es) f = rw (fit_is e f.0, fit_all es f.1)

-- ---- A WHOLE TRACE
module _ (trace : List ℕ) where
  trace_refused : is_trace trace ≡ false → TraceWhen trace 20
  trace_refused e = twenty trace (refused _ _ _ (ap not e))

  trace_accepted : is_trace trace ≡ true → TraceWhen trace 0
  trace_accepted e = subst (λ (a : Result ℕ Refusal). TraceWhen trace (replayed_code a)) (goes_on _ _ _ (ap not e)) (trace_told trace)

  is_trace_lem : TraceWhen trace 0 → is_trace trace ≡ true
  is_trace_lem w =
      cases (is_trace trace)
      (λ y. y)
      (λ n. absurd (let z : ◌≡◌ {A = ℕ} 20 0 = sym (when_trace trace 20 (trace_refused n)) ∙ when_trace trace 0 w in omega arith))

  abbrev octets : ℕ
  octets = length (capture_of (records_of trace))

  module _ (room : ℕ) where
    by : (t : Bool) → is_trace trace ≡ t → (w : Bool) → can_write trace ≡ w → (l : Bool) → ltb room octets ≡ l → ExportWhen room trace (written_code (export_of room trace))
    by false et w ew l el =
        subst (λ (a : Result ℕ Refusal). ExportWhen room trace (written_code a)) (sym (exported.not_trace trace room et)) (no_trace (trace_refused et))
    by true et false ew l el =
        subst (λ (a : Result ℕ Refusal). ExportWhen room trace (written_code a)) (sym (exported.not_written trace room et ew))
        (unwritable (trace_accepted et) (some_unfit (port_of (records_of trace)) (records_of trace) ew))
    by true et true ew true el =
        let h = ltb-true room octets el in
        subst (λ (a : Result ℕ Refusal). ExportWhen room trace (written_code a)) (sym (exported.no_room trace room et ew h))
        (no_room (trace_accepted et) (all_fit (port_of (records_of trace)) (records_of trace) ew) h)
    by true et true ew false el =
        let h = ltb-false room octets el in
        subst (λ (a : Result ℕ Refusal). ExportWhen room trace (written_code a)) (sym (exported.exported trace room et ew h))
        (written (trace_accepted et) (all_fit (port_of (records_of trace)) (records_of trace) ew) h)

    -- THE NUMBER GIVEN HAS ITS LINE ..
    pub export_told : ExportWhen room trace (written_code (export_of room trace))
    export_told = by (is_trace trace) refl (can_write trace) refl (ltb room octets) refl

    -- .. AND A LINE THAT HOLDS IS THE NUMBER GIVEN
    pub when_export : {n : ℕ} → ExportWhen room trace n → written_code (export_of room trace) ≡ n
    when_export (no_trace w) = ap written_code (exported.not_trace trace room (exported.stopped trace Block (when_twenty trace w)).0)
    when_export (unwritable w u) = ap written_code (exported.not_written trace room (is_trace_lem w) (unfit_some (port_of (records_of trace)) u))
    when_export (no_room w f h) = ap written_code (exported.no_room trace room (is_trace_lem w) (fit_all (port_of (records_of trace)) (records_of trace) f) h)
    when_export (written w f h) = ap written_code (exported.exported trace room (is_trace_lem w) (fit_all (port_of (records_of trace)) (records_of trace) f) h)

-- ---- A BLOCK
module _ (rs s : List ℕ) where
  block_stopped : accepts (reader_of rs) s ≡ false → BlockWhen (reader_of rs) s 20
  block_stopped e = subst (λ (o : Result (Unit {0}) Refusal). BlockWhen (reader_of rs) s (code_of o)) (refused _ _ _ (ap not e)) (block_told (reader_of rs) s)

  block_accepted : accepts (reader_of rs) s ≡ true → BlockWhen (reader_of rs) s 0
  block_accepted e = subst (λ (o : Result (Unit {0}) Refusal). BlockWhen (reader_of rs) s (code_of o)) (goes_on _ _ _ (ap not e)) (block_told (reader_of rs) s)

  accepted : BlockWhen (reader_of rs) s 0 → accepts (reader_of rs) s ≡ true
  accepted w =
      cases (accepts (reader_of rs) s)
      (λ y. y)
      (λ n. absurd (let z : ◌≡◌ {A = ℕ} 20 0 = sym (when_block (reader_of rs) s 20 (block_stopped n)) ∙ when_block (reader_of rs) s 0 w in omega arith))

  not_accepted : BlockWhen (reader_of rs) s 20 → accepts (reader_of rs) s ≡ false
  not_accepted w =
      cases (accepts (reader_of rs) s)
      (λ y. absurd (let z : ◌≡◌ {A = ℕ} 0 20 = sym (when_block (reader_of rs) s 0 (block_accepted y)) ∙ when_block (reader_of rs) s 20 w in omega arith))
      (λ n. n)

  block_by : (a : Bool) → accepts (reader_of rs) s ≡ a → (w : Bool) → are_writable (port_behind rs (entries_of s)) (entries_of s) ≡ w
      → ExportBlockWhen rs s (written_code (export_block_of rs s))
  block_by false ea w ew = subst (λ (a : Result ℕ Refusal). ExportBlockWhen rs s (written_code a)) (sym (exported.not_accepted rs s ea)) (no_block (block_stopped ea))
  block_by true ea false ew =
      subst (λ (a : Result ℕ Refusal). ExportBlockWhen rs s (written_code a)) (sym (exported.block_unwritable rs s ea ew))
      (block_unwritable (block_accepted ea) (some_unfit (port_behind rs (entries_of s)) (entries_of s) ew))
  block_by true ea true ew =
      subst (λ (a : Result ℕ Refusal). ExportBlockWhen rs s (written_code a)) (sym (exported.block_written rs s ea ew))
      (block_written (block_accepted ea) (all_fit (port_behind rs (entries_of s)) (entries_of s) ew))

  -- THE NUMBER GIVEN HAS ITS LINE ..
  pub export_block_told : ExportBlockWhen rs s (written_code (export_block_of rs s))
  export_block_told = block_by (accepts (reader_of rs) s) refl (are_writable (port_behind rs (entries_of s)) (entries_of s)) refl

  -- .. AND A LINE THAT HOLDS IS THE NUMBER GIVEN
  pub when_export_block : {n : ℕ} → ExportBlockWhen rs s n → written_code (export_block_of rs s) ≡ n
  when_export_block (no_block w) = ap written_code (exported.not_accepted rs s (not_accepted w))
  when_export_block (block_unwritable w u) = ap written_code (exported.block_unwritable rs s (accepted w) (unfit_some (port_behind rs (entries_of s)) u))
  when_export_block (block_written w f) = ap written_code (exported.block_written rs s (accepted w) (fit_all (port_behind rs (entries_of s)) (entries_of s) f))
