-- A file is refused with 21, 8, what recording gives the first frame, and 16 exactly when 02, (vi), says so, in this order; a refusal changes nothing.
use Rattle.std.specs.Prelude.{Result, Ok, Err}
use Prim.Native.Nat.{ℕ, ◌<◌}
use mathlib.Core.Path.{◌≡◌, ◌∙◌, refl, sym, ap, subst}
use mathlib.Core.List.{List, [], ◌∷◌, ◌++◌}
use mathlib.Core.Bool.{Bool, true, false}
use native.Mathlib.Omega.{arith}
use lib.Dec.{ltb}
use lib.ListN.{length}
use borrow.Author.Tests.{ltb-true, ltb-false}
use Rattle.refusal.specs.Refusal.{answer_of}
use Rattle.refusal.specs.Limits.{is_port}
use Rattle.refusal.specs.declared.Refusal.{Refusal}
use Rattle.refusal.proofs.Numbers.{answered}
use Rattle.block.specs.Layout.{Entry}
use Rattle.recording.specs.Recording.{record_check, words_after, told_by, closes, answer_by}
use Rattle.recording.specs.Refusing.{recorded_code, RecordWhen}
use Rattle.recording.proofs.Refusing.{done, is_done_lem, recorded_told, when_recorded}
use Rattle.writer.specs.Writing.{written_code}
use Rattle.pcap.specs.File.{is_capture}
use Rattle.importing.specs.Importing.{or_else, records_check, words_after_all, fresh_words, trace_by, records_in, import_of, out_after_import}
use Rattle.importing.specs.When.{AllTaken, none, more, FirstRefused, ImportWhen, no_capture, no_port, one_refused, no_room, read}
use Rattle.importing.proofs.Tapes.{first_done}
use Rattle.importing.proofs.Answers as answers

-- ---- ALL ARE TAKEN
pub is_taken : (es : List Entry) (ws : List ℕ) → records_check ws es ≡ Ok tt → AllTaken ws es
unfolding records_check
is_taken [] ws h = none
is_taken (e ∷ es) ws h =
    let d = first_done (record_check ws e) (records_check (words_after ws e) es) h in
    more (done ws e d.0) (is_taken es (words_after ws e) d.1)

pub taken_done : {ws : List ℕ} {es : List Entry} → AllTaken ws es → records_check ws es ≡ Ok tt
unfolding records_check
taken_done none = refl
taken_done {ws} (more {e} {es} t h) = λ i. or_else (is_done_lem ws e t i) (taken_done h i)

-- ---- ONE IS REFUSED
module _ (ws : List ℕ) (e : Entry) where
  -- the line of a record that is refused, and its number
  refused_line : (x : Refusal) → record_check ws e ≡ Err x → RecordWhen ws e (answer_of x)
  refused_line x h = subst (λ (o : Result (Unit {0}) Refusal). RecordWhen ws e (recorded_code (answer_by o (told_by (closes ws e))))) h (recorded_told ws e)

  none_told : (closed : Bool) → recorded_code (told_by closed) ≡ 0
  none_told true = refl
  none_told false = refl

  -- what a line refuses is refused, with that number
  line_refused : {n : ℕ} → RecordWhen ws e n → 0 < n → (o : Result (Unit {0}) Refusal) → record_check ws e ≡ o → (x : Refusal) × ((o ≡ Err x) × (answer_of x ≡ n))
  line_refused w s (Err x) h =
      (x, (refl, sym (ap (λ (o : Result (Unit {0}) Refusal). recorded_code (answer_by o (told_by (closes ws e)))) h) ∙ when_recorded ws e w))
  line_refused w s (Ok tt) h =
      let z = sym (when_recorded ws e w) ∙ ap (λ (o : Result (Unit {0}) Refusal). recorded_code (answer_by o (told_by (closes ws e)))) h ∙ none_told (closes ws e) in
      absurd (omega arith)

pub is_first : (es : List Entry) (ws : List ℕ) (x : Refusal) → records_check ws es ≡ Err x → FirstRefused ws es (answer_of x)
unfolding records_check words_after_all
is_first [] ws x h = absurd (let z : ◌≡◌ {A = ℕ} 0 1 = cc in omega arith)
is_first (e ∷ es) ws x h = by (record_check ws e) refl h (λ k. is_first es (words_after ws e) x k)
  where
    by : (o : Result (Unit {0}) Refusal) → record_check ws e ≡ o → or_else o (records_check (words_after ws e) es) ≡ Err x
        → (records_check (words_after ws e) es ≡ Err x → FirstRefused (words_after ws e) es (answer_of x)) → FirstRefused ws (e ∷ es) (answer_of x)
    by (Err y) r k rest =
        record {
          before = [];
          refused = e;
          after = es;
          all = refl;
          taken = none;
          when = refused_line ws e x (r ∙ k);
          number = answered x;
        }
    by (Ok tt) r k rest =
        let f = rest k in
        record {
          before = e ∷ f.before;
          refused = f.refused;
          after = f.after;
          all = ap (λ (l : List Entry). e ∷ l) f.all;
          taken = more (done ws e r) f.taken;
          when = f.when;
          number = f.number;
        }

-- behind those that are taken
behind_taken : {ws : List ℕ} {before : List Entry} → AllTaken ws before → (es : List Entry) → records_check ws (before ++ es) ≡ records_check (words_after_all ws before) es
unfolding records_check words_after_all
behind_taken none es = refl
behind_taken {ws} (more {e} {es = fs} t h) es =
    ap (λ (o : Result (Unit {0}) Refusal). or_else o (records_check (words_after ws e) (fs ++ es))) (is_done_lem ws e t) ∙ behind_taken h es

pub first_refused : (ws : List ℕ) (es : List Entry) (n : ℕ) → FirstRefused ws es n → (x : Refusal) × ((records_check ws es ≡ Err x) × (answer_of x ≡ n))
unfolding records_check
first_refused ws es n f =
    let vs = words_after_all ws f.before in
    let l = line_refused vs f.refused f.when f.number (record_check vs f.refused) refl in (
      l.0,
      (
        ap (records_check ws) (sym f.all) ∙ behind_taken f.taken (f.refused ∷ f.after)
            ∙ ap (λ (o : Result (Unit {0}) Refusal). or_else o (records_check (words_after vs f.refused) f.after)) l.1.0,
        l.1.1,
      ),
    )

-- ---- A FILE
module _ (room port : ℕ) (file : List ℕ) where
  abbrev es : List Entry
  es = records_in port file

  by_tests : (k : Bool) → is_capture file ≡ k → (p : Bool) → is_port port ≡ p → (o : Result (Unit {0}) Refusal) → records_check fresh_words es ≡ o
      → (l : Bool) → ltb room (length (trace_by es)) ≡ l → ImportWhen room port file (written_code (import_of room port file))
  by_tests false k p ep o eo l el = subst (λ (w : Result ℕ Refusal). ImportWhen room port file (written_code w)) (sym (answers.no_capture room port file k)) (no_capture k)
  by_tests true k false ep o eo l el = subst (λ (w : Result ℕ Refusal). ImportWhen room port file (written_code w)) (sym (answers.no_port room port file k ep)) (no_port k ep)
  by_tests true k true ep (Err x) eo l el =
      subst (λ (w : Result ℕ Refusal). ImportWhen room port file (written_code w)) (sym (answers.one_refused room port file k ep x eo))
      (one_refused k ep (is_first es fresh_words x eo))
  by_tests true k true ep (Ok tt) eo true el =
      subst (λ (w : Result ℕ Refusal). ImportWhen room port file (written_code w)) (sym (answers.no_room room port file k ep eo (ltb-true _ _ el)))
      (no_room k ep (is_taken es fresh_words eo) (ltb-true _ _ el))
  by_tests true k true ep (Ok tt) eo false el =
      subst (λ (w : Result ℕ Refusal). ImportWhen room port file (written_code w)) (sym (answers.imported room port file k ep eo (ltb-false _ _ el)))
      (read k ep (is_taken es fresh_words eo) (ltb-false _ _ el))

  -- THE NUMBER GIVEN: its line holds
  pub import_told : ImportWhen room port file (written_code (import_of room port file))
  import_told = by_tests (is_capture file) refl (is_port port) refl (records_check fresh_words es) refl (ltb room (length (trace_by es))) refl

  -- A LINE THAT HOLDS: its number is given
  pub when_imported : {n : ℕ} → ImportWhen room port file n → written_code (import_of room port file) ≡ n
  when_imported (no_capture k) = ap written_code (answers.no_capture room port file k)
  when_imported (no_port k p) = ap written_code (answers.no_port room port file k p)
  when_imported (one_refused {n} k p f) =
      let r = first_refused fresh_words es n f in
      ap written_code (answers.one_refused room port file k p r.0 r.1.0) ∙ r.1.1
  when_imported (no_room k p t l) = ap written_code (answers.no_room room port file k p (taken_done t) l)
  when_imported (read k p t l) = ap written_code (answers.imported room port file k p (taken_done t) l)

-- A REFUSED FILE CHANGES NOTHING
pub refused_nothing : (out : List ℕ) (port : ℕ) (file : List ℕ) (x : Refusal) → import_of (length out) port file ≡ Err x → out_after_import out port file ≡ out
refused_nothing out port file x e = sym (answers.tells_refusal out port file x e).1
