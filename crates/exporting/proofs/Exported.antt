-- The answers of `export` and of `export_block`, outcome by outcome: what is refused changes nothing, else the octets are there.
use Rattle.std.specs.Prelude.{Some, Result, Ok, Err}
use Prim.Native.Nat.{ℕ, ◌≤◌, ◌<◌}
use mathlib.Core.Path.{◌≡◌, refl, sym, ap, ◌∙◌}
use mathlib.Core.List.{List, [], ◌∷◌}
use mathlib.Core.Bool.{Bool, true, false, not}
use lib.ListN.{length}
use borrow.Author.Tests.{lt-ltb, le-ltb}
use Rattle.refusal.specs.Choice.{refuse}
use Rattle.refusal.specs.declared.Refusal.{Refusal}
use Rattle.refusal.specs.declared.Refusal.TheVariants.{Block, Export, Room}
use Rattle.refusal.proofs.Choice.{goes_on, refused}
use Rattle.stores.specs.Stores.{over}
use Rattle.block.specs.Layout.{entries_of}
use Rattle.judging.specs.Tests.{reader_after, verdict_of}
use Rattle.judging.specs.declared.Reader.{Reader}
use Rattle.playback.specs.Playback.{is_sound, reader_of, accepts, is_trace, replay_of}
use Rattle.playback.proofs.Blocks.{sound_laid}
use Rattle.exporting.specs.Exporting.{packets_of, capture_of, are_writable, weight_of, records_of, can_write, export_of, lent_by, out_after_export, port_behind, export_block_of, reader_behind, packets_behind}
use Rattle.exporting.proofs.Writable.{weighs}

-- ---- A WHOLE TRACE
-- replay refuses it
stopped_by : (b : Bool) (t : ℕ) (x : Refusal) → refuse (not b) (Err Block) (Ok t) ≡ Err x → (b ≡ false) × (x ≡ Block)
unfolding refuse
stopped_by true t x e = (cc, cc)
stopped_by false t x e = (refl, cc)

module _ (trace : List ℕ) where
  pub stopped : (x : Refusal) → replay_of trace ≡ Err x → (is_trace trace ≡ false) × (x ≡ Block)
  stopped x e = stopped_by (is_trace trace) _ x e

  pub not_trace : (room : ℕ) → is_trace trace ≡ false → export_of room trace ≡ Err Block
  unfolding export_of
  not_trace room e = refused _ _ _ (ap not e)

  pub not_written : (room : ℕ) → is_trace trace ≡ true → can_write trace ≡ false → export_of room trace ≡ Err Export
  unfolding export_of
  not_written room e f = goes_on _ _ _ (ap not e) ∙ refused _ _ _ (ap not f)

  pub no_room : (room : ℕ) → is_trace trace ≡ true → can_write trace ≡ true → room < length (capture_of (records_of trace)) → export_of room trace ≡ Err Room
  unfolding export_of
  no_room room e f h = goes_on _ _ _ (ap not e) ∙ goes_on _ _ _ (ap not f) ∙ refused _ _ _ (lt-ltb _ _ h)

  pub exported : (room : ℕ) → is_trace trace ≡ true → can_write trace ≡ true → length (capture_of (records_of trace)) ≤ room
      → export_of room trace ≡ Ok (length (capture_of (records_of trace)))
  unfolding export_of
  exported room e f h = goes_on _ _ _ (ap not e) ∙ goes_on _ _ _ (ap not f) ∙ goes_on _ _ _ (le-ltb _ _ h)

  -- what was lent
  pub export_refused : (out : List ℕ) {x : Refusal} → export_of (length out) trace ≡ Err x
      → (Err x ≡ export_of (length out) trace) × (out ≡ out_after_export out trace)
  export_refused out e = (sym e, ap (λ (w : Result ℕ Refusal). lent_by w out (over out 0 (capture_of (records_of trace)))) (sym e))

  pub export_done : (out out' : List ℕ) {n : ℕ} → export_of (length out) trace ≡ Ok n → out' ≡ over out 0 (capture_of (records_of trace))
      → (Ok n ≡ export_of (length out) trace) × (out' ≡ out_after_export out trace)
  export_done out out' e put = (sym e, put ∙ ap (λ (w : Result ℕ Refusal). lent_by w out (over out 0 (capture_of (records_of trace)))) (sym e))

-- ---- A BLOCK
module _ (rs s : List ℕ) where
  pub not_accepted : accepts (reader_of rs) s ≡ false → export_block_of rs s ≡ Err Block
  unfolding export_block_of
  not_accepted e = refused _ _ _ (ap not e)

  pub block_unwritable : accepts (reader_of rs) s ≡ true → are_writable (port_behind rs (entries_of s)) (entries_of s) ≡ false → export_block_of rs s ≡ Err Export
  unfolding export_block_of
  block_unwritable e f = goes_on _ _ _ (ap not e) ∙ refused _ _ _ (ap not f)

  pub block_written : accepts (reader_of rs) s ≡ true → are_writable (port_behind rs (entries_of s)) (entries_of s) ≡ true
      → export_block_of rs s ≡ Ok (length (packets_of (entries_of s)))
  unfolding export_block_of
  block_written e f = goes_on _ _ _ (ap not e) ∙ goes_on _ _ _ (ap not f)

  -- what was lent
  module _ (out : List ℕ) where
    pub block_refused : {x : Refusal} → export_block_of rs s ≡ Err x
        → (Err x ≡ export_block_of rs s) × ((rs ≡ reader_behind rs s) × (out ≡ packets_behind rs out s))
    block_refused e = (
      sym e,
      (
        ap (λ (w : Result ℕ Refusal). lent_by w rs ((reader_after (reader_of rs) s).next ∷ (reader_after (reader_of rs) s).last ∷ port_behind rs (entries_of s) ∷ [])) (sym e),
        ap (λ (w : Result ℕ Refusal). lent_by w out (over out 0 (packets_of (entries_of s)))) (sym e),
      ),
    )

    pub block_done : (q : Reader) (port n : ℕ) (out' : List ℕ) → verdict_of (reader_of rs) s ≡ Ok q → port ≡ port_behind rs (entries_of s) → weight_of port (entries_of s) ≡ Some n
        → out' ≡ over out 0 (packets_of (entries_of s))
        → (Ok n ≡ export_block_of rs s) × ((q.next ∷ q.last ∷ port ∷ [] ≡ reader_behind rs s) × (out' ≡ packets_behind rs out s))
    block_done q port n out' v is weighed put =
        let w = weighs (port_behind rs (entries_of s)) (entries_of s) n (ap (λ (p : ℕ). weight_of p (entries_of s)) (sym is) ∙ weighed) in
        let e : export_block_of rs s ≡ Ok n = block_written (ap is_sound v) w.0 ∙ ap Ok w.1 in
        let r = (sound_laid (reader_of rs) s q v).1 in (
          sym e,
          (
            (λ i. (sym r i).next ∷ (sym r i).last ∷ is i ∷ [])
                ∙ ap (λ (w : Result ℕ Refusal). lent_by w rs ((reader_after (reader_of rs) s).next ∷ (reader_after (reader_of rs) s).last ∷ port_behind rs (entries_of s) ∷ [])) (sym e),
            put ∙ ap (λ (w : Result ℕ Refusal). lent_by w out (over out 0 (packets_of (entries_of s)))) (sym e),
          ),
        )
