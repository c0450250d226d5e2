-- Frames, one after another: what each gives, behind what those before it gave.
use Rattle.std.specs.Prelude.{Result, Ok, Err}
use Prim.Native.Nat.{ℕ, ◌+◌, ◌≤◌}
use mathlib.Core.Path.{◌≡◌, ◌∙◌, refl, sym, ap}
use mathlib.Core.List.{List, [], ◌∷◌, ◌++◌}
use mathlib.Core.Bool.{Bool, true, false}
use native.Mathlib.Omega.{arith}
use lib.Dec.{leb, eqb}
use lib.ListN.{length, length-append}
use borrow.Author.Tests.{leb-true}
use Rattle.laws.proofs.Bools.{both}
use Rattle.refusal.specs.declared.Refusal.{Refusal}
use Rattle.octets.specs.Be.{be}
use Rattle.stores.specs.Stores.{over}
use Rattle.stores.proofs.Buffer.{put_two}
use Rattle.block.specs.Layout.{Entry}
use Rattle.recording.specs.Recording.{next_of, record_check, recorded_of, open_after, words_after, out_after}
use Rattle.traces.specs.Taped.{given_by, taped_all}
use Rattle.traces.proofs.Given.{given_closed, given_none}
use Rattle.pcap.specs.File.{Frame}
use Rattle.importing.specs.Importing.{frame_head, is_ptp, entry_by, frame_check, frame_recorded, open_behind, words_behind, out_behind, came_out, last_out, taken_of, or_else, records_check, words_after_all, weight_by}
use Rattle.importing.proofs.Tapes.{remains, remains_more, over_length}

-- a frame that is taken has its head
pub has_head : (s : List ℕ) → is_ptp s ≡ true → 14 ≤ length s
unfolding is_ptp
has_head s e = leb-true 14 (length s) (both (leb frame_head (length s)) (eqb (be 2 s 12) 0x88F7) e).0

-- ---- WHAT COMES OUT
-- of a record: what the tape gives
came_by : (opened ws out : List ℕ) (e : Entry) (r : Result Bool Refusal) → recorded_of ws e ≡ r
    → came_out r (out_after opened ws e out) ≡ given_by (record_check ws e) opened ws e
came_by opened ws out e (Err x) h =
    sym (given_none opened out ws e (λ g. let z : ◌≡◌ {A = ℕ} 0 1 = cc in omega arith)).0
came_by opened ws out e (Ok false) h =
    sym (given_none opened out ws e (λ g. let z : ◌≡◌ {A = ℕ} 0 1 = cc in omega arith)).0
came_by opened ws out e (Ok true) h = sym (given_closed opened out ws e h)

-- of a frame, and then of those behind it
module _ (opened ws out : List ℕ) (port : ℕ) (x : Frame) (xs : List Frame) where
  frame_by : (b : Bool) → is_ptp x.octets ≡ b
      → remains opened ws (taken_of port (x ∷ xs))
      ≡ came_out (frame_recorded ws port x) (out_behind opened ws port x out) ++ remains (open_behind opened ws port x) (words_behind ws port x) (taken_of port xs)
  unfolding taken_of
  frame_by true e =
      let r = entry_by port x in
      rw e
      (remains_more opened ws r (taken_of port xs)
      ∙ ap (λ (l : List ℕ). l ++ remains (open_after opened ws r) (words_after ws r) (taken_of port xs)) (sym (came_by opened ws out r (recorded_of ws r) refl)))
  frame_by false e = rw e

  pub frame_more : remains opened ws (taken_of port (x ∷ xs))
      ≡ came_out (frame_recorded ws port x) (out_behind opened ws port x out) ++ remains (open_behind opened ws port x) (words_behind ws port x) (taken_of port xs)
  frame_more = frame_by (is_ptp x.octets) refl

  -- as the code has it
  pub frame_stored : {told : Result Bool Refusal} {opened' ws' out' : List ℕ} → told ≡ frame_recorded ws port x
      → opened' ≡ open_behind opened ws port x → ws' ≡ words_behind ws port x → out' ≡ out_behind opened ws port x out
      → remains opened ws (taken_of port (x ∷ xs)) ≡ came_out told out' ++ remains opened' ws' (taken_of port xs)
  frame_stored et eo ew eb = frame_more ∙ (λ i. came_out (sym et i) (sym eb i) ++ remains (sym eo i) (sym ew i) (taken_of port xs))

-- what comes out goes behind what came out before: there is room for it and for the others, and all is put as one
pub put_next : (d : List ℕ) (to : ℕ) (x y : List ℕ) {o : List ℕ} {k : ℕ} → to + length (x ++ y) ≤ length d → k ≡ to + length x → o ≡ over d to x
    → (k + length y ≤ length o) × (over o k y ≡ over d to (x ++ y))
put_next d to x y h ek eo =
    let n = length-append x y in
    let l = ap length eo ∙ over_length d to x (omega arith) in
    (omega arith, put_two d to (omega arith) x y ek refl refl eo refl)

-- there is none left: the open block is
pub remains_last : (opened ws : List ℕ) (port : ℕ) → remains opened ws (taken_of port []) ≡ last_out opened ws
unfolding taken_of taped_all
remains_last opened ws port = refl

-- ---- HOW MANY BLOCKS
-- what frames come to, from some words on
abbrev pub weight_from : List ℕ → ℕ → List Frame → Result ℕ Refusal
weight_from ws port xs = weight_by (records_check ws (taken_of port xs)) (next_of (words_after_all ws (taken_of port xs)))

pub weight_end : (ws : List ℕ) (port : ℕ) → weight_from ws port [] ≡ Ok (next_of ws)
unfolding taken_of records_check words_after_all
weight_end ws port = refl

module _ (ws : List ℕ) (port : ℕ) (x : Frame) (xs : List Frame) where
  weight_by_lem : (b : Bool) → is_ptp x.octets ≡ b
      → weight_from ws port (x ∷ xs)
      ≡ weight_by (or_else (frame_check ws port x) (records_check (words_behind ws port x) (taken_of port xs))) (next_of (words_after_all (words_behind ws port x) (taken_of port xs)))
  unfolding taken_of records_check words_after_all
  weight_by_lem true e = rw e
  weight_by_lem false e = rw e

  -- the first that is refused
  pub weight_stop : (y : Refusal) → frame_check ws port x ≡ Err y → weight_from ws port (x ∷ xs) ≡ Err y
  weight_stop y h =
      weight_by_lem (is_ptp x.octets) refl
      ∙ ap (λ (o : Result (Unit {0}) Refusal). weight_by (or_else o (records_check (words_behind ws port x) (taken_of port xs))) (next_of (words_after_all (words_behind ws port x) (taken_of port xs)))) h

  -- one that is not
  pub weight_more : frame_check ws port x ≡ Ok tt → weight_from ws port (x ∷ xs) ≡ weight_from (words_behind ws port x) port xs
  weight_more h =
      weight_by_lem (is_ptp x.octets) refl
      ∙ ap (λ (o : Result (Unit {0}) Refusal). weight_by (or_else o (records_check (words_behind ws port x) (taken_of port xs))) (next_of (words_after_all (words_behind ws port x) (taken_of port xs)))) h
