-- Records cut into blocks: all of them are there, in their order; every block holds at least one record and has room for its own; and each is filled
-- while the next record fits. No other way to cut them is like that.
use Prim.Native.Nat.{◌+◌, ◌≤◌}
use mathlib.Core.Path.{◌≡◌, ◌∙◌, refl, sym, ap, subst}
use mathlib.Core.List.{List, [], ◌∷◌, ◌++◌, flatten, append_assoc, append-nil}
use mathlib.Core.Bool.{Bool, true, false}
use native.Mathlib.Omega.{arith}
use lib.ListN.{length-append}
use borrow.Author.Tests.{le-leb, leb-true}
use Rattle.refusal.specs.Choice.{pick}
use Rattle.block.specs.Layout.{records_at, block_octets, Entry}
use Rattle.block.specs.Making.{size_of, sizes_of, All}
use Rattle.block.proofs.Made.{sizes_snoc}
use Rattle.traces.specs.Taped.{has_room, cut_from, cut, IsShort, IsHeld, Filled, none, last, more}

-- a choice whose test is known
pub chosen : {A : Type 0} {b : Bool} (x y : A) → b ≡ true → pick b x y ≡ x
chosen x y e = rw e

pub other : {A : Type 0} {b : Bool} (x y : A) → b ≡ false → pick b x y ≡ y
other x y e = rw e

-- ---- ALL ARE THERE
flat_from : (held es : List Entry) → flatten (cut_from held es) ≡ held ++ es
unfolding cut_from flatten
flat_from held [] = refl
flat_from held (e ∷ es) = by (has_room held e) (flat_from (held ++ (e ∷ [])) es) (flat_from (e ∷ []) es)
  where
    by : (b : Bool) → flatten (cut_from (held ++ (e ∷ [])) es) ≡ (held ++ (e ∷ [])) ++ es → flatten (cut_from (e ∷ []) es) ≡ e ∷ es
        → flatten (pick b (cut_from (held ++ (e ∷ [])) es) (held ∷ cut_from (e ∷ []) es)) ≡ held ++ (e ∷ es)
    by true p q = p ∙ append_assoc held (e ∷ []) es
    by false p q = ap (λ (l : List Entry). held ++ l) q

-- THE RECORDS of the blocks, one after another, are those that were cut
pub all_there : (es : List Entry) → flatten (cut es) ≡ es
unfolding flatten
all_there [] = refl
all_there (e ∷ es) = flat_from (e ∷ []) es

-- ---- EACH IS FILLED
-- one record alone, where it is not too long; one more, where it has room
pub one_held : (e : Entry) → IsShort e → IsHeld (e ∷ [])
unfolding sizes_of
one_held e h = record { some = omega arith; room = omega arith }

pub more_held : (held : List Entry) (e : Entry) → has_room held e ≡ true → IsHeld (held ++ (e ∷ []))
more_held held e f =
    record {
      some = omega (arith, length-append held (e ∷ []));
      room = omega (arith, sizes_snoc held e, leb-true (records_at + (sizes_of held + size_of e)) block_octets f);
    }

-- the first block begins with what was held
begins : (e : Entry) (hs es : List Entry) → (rest : List Entry) × (bs : List (List Entry)) × (cut_from (e ∷ hs) es ≡ (e ∷ rest) ∷ bs)
unfolding cut_from
begins e hs [] = (hs, [], refl)
begins e hs (d ∷ es) = by (has_room (e ∷ hs) d) (begins e (hs ++ (d ∷ [])) es)
  where
    by : (b : Bool) → ((rest : List Entry) × (bs : List (List Entry)) × (cut_from (e ∷ (hs ++ (d ∷ []))) es ≡ (e ∷ rest) ∷ bs))
        → (rest : List Entry) × (bs : List (List Entry)) × (pick b (cut_from (e ∷ (hs ++ (d ∷ []))) es) ((e ∷ hs) ∷ cut_from (d ∷ []) es) ≡ (e ∷ rest) ∷ bs)
    by true p = p
    by false p = (hs, cut_from (d ∷ []) es, refl)

-- a full block before others
before : (held : List Entry) (e : Entry) (es : List Entry) → IsHeld held → has_room held e ≡ false
    → Filled (cut_from (e ∷ []) es) → Filled (held ∷ cut_from (e ∷ []) es)
before held e es h f p =
    let b = begins e [] es in
    subst (λ (bs : List (List Entry)). Filled (held ∷ bs)) (sym b.2) (more h f (subst Filled b.2 p))

filled_from : (held es : List Entry) → IsHeld held → All IsShort es → Filled (cut_from held es)
unfolding cut_from
filled_from held [] h s = last h
filled_from held (e ∷ es) h s = by (has_room held e) refl (λ k. filled_from (held ++ (e ∷ [])) es k s.1) (filled_from (e ∷ []) es (one_held e s.0) s.1)
  where
    by : (b : Bool) → has_room held e ≡ b → (IsHeld (held ++ (e ∷ [])) → Filled (cut_from (held ++ (e ∷ [])) es)) → Filled (cut_from (e ∷ []) es)
        → Filled (pick b (cut_from (held ++ (e ∷ [])) es) (held ∷ cut_from (e ∷ []) es))
    by true f p q = p (more_held held e f)
    by false f p q = before held e es h f q

-- EVERY BLOCK holds a record and has room for its own, and the first record of the next had none
pub filled : (es : List Entry) → All IsShort es → Filled (cut es)
filled [] s = none
filled (e ∷ es) s = filled_from (e ∷ []) es (one_held e s.0) s.1

-- ---- NO OTHER WAY
-- what has room goes into the block that is open
fill : (held es rest : List Entry) → records_at + (sizes_of held + sizes_of es) ≤ block_octets → cut_from held (es ++ rest) ≡ cut_from (held ++ es) rest
unfolding cut_from sizes_of
fill held [] rest h = ap (λ (l : List Entry). cut_from l rest) (sym (append-nil held))
fill held (e ∷ es) rest h =
    chosen _ _ (le-leb (records_at + (sizes_of held + size_of e)) block_octets (omega arith))
    ∙ fill (held ++ (e ∷ [])) es rest (omega (arith, sizes_snoc held e))
    ∙ ap (λ (l : List Entry). cut_from l rest) (append_assoc held (e ∷ []) es)

fill_first : (e : Entry) (es rest : List Entry) → IsHeld (e ∷ es) → cut_from (e ∷ []) (es ++ rest) ≡ cut_from (e ∷ es) rest
unfolding sizes_of
fill_first e es rest h = fill (e ∷ []) es rest (omega (arith, h.room))

-- a full block alone, and before another
alone : (es : List Entry) → IsHeld es → cut (es ++ []) ≡ es ∷ []
unfolding cut_from
alone [] h = absurd (omega (arith, h.some))
alone (e ∷ es) h = fill_first e es [] h

onward : (es : List Entry) (e : Entry) (rest : List Entry) → IsHeld es → has_room es e ≡ false → cut (es ++ (e ∷ rest)) ≡ es ∷ cut (e ∷ rest)
unfolding cut_from
onward [] e rest h f = absurd (omega (arith, h.some))
onward (d ∷ es) e rest h f = fill_first d es (e ∷ rest) h ∙ other _ _ f

-- BLOCKS THAT ARE FILLED are what their records are cut into
pub only_cut : (bs : List (List Entry)) → Filled bs → cut (flatten bs) ≡ bs
unfolding flatten
only_cut bs none = refl
only_cut bs (last {es} h) = alone es h
only_cut bs (more {es} {e} {rest} {bs = ds} h f p) =
    onward es e (rest ++ flatten ds) h f ∙ ap (λ (l : List (List Entry)). es ∷ l) (only_cut ((e ∷ rest) ∷ ds) p)
