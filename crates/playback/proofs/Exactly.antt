-- TWENTY EXACTLY WHEN: a block is refused where it fails one of the four tests, and a trace where one of its blocks does behind those before it.
use Rattle.std.specs.Prelude.{Result, Ok, Err}
use Prim.Native.Nat.{ℕ}
use mathlib.Core.Path.{◌≡◌, refl, sym, ap, subst, ◌∙◌}
use mathlib.Core.List.{List, [], ◌∷◌}
use mathlib.Core.Bool.{Bool, true, false, not, ◌&&◌, and-false}
use mathlib.Core.Logic.{◌⊎◌, inl, inr}
use native.Mathlib.Omega.{arith}
use borrow.Author.Tests.{not-true, not-false, eqb-true, eq-eqb, leb-true, leb-false, le-leb, lt-leb}
use Rattle.laws.proofs.Bools.{both}
use Rattle.refusal.specs.Choice.{refuse}
use Rattle.refusal.specs.Refusal.{code_of}
use Rattle.refusal.specs.declared.Refusal.TheVariants.{Block}
use Rattle.block.specs.Layout.{entries_of}
use Rattle.block.specs.Check.{is_checked}
use Rattle.judging.specs.Tests.{is_whole, fails_check, is_laid, is_next, is_in_order, reader_after, verdict_of}
use Rattle.judging.specs.declared.Reader.{Reader}
use Rattle.judging.specs.declared.Flaw.TheVariants as verdict
use Rattle.playback.specs.Playback.{is_sound, accepts, block_check, accepts_all, blocks_in, fresh_reader, is_trace, replay_of}
use Rattle.playback.specs.When.{replayed_code, BlockWhen, unchecked, unlaid, unnumbered, untimed, sound, BlocksWhen, none, stopped, behind, TraceWhen}
use Rattle.refusal.specs.declared.Refusal.{Refusal}

-- ---- a block
abbrev number_by : Bool → ℕ
number_by true = 0
number_by false = 20

code_by : (b : Bool) → code_of (refuse (not b) (Err Block) (Ok tt)) ≡ number_by b
unfolding refuse
code_by true = refl
code_by false = refl

module _ (r : Reader) (s : List ℕ) where
  accepts_by : (a b c d : Bool) (x : Reader)
      → is_sound (refuse a (Err verdict.Check) (refuse (not b) (Err verdict.Layout) (refuse (not c) (Err verdict.Number) (refuse (not d) (Err verdict.Time) (Ok x))))) ≡ (not a && (b && (c && d)))
  unfolding refuse
  accepts_by true b c d x = refl
  accepts_by false false c d x = refl
  accepts_by false true false d x = refl
  accepts_by false true true false x = refl
  accepts_by false true true true x = refl

  -- accepted where it passes all four
  pub accepts_is : accepts r s ≡ (not (fails_check s) && (is_laid s && (is_next r.next s && is_in_order r.last (entries_of s))))
  unfolding verdict_of
  accepts_is = accepts_by (fails_check s) (is_laid s) (is_next r.next s) (is_in_order r.last (entries_of s)) (reader_after r s)

  told_by_lem : (a b c d : Bool) → fails_check s ≡ a → is_laid s ≡ b → is_next r.next s ≡ c → is_in_order r.last (entries_of s) ≡ d
      → BlockWhen r s (number_by (not a && (b && (c && d))))
  unfolding is_laid
  told_by_lem true b c d ea eb ec ed = let k = both (is_whole s) (not (is_checked s)) ea in unchecked (eqb-true _ _ k.0) (not-true _ k.1)
  told_by_lem false false c d ea eb ec ed = unlaid eb
  told_by_lem false true false d ea eb ec ed = unnumbered (leb-false _ _ ec)
  told_by_lem false true true false ea eb ec ed = untimed ed
  told_by_lem false true true true ea eb ec ed =
      let whole = (both (is_whole s) _ eb).0 in
      sound (not-false _ (ap (λ (w : Bool). w && not (is_checked s)) (sym whole) ∙ ea)) eb (leb-true _ _ ec) ed

  block_number : BlockWhen r s (number_by (accepts r s))
  block_number =
      subst (λ (b : Bool). BlockWhen r s (number_by b)) (sym accepts_is)
      (told_by_lem (fails_check s) (is_laid s) (is_next r.next s) (is_in_order r.last (entries_of s)) refl refl refl refl)

  fails : (a b c d : Bool) → (a ≡ true) ⊎ ((b ≡ false) ⊎ ((c ≡ false) ⊎ (d ≡ false))) → (not a && (b && (c && d))) ≡ false
  fails a b c d (inl e) = rw e
  fails a b c d (inr (inl e)) = rw e (and-false (not a))
  fails a b c d (inr (inr (inl e))) = rw e (ap (λ (t : Bool). not a && t) (and-false b) ∙ and-false (not a))
  fails a b c d (inr (inr (inr e))) =
      rw e (ap (λ (t : Bool). not a && (b && t)) (and-false c) ∙ ap (λ (t : Bool). not a && t) (and-false b) ∙ and-false (not a))

  refused : (fails_check s ≡ true) ⊎ ((is_laid s ≡ false) ⊎ ((is_next r.next s ≡ false) ⊎ (is_in_order r.last (entries_of s) ≡ false))) → number_by (accepts r s) ≡ 20
  refused one = ap number_by (accepts_is ∙ fails (fails_check s) (is_laid s) (is_next r.next s) (is_in_order r.last (entries_of s)) one)

  number_block : (n : ℕ) → BlockWhen r s n → number_by (accepts r s) ≡ n
  number_block n (unchecked l e) = refused (inl (let f : fails_check s ≡ true = rw (eq-eqb _ _ l, e) in f))
  number_block n (unlaid e) = refused (inr (inl e))
  number_block n (unnumbered h) = refused (inr (inr (inl (lt-leb _ _ h))))
  number_block n (untimed e) = refused (inr (inr (inr e)))
  number_block n (sound k l h e) =
      let all : (not (fails_check s) && (is_laid s && (is_next r.next s && is_in_order r.last (entries_of s)))) ≡ true =
      rw (k, and-false, l, le-leb _ _ h, e) in
      ap number_by (accepts_is ∙ all)

  -- THE NUMBER GIVEN HAS ITS LINE ..
  pub block_told : BlockWhen r s (code_of (block_check r s))
  block_told = subst (BlockWhen r s) (sym (code_by (accepts r s))) block_number

  -- .. AND A LINE THAT HOLDS IS THE NUMBER GIVEN
  pub when_block : (n : ℕ) → BlockWhen r s n → code_of (block_check r s) ≡ n
  when_block n w = code_by (accepts r s) ∙ number_block n w

-- ---- a trace
blocks_number : (r : Reader) (bs : List (List ℕ)) → BlocksWhen r bs (number_by (accepts_all r bs))
unfolding accepts_all
blocks_number r [] = none
blocks_number r (b ∷ bs) = go (accepts r b) (block_number r b) (blocks_number (reader_after r b) bs)
  where
    go : (t : Bool) → BlockWhen r b (number_by t) → BlocksWhen (reader_after r b) bs (number_by (accepts_all (reader_after r b) bs))
        → BlocksWhen r (b ∷ bs) (number_by (t && accepts_all (reader_after r b) bs))
    go true w v = behind w v
    go false w v = stopped w

accepted_by : (t : Bool) (n : ℕ) → number_by t ≡ n → n ≡ 0 → t ≡ true
accepted_by true n e z = refl
accepted_by false n e z = absurd (omega arith)

refused_by : (t : Bool) (n : ℕ) → number_by t ≡ n → n ≡ 20 → t ≡ false
refused_by true n e z = absurd (omega arith)
refused_by false n e z = refl

number_blocks : {r : Reader} {bs : List (List ℕ)} {n : ℕ} → BlocksWhen r bs n → number_by (accepts_all r bs) ≡ n
unfolding accepts_all
number_blocks none = refl
number_blocks {r} (stopped {b} {bs} w) = rw (refused_by (accepts r b) 20 (number_block r b 20 w) refl)
number_blocks {r} (behind {b} {bs} {n} w v) = rw (accepted_by (accepts r b) 0 (number_block r b 0 w) refl) (number_blocks v)

trace_by_lem : (b : Bool) (t : ℕ) → replayed_code (refuse (not b) (Err Block) (Ok t)) ≡ number_by b
unfolding refuse
trace_by_lem true t = refl
trace_by_lem false t = refl

module _ (s : List ℕ) where
  -- THE NUMBER GIVEN HAS ITS LINE ..
  pub trace_told : TraceWhen s (replayed_code (replay_of s))
  trace_told = subst (TraceWhen s) (sym (trace_by_lem (is_trace s) _)) (blocks_number fresh_reader (blocks_in s))

  -- .. AND A LINE THAT HOLDS IS THE NUMBER GIVEN
  pub when_trace : (n : ℕ) → TraceWhen s n → replayed_code (replay_of s) ≡ n
  when_trace n w = trace_by_lem (is_trace s) _ ∙ number_blocks w

  -- so 20 is given exactly when some block fails one of the tests behind those before it
  pub twenty : replay_of s ≡ Err Block → TraceWhen s 20
  twenty e = subst (λ (a : Result ℕ Refusal). TraceWhen s (replayed_code a)) e trace_told

  pub when_twenty : TraceWhen s 20 → replay_of s ≡ Err Block
  unfolding refuse
  when_twenty w = rw (refused_by (is_trace s) 20 (number_blocks w) refl)
