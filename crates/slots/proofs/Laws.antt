-- Laws of the layout: parts that are lent, tables of slots, and a block of words put anew.
use Rattle.std.specs.Prelude.{Some, None, Result, Ok, Err, cond, not, position}
use Rattle.std.specs.List.{position_or_len}
use Rattle.std.proofs.lemmas.List.{take_all}
use Rattle.std.proofs.lemmas.List.Quantifiers.{position-Some}
use mathlib.Core.Path.{◌≡◌, refl, ap, ◌∙◌, sym}
use mathlib.Core.Bool.{Bool, true, false}
use mathlib.Core.List.{List, [], ◌∷◌, ◌++◌, map, append_assoc}
use Prim.Native.Nat.{ℕ, zero, suc, ◌+◌, ◌-◌, ◌*◌, ◌≤◌, ◌<◌, zero-le, suc-le-suc}
use native.Mathlib.Nat.{le_of_suc-le-suc, not-suc-le-zero, add-sub_cancel_left}
use native.Mathlib.Omega.{arith}
use lib.ListN.{length, get_or, set, take, drop, length-append, length-take, length-drop, get_or-append}
use lib.Seq.{drop-drop, length-take-le, drop_at, take_at, get_or-take, get_or-drop, ext_get_or}
use borrow.Author.Tests.{ltb-false}
use Rattle.refusal.specs.Choice.{pick}
use borrow.Rule.Slice.PartMut.{put_mid, Post-is}
use Rattle.std.specs.Simd.{first_chunks}
use Rattle.senders.specs.declared.Record.{Record}
use Rattle.senders.specs.Port.{tab, first, empty_slot, outcome_of}
use Rattle.senders.proofs.First.{first_hit, first_none}
use Rattle.refusal.specs.declared.Refusal.{Refusal}
use Rattle.slots.specs.Words.{block, splice, put_slot, words_after, begin_of, of_six, record_of, records_of, slot_at, slots_of}

-- what the borrow checker says of a part that is lent, `&ws[b..b + n]` and `&mut ws[b..b + n]`, in the layout's terms
pub lent : (ws : List ℕ) (b n : ℕ) → take (b + n - b) (drop b ws) ≡ block ws b n
lent ws b n = ap (λ (k : ℕ). take k (drop b ws)) (add-sub_cancel_left b n)

pub back : (ws vs : List ℕ) (b n : ℕ) → put_mid b (b + n - b) ws vs ≡ splice ws b n vs
back ws vs b n = ap (λ (z : List ℕ). take b ws ++ (vs ++ z)) (Post-is b (b + n) ws (omega arith))

-- six stores fill a list of six
pub six : (l : List ℕ) (a b c d e f : ℕ) → length l ≡ 6
    → set (set (set (set (set (set l 0 a) 1 b) 2 c) 3 d) 4 e) 5 f ≡ a ∷ b ∷ c ∷ d ∷ e ∷ f ∷ []
six [] a b c d e f h = absurd (omega arith)
six (_ ∷ []) a b c d e f h = absurd (omega arith)
six (_ ∷ _ ∷ []) a b c d e f h = absurd (omega arith)
six (_ ∷ _ ∷ _ ∷ []) a b c d e f h = absurd (omega arith)
six (_ ∷ _ ∷ _ ∷ _ ∷ []) a b c d e f h = absurd (omega arith)
six (_ ∷ _ ∷ _ ∷ _ ∷ _ ∷ []) a b c d e f h = absurd (omega arith)
six (_ ∷ _ ∷ _ ∷ _ ∷ _ ∷ _ ∷ []) a b c d e f h = refl
six (_ ∷ _ ∷ _ ∷ _ ∷ _ ∷ _ ∷ x ∷ l) a b c d e f h = absurd (omega arith)

-- ---- tables
pub length_tab : {A : Type 0} (n : ℕ) (f : ℕ → A) → length (tab n f) ≡ n
unfolding tab
length_tab zero f = refl
length_tab (suc n) f = ap suc (length_tab n (λ k. f (suc k)))

pub get_d_tab : {A : Type 0} (n : ℕ) (f : ℕ → A) (i : ℕ) (d : A) → i < n → get_or (tab n f) i d ≡ f i
unfolding tab
get_d_tab zero f i d h = absurd (not-suc-le-zero h)
get_d_tab (suc n) f zero d h = refl
get_d_tab (suc n) f (suc i) d h = get_d_tab n (λ k. f (suc k)) i d (le_of_suc-le-suc h)

pub get_d_past : {A : Type 0} (n : ℕ) (f : ℕ → A) (i : ℕ) (d : A) → n ≤ i → get_or (tab n f) i d ≡ d
unfolding tab
get_d_past zero f i d h = refl
get_d_past (suc n) f zero d h = absurd (not-suc-le-zero h)
get_d_past (suc n) f (suc i) d h = get_d_past n (λ k. f (suc k)) i d (le_of_suc-le-suc h)

pub tab_ext : {A : Type 0} (n : ℕ) (f g : ℕ → A) → ((i : ℕ) → i < n → f i ≡ g i) → tab n f ≡ tab n g
unfolding tab
tab_ext zero f g e = refl
tab_ext {A} (suc n) f g e =
    ap (λ (x : A). x ∷ tab n (λ k. f (suc k))) (e 0 (suc-le-suc zero-le))
    ∙ ap (λ (l : List A). g 0 ∷ l) (tab_ext n (λ k. f (suc k)) (λ k. g (suc k)) (λ i h. e (suc i) (suc-le-suc h)))

-- the table with one entry put anew is the table of the new entries
pub set_tab : {A : Type 0} (n : ℕ) (f g : ℕ → A) (i : ℕ) → ((k : ℕ) → (k ≡ i → ⊥) → k < n → g k ≡ f k) → set (tab n f) i (g i) ≡ tab n g
unfolding tab
set_tab zero f g i e = refl
set_tab {A} (suc n) f g zero e =
    ap (λ (l : List A). g 0 ∷ l) (tab_ext n (λ k. f (suc k)) (λ k. g (suc k)) (λ k h. sym (e (suc k) (λ z. omega arith) (suc-le-suc h))))
set_tab {A} (suc n) f g (suc i) e =
    ap (λ (x : A). x ∷ set (tab n (λ k. f (suc k))) i (g (suc i))) (sym (e 0 (λ z. omega arith) (suc-le-suc zero-le)))
    ∙ ap (λ (l : List A). g 0 ∷ l) (set_tab n (λ k. f (suc k)) (λ k. g (suc k)) i (λ k z h. e (suc k) (λ q. z (omega arith)) (suc-le-suc h)))

-- what a loop over the slots has found
module _ (test : Record → Bool) (n : ℕ) (f : ℕ → Record) where
  pub tab_hit : (i : ℕ) → ((k : ℕ) → k < i → test (f k) ≡ false) → i < n → test (f i) ≡ true → first test (tab n f) ≡ i
  tab_hit i miss h hit =
      first_hit test empty_slot (tab n f) i
      (λ k g. ap test (get_d_tab n f k empty_slot (omega arith)) ∙ miss k g)
      (rw (length_tab n f) h)
      (ap test (get_d_tab n f i empty_slot h) ∙ hit)

  pub tab_none : ((k : ℕ) → k < n → test (f k) ≡ false) → first test (tab n f) ≡ n
  tab_none miss =
      first_none test empty_slot (tab n f)
      (λ k g. let h : k < n = rw (length_tab n f) at g in ap test (get_d_tab n f k empty_slot h) ∙ miss k h)
      ∙ length_tab n f

-- ---- a block of words put anew: that block, and each block beside it
module _ (ws vs : List ℕ) (b n : ℕ) (lv : length vs ≡ n) (fits : b + n ≤ length ws) where
  head_length : length (take b ws) ≡ b
  head_length = length-take-le b ws (omega arith)

  pub length_splice : length (splice ws b n vs) ≡ length ws
  length_splice =
      let h = head_length in
      simp (length-append, length-drop) (omega arith)

  pub block_same : block (splice ws b n vs) b n ≡ vs
  block_same = ap (take n) (drop_at (take b ws) (vs ++ drop (b + n) ws) b head_length) ∙ take_at vs (drop (b + n) ws) n lv

  tail_same : drop (b + n) (splice ws b n vs) ≡ drop (b + n) ws
  tail_same =
      ap (drop (b + n)) (sym (append_assoc (take b ws) vs (drop (b + n) ws)))
      ∙ drop_at (take b ws ++ vs) (drop (b + n) ws) (b + n) (length-append (take b ws) vs ∙ (let h = head_length in omega arith))

  pub block_after : (c m : ℕ) → b + n ≤ c → block (splice ws b n vs) c m ≡ block ws c m
  block_after c m h =
      let e : c ≡ b + n + (c - (b + n)) = omega arith in
      let k = c - (b + n) in
      ap (λ (z : ℕ). take m (drop z (splice ws b n vs))) e
      ∙ ap (take m) (sym (drop-drop k (b + n) (splice ws b n vs)) ∙ ap (drop k) tail_same ∙ drop-drop k (b + n) ws)
      ∙ ap (λ (z : ℕ). take m (drop z ws)) (sym e)

  pub get_d_before : (i : ℕ) → i < b → get_or (splice ws b n vs) i 0 ≡ get_or ws i 0
  get_d_before i h =
      get_or-append (take b ws) (vs ++ drop (b + n) ws) 0 i (let l = head_length in omega arith) ∙ get_or-take b ws i 0 h

  pub block_before : (c m : ℕ) → c + m ≤ b → block (splice ws b n vs) c m ≡ block ws c m
  block_before c m h =
      ext_get_or 0 (block (splice ws b n vs) c m) (block ws c m)
      (simp (length-take, length-drop, length_splice))
      (λ i g.
      let i<m : i < m = omega (arith, simp length-take at g) in
      get_or-take m (drop c (splice ws b n vs)) i 0 i<m
      ∙ get_or-drop c (splice ws b n vs) i 0
      ∙ get_d_before (c + i) (omega arith)
      ∙ sym (get_or-take m (drop c ws) i 0 i<m ∙ get_or-drop c ws i 0))

-- ---- what a plan does, by its case
pub refused : (ws : List ℕ) (t : ℕ) (q p : Result (ℕ × Record) Refusal) (x : Refusal) → q ≡ p → q ≡ Err x → (Err x ≡ outcome_of p) × (ws ≡ words_after ws t p)
refused ws t q p x e f =
    let g : Err x ≡ p = sym f ∙ e in
    (ap outcome_of g, ap (words_after ws t) g)

pub put : (ws : List ℕ) (t : ℕ) (q p : Result (ℕ × Record) Refusal) (i : ℕ) (r : Record) → q ≡ p → q ≡ Ok (i, r)
    → (Ok tt ≡ outcome_of p) × (set (put_slot ws i r) 0 t ≡ words_after ws t p)
put ws t q p i r e f =
    let g : Ok (i, r) ≡ p = sym f ∙ e in
    (ap outcome_of g, ap (words_after ws t) g)

-- ---- words as arrays, one behind the other
pub chunk_at : {X : Type 0} (n k i : ℕ) (xs : List X) → i < k → get_or (first_chunks n k xs) i [] ≡ take n (drop (n * i) xs)
chunk_at n zero i xs h = absurd (omega arith)
chunk_at {X} n (suc k) zero xs h =
    let e : 0 ≡ n * 0 = omega arith in
    ap (λ (j : ℕ). take n (drop j xs)) e
chunk_at {X} n (suc k) (suc i) xs h =
    let e : n + n * i ≡ n * suc i = omega arith in
    chunk_at n k i (drop n xs) (omega arith) ∙ ap (take n) (drop-drop (n * i) n xs ∙ ap (λ (j : ℕ). drop j xs) e)

pub chunks_tab : {X : Type 0} (n k : ℕ) (xs : List X) → first_chunks n k xs ≡ tab k (λ i. take n (drop (n * i) xs))
unfolding tab
chunks_tab n zero xs = refl
chunks_tab {X} n (suc k) xs =
    let e : 0 ≡ n * 0 = omega arith in
    ap (λ (l : List (List X)). take n xs ∷ l)
    (chunks_tab n k (drop n xs)
    ∙ tab_ext k (λ i. take n (drop (n * i) (drop n xs))) (λ i. take n (drop (n * suc i) xs))
    (λ i h. let f : n + n * i ≡ n * suc i = omega arith in ap (take n) (drop-drop (n * i) n xs ∙ ap (λ (j : ℕ). drop j xs) f)))
    ∙ ap (λ (j : ℕ). take n (drop j xs) ∷ tab k (λ i. take n (drop (n * suc i) xs))) e

-- a port's words behind the first two are its records
pub records_are : (ws : List ℕ) (k : ℕ) → length ws ≡ 98 → k ≡ 16 → first_chunks 6 k (take 96 (drop 2 ws)) ≡ records_of ws
unfolding records_of
records_are ws k l e =
    ap (λ (j : ℕ). first_chunks 6 j (take 96 (drop 2 ws))) e
    ∙ ap (first_chunks 6 16) (take_all 96 (drop 2 ws) (omega (arith, length-drop 2 ws)))
    ∙ chunks_tab 6 16 (drop 2 ws)
    ∙ tab_ext 16 (λ i. take 6 (drop (6 * i) (drop 2 ws))) (λ i. take 6 (drop (2 + 6 * i) ws)) (λ i h. ap (take 6) (drop-drop (6 * i) 2 ws))

pub record_is : (ws : List ℕ) (i : ℕ) → i < 16 → get_or (records_of ws) i [] ≡ block ws (begin_of i) 6
unfolding records_of
record_is ws i h = get_d_tab 16 (λ k. block ws (begin_of k) 6) i [] h

pub length_records : (ws : List ℕ) → length (records_of ws) ≡ 16
unfolding records_of
length_records ws = length_tab 16 (λ i. block ws (begin_of i) 6)

map_tab : {X Y : Type 0} (f : X → Y) (n : ℕ) (g : ℕ → X) → map f (tab n g) ≡ tab n (λ i. f (g i))
unfolding tab
map_tab f zero g = refl
map_tab {X} {Y} f (suc n) g = ap (λ (l : List Y). f (g 0) ∷ l) (map_tab f n (λ i. g (suc i)))

map_records : (ws : List ℕ) → map of_six (records_of ws) ≡ slots_of ws
unfolding records_of record_of
map_records ws = map_tab of_six 16 (λ i. block ws (begin_of i) 6)

-- the search for a record gives the lowest slot that passes the test
module _ (test : Record → Bool) (ws : List ℕ) where
  passes_at : (i : ℕ) (b : Bool) → i < 16 → test (of_six (get_or (records_of ws) i [])) ≡ b → test (slot_at ws i) ≡ b
  unfolding record_of
  passes_at i b h e = ap (λ (l : List ℕ). test (of_six l)) (sym (record_is ws i h)) ∙ e

  pub lowest_is : (i : ℕ) → position (λ s. test (of_six s)) (records_of ws) ≡ Some i → (i < 16) × (i ≡ first test (slots_of ws))
  lowest_is i e =
      let w = position-Some (λ s. test (of_six s)) (records_of ws) i [] e in
      let h : i < 16 = omega (arith, w.0, length_records ws) in
      (h, sym (tab_hit test 16 (slot_at ws) i (λ k g. passes_at k false (omega arith) (w.2 k g)) h (passes_at i true h w.1)))

  reached : (b : Bool) (m n : ℕ) → m ≡ n → cond (not b) (1 + m) 0 ≡ pick b 0 (suc n)
  reached true m n e = refl
  reached false m n e = omega arith

  within : (b : Bool) (m n : ℕ) → m ≤ n → cond (not b) (1 + m) 0 ≤ suc n
  within true m n e = zero-le
  within false m n e = omega arith

  place_is : (xs : List (List ℕ)) → position_or_len (λ s. test (of_six s)) xs ≡ first test (map of_six xs)
  unfolding first
  place_is [] = refl
  place_is (x ∷ xs) = reached (test (of_six x)) _ _ (place_is xs)

  place_within : (xs : List (List ℕ)) → position_or_len (λ s. test (of_six s)) xs ≤ length xs
  place_within [] = zero-le
  place_within (x ∷ xs) = within (test (of_six x)) _ _ (place_within xs)

  nowhere : (b : Bool) (n : ℕ) → cond b (Some n) None ≡ None → b ≡ false
  nowhere true n e = absurd (let z : ◌≡◌ {A = ℕ} 0 1 = cc in omega arith)
  nowhere false n e = refl

  pub none_is : position (λ s. test (of_six s)) (records_of ws) ≡ None → 16 ≡ first test (slots_of ws)
  none_is e =
      let n = position_or_len (λ s. test (of_six s)) (records_of ws) in
      let past : length (records_of ws) ≤ n = ltb-false n (length (records_of ws)) (nowhere _ n e) in
      let l = length_records ws in
      let full : 16 ≡ n = omega (arith, place_within (records_of ws)) in
      full ∙ place_is (records_of ws) ∙ ap (first test) (map_records ws)
