-- Blocks as they are made: what stands in an open block after each record that is added, and that a block which is closed is read as it was
-- made: its number, and record by record.
use Prim.Native.Nat.{ℕ, zero, suc, ◌+◌, ◌-◌, ◌*◌, ◌/◌, ◌%◌, ◌^◌, ◌<◌, ◌≤◌}
use mathlib.Core.Path.{◌≡◌, refl, sym, ap, ◌∙◌}
use mathlib.Core.List.{List, [], ◌∷◌, ◌++◌, append_assoc}
use native.Mathlib.Omega.{arith}
use native.Mathlib.Nat.{add_assoc, add-zero}
use lib.ListN.{length, take, drop, get_or, replicate, length-append, length-replicate, replicate-append-replicate}
use lib.Seq.{take-append_seam, drop-append-add, drop-append_seam, drop_at, drop-drop, get_or-drop}
use Rattle.octets.specs.Be.{be, octets_of}
use Rattle.octets.proofs.Laws.{Octets, be_octets, be_drop}
use Rattle.stores.specs.Stores.{over}
use Rattle.block.specs.Layout.{block_octets, records_at, head_octets, Entry, number_of, first_time_of, count_of, time_at, port_at, length_at, message_at, entry_at, end_at, entries_from, entries_of}
use Rattle.block.specs.Check.{check_for}
use Rattle.block.specs.Making.{entry_octets, size_of, opened_of, added_to, sealed, entries_octets, sizes_of, first_of, open_block, block_of, EntryFits, All}

-- ---- RUNS OF ZEROS
drop_zeros : (n k : ℕ) → k ≤ n → drop k (replicate {A = ℕ} n 0) ≡ replicate (n - k) 0
drop_zeros n k h =
    let e : k + (n - k) ≡ n = omega arith in
    ap (λ (m : ℕ). drop k (replicate {A = ℕ} m 0)) (sym e)
    ∙ ap (drop k) (sym (replicate-append-replicate {A = ℕ} k (n - k) 0))
    ∙ drop_at (replicate k 0) (replicate (n - k) 0) k (length-replicate {A = ℕ} k 0)

-- ---- NUMBERS
-- the number of w octets at k is the one that was put there
number_at : (w : ℕ) (s : List ℕ) (k v : ℕ) (rest : List ℕ) → drop k s ≡ octets_of w v rest → v < 256 ^ w → be w s k ≡ v
number_at w s k v rest here h =
    ap (be w s) (sym (add-zero k)) ∙ sym (be_drop w k s 0) ∙ ap (λ (l : List ℕ). be w l 0) here ∙ be_octets w v rest h

-- ---- ONE RECORD ADDED
-- an open block's head of sixteen octets, before what follows
abbrev headed : ℕ → ℕ → ℕ → List ℕ → List ℕ
headed n t c rest = 0 ∷ 0 ∷ octets_of 4 n (octets_of 8 t (octets_of 2 c rest))

entry_append : (e : Entry) (a b : List ℕ) → entry_octets e a ++ b ≡ entry_octets e (a ++ b)
entry_append e a b = ap (λ (l : List ℕ). octets_of 8 e.time (e.port ∷ octets_of 2 (length e.message) l)) (append_assoc e.message a b)

entry_length : (e : Entry) (rest : List ℕ) → length (entry_octets e rest) ≡ size_of e + length rest
entry_length e rest = omega (arith, length-append e.message rest)

-- octets put right behind the first ones
put_behind : (p r x : List ℕ) (at : ℕ) → length p ≡ at → over (p ++ r) at x ≡ p ++ (x ++ drop (length x) r)
put_behind p r x at h = rw (← h, take-append_seam, drop-append-add, append_assoc)

-- a record added right behind the octets b, where zeros follow: they are fewer then, and the count is one more
added_head : (n t c : ℕ) (b : List ℕ) (z : ℕ) (e : Entry) → c < 65536 → size_of e ≤ z
    → added_to (headed n t c (b ++ replicate z 0)) (16 + length b) e ≡ headed n t (suc c) (b ++ entry_octets e (replicate (z - size_of e) 0))
unfolding added_to
added_head n t c b z e h k =
    let r = replicate {A = ℕ} z 0 in
    let x = entry_octets e [] in
    let l : length x ≡ size_of e = omega (arith, entry_length e []) in
    ap (λ (m : ℕ). over (headed n t (suc m) (b ++ r)) (16 + length b) x) (number_at 2 (headed n t c (b ++ r)) 14 c (b ++ r) refl h)
    ∙ put_behind (headed n t (suc c) b) r x (16 + length b) (omega arith)
    ∙ ap (λ (m : ℕ). headed n t (suc c) (b ++ (x ++ drop m r))) l
    ∙ ap (λ (m : List ℕ). headed n t (suc c) (b ++ (x ++ m))) (drop_zeros z (size_of e) k)
    ∙ ap (λ (m : List ℕ). headed n t (suc c) (b ++ m)) (entry_append e [] (replicate (z - size_of e) 0))

-- ---- SEVERAL RECORDS
entries_length : (es : List Entry) (rest : List ℕ) → length (entries_octets es rest) ≡ sizes_of es + length rest
unfolding entries_octets sizes_of
entries_length [] rest = omega arith
entries_length (e ∷ es) rest = omega (arith, entry_length e (entries_octets es rest), entries_length es rest)

entries_append : (es : List Entry) (a b : List ℕ) → entries_octets es a ++ b ≡ entries_octets es (a ++ b)
unfolding entries_octets
entries_append [] a b = refl
entries_append (e ∷ es) a b = entry_append e (entries_octets es a) b ∙ ap (entry_octets e) (entries_append es a b)

entries_snoc : (es : List Entry) (e : Entry) (rest : List ℕ) → entries_octets (es ++ (e ∷ [])) rest ≡ entries_octets es (entry_octets e rest)
unfolding entries_octets
entries_snoc [] e rest = refl
entries_snoc (d ∷ es) e rest = ap (entry_octets d) (entries_snoc es e rest)

pub sizes_snoc : (es : List Entry) (e : Entry) → sizes_of (es ++ (e ∷ [])) ≡ sizes_of es + size_of e
unfolding sizes_of
sizes_snoc [] e = omega arith
sizes_snoc (d ∷ es) e = omega (arith, sizes_snoc es e)

-- each has eleven octets at least, so that there are few of them
pub sizes_count : (es : List Entry) → 11 * length es ≤ sizes_of es
unfolding sizes_of
sizes_count [] = omega arith
sizes_count (e ∷ es) = omega (arith, sizes_count es)

length_snoc : (es : List Entry) (e : Entry) → suc (length es) ≡ length (es ++ (e ∷ []))
length_snoc es e = omega (arith, length-append es (e ∷ []))

first_snoc : (es : List Entry) (e : Entry) → 0 < length es → first_of (es ++ (e ∷ [])) ≡ first_of es
first_snoc [] e h = absurd (omega arith)
first_snoc (d ∷ es) e h = refl

-- ---- AN OPEN BLOCK
-- the first record
pub added_opened : (n : ℕ) (e : Entry) → size_of e ≤ 496 → added_to (opened_of n e.time) 16 e ≡ open_block n (e ∷ [])
unfolding entries_octets sizes_of
added_opened n e h =
    let z : 496 - size_of e ≡ 496 - (size_of e + 0) = omega arith in
    added_head n e.time 0 [] 496 e (omega arith) h ∙ ap (λ (m : ℕ). headed n e.time 1 (entry_octets e (replicate m 0))) z

-- one more
pub added_more : (n : ℕ) (es : List Entry) (e : Entry) → 0 < length es → records_at + (sizes_of es + size_of e) ≤ block_octets
    → added_to (open_block n es) (records_at + sizes_of es) e ≡ open_block n (es ++ (e ∷ []))
added_more n es e h k =
    let b = entries_octets es [] in
    let z = 496 - sizes_of es in
    let l : 16 + length b ≡ 16 + sizes_of es = omega (arith, entries_length es []) in
    let m : length es < 65536 = omega (arith, sizes_count es) in
    let r : z - size_of e ≡ 496 - sizes_of (es ++ (e ∷ [])) = omega (arith, sizes_snoc es e) in
    let x : List ℕ = replicate (z - size_of e) 0 in
    ap (λ (v : List ℕ). added_to (headed n (first_of es) (length es) v) (16 + sizes_of es) e) (sym (entries_append es [] (replicate z 0)))
    ∙ ap (λ (v : ℕ). added_to (headed n (first_of es) (length es) (b ++ replicate z 0)) v e) (sym l)
    ∙ added_head n (first_of es) (length es) b z e m (omega arith)
    ∙ (λ i. headed n (sym (first_snoc es e h) i) (length_snoc es e i) ((entries_append es [] (entry_octets e x) ∙ sym (entries_snoc es e x)) i))
    ∙ ap (λ (v : ℕ). headed n (first_of (es ++ (e ∷ []))) (length (es ++ (e ∷ []))) (entries_octets (es ++ (e ∷ [])) (replicate v 0))) r

-- ---- RECORDS READ
-- the record that stands at k of s, before what follows it: read it is the same, and it ends where that begins
module _ (s : List ℕ) (k : ℕ) (e : Entry) (rest : List ℕ) (here : drop k s ≡ entry_octets e rest) (size : length e.message < 65536) where
  length_read : length_at s k ≡ length e.message
  length_read = number_at 2 s (k + 9) (length e.message) (e.message ++ rest) (sym (drop-drop 9 k s) ∙ ap (drop 9) here) size

  pub end_read : end_at s k ≡ k + size_of e
  end_read = ap (λ (n : ℕ). k + (head_octets + n)) length_read

  pub port_read : port_at s k ≡ e.port
  port_read = sym (get_or-drop k s 8 0) ∙ ap (λ (l : List ℕ). get_or l 8 0) here

  time_read : e.time < 18446744073709551616 → time_at s k ≡ e.time
  time_read h = number_at 8 s k e.time _ here h

  message_here : drop (k + head_octets) s ≡ e.message ++ rest
  message_here = sym (drop-drop head_octets k s) ∙ ap (drop head_octets) here

  message_read : message_at s k ≡ e.message
  message_read = (λ i. take (length_read i) (message_here i)) ∙ take-append_seam e.message rest

  entry_read : EntryFits e → entry_at s k ≡ e
  entry_read f = λ i. record { time = time_read f.time i; port = port_read i; message = message_read i }

  pub then : drop (end_at s k) s ≡ rest
  then =
      ap (λ (n : ℕ). drop n s) (end_read ∙ sym (add_assoc k head_octets (length e.message)))
      ∙ sym (drop-drop (length e.message) (k + head_octets) s)
      ∙ ap (drop (length e.message)) message_here
      ∙ drop-append_seam e.message rest

-- several, one behind the other: read they are the same
module _ (s : List ℕ) (rest : List ℕ) where
  entries_read : (es : List Entry) (k : ℕ) → drop k s ≡ entries_octets es rest → sizes_of es < 65536 → All EntryFits es → entries_from (length es) s k ≡ es
  unfolding entries_from entries_octets sizes_of
  entries_read [] k here size fits = refl
  entries_read (e ∷ es) k here size fits =
      let l : length e.message < 65536 = omega arith in
      let r = entries_octets es rest in
      λ i. entry_read s k e r here l fits.0 i ∷ entries_read es (end_at s k) (then s k e r here l) (omega arith) fits.1 i

-- the first one's time
pub first_read : (s rest : List ℕ) (es : List Entry) (k : ℕ) → drop k s ≡ entries_octets es rest → sizes_of es < 65536 → All EntryFits es → 0 < length es
    → (time_at s k ≡ first_of es) × (first_of es < 18446744073709551616)
unfolding entries_octets sizes_of
first_read s rest [] k here size fits some = absurd (omega arith)
first_read s rest (e ∷ es) k here size fits some = (time_read s k e (entries_octets es rest) here (omega arith) fits.0.time, fits.0.time)

-- ---- OCTETS
octets_cons : (x : ℕ) (s : List ℕ) → x < 256 → Octets s → Octets (x ∷ s)
octets_cons x s h o zero = h
octets_cons x s h o (suc k) = o k

octets_of_lem : (n v : ℕ) (s : List ℕ) → Octets s → Octets (octets_of n v s)
octets_of_lem zero v s o = o
octets_of_lem (suc n) v s o = octets_of_lem n (v / 256) (v % 256 ∷ s) (octets_cons (v % 256) s (omega arith) o)

octets_append : (a s : List ℕ) → Octets a → Octets s → Octets (a ++ s)
octets_append [] s p o = o
octets_append (x ∷ a) s p o = octets_cons x (a ++ s) (p 0) (octets_append a s (λ k. p (suc k)) o)

zeros_octets : (n : ℕ) → Octets (replicate n 0)
zeros_octets zero = λ k. omega arith
zeros_octets (suc n) = octets_cons 0 (replicate n 0) (omega arith) (zeros_octets n)

entries_octets_lem : (es : List Entry) (rest : List ℕ) → All EntryFits es → Octets rest → Octets (entries_octets es rest)
unfolding entries_octets
entries_octets_lem [] rest fits o = o
entries_octets_lem (e ∷ es) rest fits o =
    let m = e.message ++ entries_octets es rest in
    let l = octets_of 2 (length e.message) m in
    octets_of_lem 8 e.time (e.port ∷ l)
    (octets_cons e.port l fits.0.port
    (octets_of_lem 2 (length e.message) m (octets_append e.message (entries_octets es rest) fits.0.octets (entries_octets_lem es rest fits.1 o))))

-- ---- A BLOCK
-- closed: the check changes its first two octets alone
module _ (n : ℕ) (es : List Entry) (size : sizes_of es ≤ 496) where
  abbrev pub zeros_of : List ℕ
  zeros_of = replicate (496 - sizes_of es) 0

  pub open_length : length (open_block n es) ≡ block_octets
  open_length = omega (arith, entries_length es zeros_of, length-replicate {A = ℕ} (496 - sizes_of es) 0)

  pub block_length : length (block_of n es) ≡ block_octets
  unfolding sealed
  block_length = open_length

  pub block_number : n < 4294967296 → number_of (block_of n es) ≡ n
  unfolding sealed
  block_number h = number_at 4 (block_of n es) 2 n _ refl h

  pub block_count : count_of (block_of n es) ≡ length es
  unfolding sealed
  block_count = number_at 2 (block_of n es) 14 (length es) _ refl (omega (arith, sizes_count es))

  pub block_first : first_of es < 18446744073709551616 → first_time_of (block_of n es) ≡ first_of es
  unfolding sealed
  block_first h = number_at 8 (block_of n es) 6 (first_of es) _ refl h

  pub behind_head : drop records_at (block_of n es) ≡ entries_octets es zeros_of
  unfolding sealed
  behind_head = refl

  module _ (fits : All EntryFits es) where
    -- the records are those that it was made of
    pub block_entries : entries_of (block_of n es) ≡ es
    block_entries =
        ap (λ (c : ℕ). entries_from c (block_of n es) records_at) block_count
        ∙ entries_read (block_of n es) zeros_of es records_at behind_head (omega arith) fits

    -- it is octets
    pub block_octets_lem : Octets (block_of n es)
    unfolding sealed
    block_octets_lem =
        let r = entries_octets es zeros_of in
        let c = octets_of 2 (length es) r in
        let t = octets_of 8 (first_of es) c in
        octets_of_lem 2 (check_for (open_block n es)) (octets_of 4 n t)
        (octets_of_lem 4 n t
        (octets_of_lem 8 (first_of es) c (octets_of_lem 2 (length es) r (entries_octets_lem es zeros_of fits (zeros_octets (496 - sizes_of es))))))
