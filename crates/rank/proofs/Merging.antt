-- What inserting in turn makes, and what the test for a ranked list says: for `merge`, for `rank`, and for whoever ranks a
-- collection one candidate at a time.
use Prim.Native.Nat.{ℕ, ◌+◌, ◌-◌, ◌≤◌, ◌<◌}
use mathlib.Core.Path.{◌≡◌, refl, sym, ap, ◌∙◌, subst}
use mathlib.Core.List.{List, [], ◌∷◌, ◌++◌, append-nil}
use mathlib.Core.Bool.{true, false, not, ◌&&◌}
use native.Mathlib.Omega.{arith}
use lib.Dec.{eqb, leb}
use borrow.Author.Tests.{leb-true, le-leb, eqb-true, not-true}
use lib.ListN.{length, take, drop, get_or, length-take, get_or-append}
use lib.Seq.{take-append_seam, take_all, drop-drop, drop-append-add}
pub use Rattle.refusal.proofs.Limits.{port_bounds as port-sound}
pub use Rattle.laws.proofs.Bools.{both}
use Rattle.laws.proofs.Bools.{neither}
use Rattle.rank.specs.declared.Candidate.{Candidate}
use Rattle.rank.specs.declared.Ranked.{Ranked}
use Rattle.rank.specs.Order.{earlier_of}
use Rattle.rank.specs.Best.{sink, insert}
use Rattle.rank.specs.Ranked.{is_port, receiver_of, all_valid, rank_of, laid, blank_of, pack, unpack, left_out, sink_of, insert_of, insert_all, holds_of, leads_of, stands_of, in_rank, is_ranked}
use Rattle.rank.proofs.Best.{All, Good, Under, Away, Valid, cases, full, grows, under_trans, insert_late, rank, rank_step, rank_middle, rank_swap, rank_sorts, rank_all, rank_good, good_self}
use Rattle.rank.proofs.Order.{ordered}

-- the first four of a collection, by insertion in turn
abbrev pub R : List Candidate → List Candidate
R s = rank earlier_of receiver_of ordered 4 s

abbrev pub AllValid : List Candidate → Type 0
AllValid s = Valid earlier_of receiver_of ordered 18 s

-- it is the definition's
pub defined : (s : List Candidate) → AllValid s → R s ≡ rank_of s
defined s v = rank_sorts earlier_of receiver_of ordered 18 4 s v

pub short : (s : List Candidate) → length (R s) ≤ 4
short s = omega (arith, length-take 4 (full earlier_of receiver_of s))

pub unpack_pack : (l : List Candidate) → unpack (pack l) ≡ l
unpack_pack l = take-append_seam l (drop (length l) (pack []).slots)

-- a list laid over slots that hold a shorter one
laid_over : (l m slots : List Candidate) → length l ≤ length m → laid m (l ++ drop (length l) slots) ≡ laid m slots
laid_over l m slots h =
    let k = length m - length l in
    let e : length l + k ≡ length m = omega arith in
    let d : drop (length m) (l ++ drop (length l) slots) ≡ drop (length m) slots =
    subst (λ (n : ℕ). drop n (l ++ drop (length l) slots) ≡ drop n slots) e
    (drop-append-add l (drop (length l) slots) k ∙ drop-drop k (length l) slots) in
    rw d

sink_pack : (l : List Candidate) (y : Candidate) → length l ≤ 4 → sink_of (pack l) y ≡ pack (insert earlier_of receiver_of 4 y l)
sink_pack l y h =
    let m = insert earlier_of receiver_of 4 y l in
    rw (unpack_pack l)
    (laid_over l m (pack []).slots
    (omega (arith, length-take 4 (sink earlier_of receiver_of y.port y l), grows earlier_of receiver_of y.port y l)))

-- where a candidate is left out, going down the list would change nothing
insert_pack : (l : List Candidate) (y : Candidate) → length l ≤ 4 → Good earlier_of receiver_of l
    → insert_of (pack l) y ≡ pack (insert earlier_of receiver_of 4 y l)
insert_pack l y h g =
    cases (left_out (pack l) y)
    (λ t.
    let b = both (eqb (length l) 4) (not (earlier_of y (get_or (pack l).slots 3 blank_of))) t in
    let n = eqb-true (length l) 4 b.0 in
    let o : earlier_of y (get_or l 3 blank_of) ≡ false =
    subst (λ (z : Candidate). earlier_of y z ≡ false) (get_or-append l (drop (length l) (pack []).slots) blank_of 3 (omega arith))
    (not-true (earlier_of y (get_or (pack l).slots 3 blank_of)) b.1) in
    rw t (ap pack (sym (insert_late earlier_of receiver_of ordered 3 y blank_of l g n o))))
    (λ t. rw t (sink_pack l y h))

pub insert_rank : (y : Candidate) (s : List Candidate) → insert_of (pack (R s)) y ≡ pack (R (y ∷ s))
insert_rank y s =
    insert_pack (R s) y (short s) (rank_good earlier_of receiver_of ordered 4 s) ∙ ap pack (sym (rank_step earlier_of receiver_of ordered 4 y s))

insert_all_rank : (l s : List Candidate) → insert_all (pack (R s)) l ≡ pack (R (l ++ s))
insert_all_rank [] s = refl
insert_all_rank (y ∷ ys) s =
    ap (λ (r : Ranked). insert_all r ys) (insert_rank y s)
    ∙ insert_all_rank ys (y ∷ s)
    ∙ ap pack (rank_middle earlier_of receiver_of ordered 4 ys y s)

-- INSERTING A COLLECTION of valid candidates, one after the other, gives its ranked list
pub insert_every : (s : List Candidate) → AllValid s → insert_all (pack []) s ≡ pack (rank_of s)
insert_every s v = insert_all_rank s [] ∙ ap (λ (l : List Candidate). pack (R l)) (append-nil s) ∙ ap pack (defined s v)

-- WHAT THE TESTS SAY
port_complete : (p : ℕ) → 0 < p → p ≤ 18 → is_port p ≡ true
port_complete p h k = simp (le-leb 1 p h, le-leb p 18 k)

pub valid_sound : (l : List Candidate) → all_valid l ≡ true → AllValid l
valid_sound [] h = tt
valid_sound (x ∷ xs) h =
    let b = both (is_port x.port) (all_valid xs) h in (port-sound x.port b.0, valid_sound xs b.1)

holds_sound : (p : ℕ) (l : List Candidate) → holds_of p l ≡ false → Away earlier_of receiver_of p l
holds_sound p [] h = tt
holds_sound p (x ∷ xs) h = let b = neither (eqb x.port p) (holds_of p xs) h in (b.0, holds_sound p xs b.1)

holds_complete : (p : ℕ) (l : List Candidate) → Away earlier_of receiver_of p l → holds_of p l ≡ false
holds_complete p [] a = refl
holds_complete p (x ∷ xs) a = simp (a.0, holds_complete p xs a.1)

leads_sound : (x : Candidate) (l : List Candidate) → leads_of x l ≡ true → Good earlier_of receiver_of l → Under earlier_of receiver_of x l
leads_sound x [] h g = tt
leads_sound x (y ∷ ys) h g = (h, under_trans earlier_of receiver_of ordered x y ys h g.0)

leads_complete : (x : Candidate) (l : List Candidate) → Under earlier_of receiver_of x l → leads_of x l ≡ true
leads_complete x [] u = refl
leads_complete x (y ∷ ys) u = u.0

in_rank_sound : (l : List Candidate) → in_rank l ≡ true → Good earlier_of receiver_of l × AllValid l
in_rank_sound [] h = (tt, tt)
in_rank_sound (x ∷ xs) h =
    let a = both (stands_of (x ∷ xs)) (in_rank xs) h in
    let b = both (is_port x.port) (not (holds_of x.port xs) && leads_of x xs) a.0 in
    let d = both (not (holds_of x.port xs)) (leads_of x xs) b.1 in
    let r = in_rank_sound xs a.1 in (
      (leads_sound x xs d.1 r.0, holds_sound x.port xs (not-true (holds_of x.port xs) d.0), r.0),
      (port-sound x.port b.0, r.1),
    )

in_rank_complete : (l : List Candidate) → Good earlier_of receiver_of l → AllValid l → in_rank l ≡ true
in_rank_complete [] g v = refl
in_rank_complete (x ∷ xs) g v =
    rw (port_complete x.port v.0.0 v.0.1, holds_complete x.port xs g.1, leads_complete x xs g.0)
    (in_rank_complete xs g.2 v.1)

-- the entries of a list that passes are valid
pub ranked_valid : (r : Ranked) → is_ranked r ≡ true → AllValid (unpack r)
ranked_valid r h = (in_rank_sound (unpack r) (both (leb r.len 4) (in_rank (unpack r)) h).1).1

-- EVERY LIST THAT PASSES IS THE RANKED LIST OF ITSELF
pub ranked_self : (r : Ranked) → is_ranked r ≡ true → rank_of (unpack r) ≡ unpack r
ranked_self r h =
    let b = both (leb r.len 4) (in_rank (unpack r)) h in
    let s = in_rank_sound (unpack r) b.1 in
    sym (defined (unpack r) s.1)
    ∙ ap (take 4) (good_self earlier_of receiver_of (unpack r) s.0)
    ∙ take_all 4 (unpack r) (omega (arith, length-take r.len r.slots, leb-true r.len 4 b.0))

pub valid_rank : (s : List Candidate) → AllValid s → AllValid (R s)
valid_rank s v = rank_all earlier_of receiver_of ordered 4 _ s v

-- EVERY RANKED LIST OF VALID CANDIDATES PASSES
pub ranked_passes : (s : List Candidate) → AllValid s → is_ranked (pack (rank_of s)) ≡ true
ranked_passes s v =
    subst (λ (l : List Candidate). is_ranked (pack l) ≡ true) (defined s v)
    (rw (le-leb (length (R s)) 4 (short s), unpack_pack (R s))
    (in_rank_complete (R s) (rank_good earlier_of receiver_of ordered 4 s) (valid_rank s v)))

pub all_append : (P : Candidate → Type 0) (s t : List Candidate) → All P s → All P t → All P (s ++ t)
all_append P [] t h k = k
all_append P (x ∷ xs) t h k = (h.0, all_append P xs t h.1 k)

-- what `merge` makes of two lists that pass
pub merged : (a b : Ranked) → is_ranked a ≡ true → is_ranked b ≡ true
    → insert_all (pack (unpack a)) (unpack b) ≡ pack (rank_of (unpack a ++ unpack b))
merged a b ha hb =
    ap (λ (l : List Candidate). insert_all (pack l) (unpack b)) (sym (ranked_self a ha) ∙ sym (defined (unpack a) (ranked_valid a ha)))
    ∙ insert_all_rank (unpack b) (unpack a)
    ∙ ap pack (rank_swap earlier_of receiver_of ordered 4 (unpack b) (unpack a))
    ∙ ap pack (defined (unpack a ++ unpack b) (all_append _ (unpack a) (unpack b) (ranked_valid a ha) (ranked_valid b hb)))
