-- Demand 3 and what follows from it, in the words of the calls: `ranking_of` is what ranking a run answers, `merge_of` what
-- merging two lists answers.
use Rattle.std.specs.Prelude.{Result}
use Prim.Native.Nat.{◌≤◌}
use mathlib.Core.Path.{◌≡◌, refl, sym, ap, ap₂, ◌∙◌}
use mathlib.Core.List.{List, [], ◌∷◌, ◌++◌, append-nil, append_assoc, Memᴰ}
use mathlib.Core.Bool.{true}
use native.Mathlib.Omega.{arith}
use borrow.Author.Tests.{le-ltb}
use lib.Dec.{ltb}
use lib.ListN.{length, take, length-append}
use Rattle.refusal.specs.Choice.{refuse}
use Rattle.refusal.specs.declared.Refusal.{Refusal}
use Rattle.rank.specs.declared.Candidate.{Candidate}
use Rattle.rank.specs.declared.Ranked.{Ranked}
use Rattle.rank.specs.Order.{earlier_of}
use Rattle.rank.specs.Best.{sort}
use Rattle.rank.specs.Ranked.{is_port, receiver_of, all_valid, rank_of, pack, unpack, is_ranked}
use Rattle.rank.specs.Calls.{done_of, ranking_of, merge_of, list_of}
use Rattle.rank.proofs.Best.{cases, bests_same, rank_merge, rank_swap, rank_twice}
use Rattle.rank.proofs.Order.{ordered}
use Rattle.rank.proofs.Merging.{R, AllValid, defined, unpack_pack, both, valid_sound, ranked_valid, ranked_self, ranked_passes, valid_rank, all_append}

-- WHAT IS IN A COLLECTION decides, neither its order nor its repeats
pub record Same (s t : List Candidate) : Type 0 where
  pub forth : (c : Candidate) → Memᴰ c s → Memᴰ c t
  pub back : (c : Candidate) → Memᴰ c t → Memᴰ c s

pub any_order : (s t : List Candidate) → Same s t → rank_of s ≡ rank_of t
any_order s t h = ap (λ (l : List Candidate). take 4 (sort earlier_of receiver_of l)) (bests_same earlier_of receiver_of ordered 18 s t h.forth h.back)

valid_in : (s : List Candidate) (c : Candidate) → all_valid s ≡ true → Memᴰ c s → is_port c.port ≡ true
valid_in [] c h m = absurd (elim m [ ])
valid_in (x ∷ xs) c h (Memᴰ.head e) = rw e (both (is_port x.port) (all_valid xs) h).0
valid_in (x ∷ xs) c h (Memᴰ.tail m) = valid_in xs c (both (is_port x.port) (all_valid xs) h).1 m

valid_of : (s : List Candidate) → ((c : Candidate) → Memᴰ c s → is_port c.port ≡ true) → all_valid s ≡ true
valid_of [] h = refl
valid_of (x ∷ xs) h = rw (h x (Memᴰ.head refl)) (valid_of xs (λ c m. h c (Memᴰ.tail m)))

same_valid : (s t : List Candidate) → Same s t → all_valid s ≡ all_valid t
same_valid s t h =
    cases (all_valid s)
    (λ e. e ∙ sym (valid_of t (λ c m. valid_in s c e (h.back c m))))
    (λ e.
    cases (all_valid t)
    (λ f. valid_of s (λ c m. valid_in t c f (h.forth c m)) ∙ sym f)
    (λ f. e ∙ sym f))

-- two runs of the same candidates, both too long or neither, get the same answer
pub same_answer : (s t : List Candidate) → Same s t → ltb 288 (length s) ≡ ltb 288 (length t) → ranking_of s ≡ ranking_of t
same_answer s t h e = rw (e, same_valid s t h, any_order s t h)

-- a run of valid candidates, not too long, is ranked
pub ranked : (s : List Candidate) → all_valid s ≡ true → length s ≤ 288 → ranking_of s ≡ done_of (rank_of s)
unfolding refuse
ranked s v few = rw (le-ltb 288 (length s) few, v)

-- EVERY LIST THAT RANKING GIVES IS A RANKED LIST, the empty one beside a refusal too
pub ranking_passes : (s : List Candidate) → is_ranked (list_of (ranking_of s)) ≡ true
unfolding refuse
ranking_passes s =
    cases (ltb 288 (length s))
    (λ e. simp e)
    (λ e. cases (all_valid s) (λ v. simp (e, v) (ranked_passes s (valid_sound s v))) (λ v. simp (e, v)))

-- merging two ranked lists
merges : (a b : Ranked) → is_ranked a ≡ true → is_ranked b ≡ true → merge_of a b ≡ done_of (rank_of (unpack a ++ unpack b))
unfolding refuse
merges a b ha hb = rw (ha, hb)

pub valid_append : (s t : List Candidate) → all_valid s ≡ true → all_valid t ≡ true → all_valid (s ++ t) ≡ true
valid_append [] t h k = k
valid_append (x ∷ xs) t h k =
    let b = both (is_port x.port) (all_valid xs) h in rw b.0 (valid_append xs t b.1 k)

-- the laws on lists: of valid collections
module _ (s t : List Candidate) (vs : AllValid s) (vt : AllValid t) where
  rank_of_ranks : rank_of (rank_of s ++ rank_of t) ≡ rank_of (s ++ t)
  rank_of_ranks =
      rw (← defined s vs, ← defined t vt, ← defined (R s ++ R t) (all_append _ (R s) (R t) (valid_rank s vs) (valid_rank t vt)), ← defined (s ++ t) (all_append _ s t vs vt))
      (rank_merge earlier_of receiver_of ordered 4 s t)

  rank_comm : rank_of (s ++ t) ≡ rank_of (t ++ s)
  rank_comm =
      rw (← defined (s ++ t) (all_append _ s t vs vt), ← defined (t ++ s) (all_append _ t s vt vs))
      (rank_swap earlier_of receiver_of ordered 4 s t)

  -- what merging makes of two collections' ranked lists
  pub merge_of_ranks : merge_of (pack (rank_of s)) (pack (rank_of t)) ≡ done_of (rank_of (s ++ t))
  merge_of_ranks =
      merges (pack (rank_of s)) (pack (rank_of t)) (ranked_passes s vs) (ranked_passes t vt)
      ∙ ap done_of (ap₂ (λ (x y : List Candidate). rank_of (x ++ y)) (unpack_pack (rank_of s)) (unpack_pack (rank_of t)) ∙ rank_of_ranks)

-- DEMAND 3: for any two collections of valid candidates, together at most 288, merging their ranked lists gives exactly
-- the ranked list of both together
pub demand_3 : (s t : List Candidate) → all_valid s ≡ true → all_valid t ≡ true → length (s ++ t) ≤ 288
    → merge_of (list_of (ranking_of s)) (list_of (ranking_of t)) ≡ ranking_of (s ++ t)
demand_3 s t vs vt few =
    let n = length-append s t in
    rw (ranked s vs (omega arith), ranked t vt (omega arith), ranked (s ++ t) (valid_append s t vs vt) few)
    (merge_of_ranks s t (valid_sound s vs) (valid_sound t vt))

-- the order in which two lists come does not matter, even where one is refused
pub merge_order : (a b : Ranked) → merge_of a b ≡ merge_of b a
unfolding refuse
merge_order a b =
    cases (is_ranked a)
    (λ ha.
    cases (is_ranked b)
    (λ hb. rw (ha, hb) (ap done_of (rank_comm (unpack a) (unpack b) (ranked_valid a ha) (ranked_valid b hb))))
    (λ hb. rw (ha, hb)))
    (λ ha. cases (is_ranked b) (λ hb. rw (ha, hb)) (λ hb. rw (ha, hb)))

rank_idem : (s : List Candidate) → AllValid s → rank_of (s ++ s) ≡ rank_of s
rank_idem s v = rw (← defined (s ++ s) (all_append _ s s v v), ← defined s v) (rank_twice earlier_of receiver_of ordered 4 s)

-- a ranked list merged with itself, or with the empty one, is that list
pub merge_twice : (a : Ranked) → is_ranked a ≡ true → merge_of a a ≡ done_of (unpack a)
merge_twice a h =
    merges a a h h ∙ ap done_of (rank_idem (unpack a) (ranked_valid a h) ∙ ranked_self a h)

pub merge_empty : (a : Ranked) → is_ranked a ≡ true → merge_of a (pack []) ≡ done_of (unpack a)
merge_empty a h = merges a (pack []) h refl ∙ ap done_of (ap rank_of (append-nil (unpack a)) ∙ ranked_self a h)

-- how three lists are grouped does not matter
module _ (a b c : Ranked) (ha : is_ranked a ≡ true) (hb : is_ranked b ≡ true) (hc : is_ranked c ≡ true) where
  va : AllValid (unpack a)
  va = ranked_valid a ha

  vb : AllValid (unpack b)
  vb = ranked_valid b hb

  vc : AllValid (unpack c)
  vc = ranked_valid c hc

  left : merge_of (list_of (merge_of a b)) c ≡ done_of (rank_of ((unpack a ++ unpack b) ++ unpack c))
  left =
      let vab = all_append _ (unpack a) (unpack b) va vb in
      rw (merges a b ha hb)
      (merges (pack (rank_of (unpack a ++ unpack b))) c (ranked_passes (unpack a ++ unpack b) vab) hc
      ∙ ap done_of
      (ap₂ (λ (x y : List Candidate). rank_of (x ++ y)) (unpack_pack (rank_of (unpack a ++ unpack b))) (sym (ranked_self c hc))
      ∙ rank_of_ranks (unpack a ++ unpack b) (unpack c) vab vc))

  right : merge_of a (list_of (merge_of b c)) ≡ done_of (rank_of (unpack a ++ (unpack b ++ unpack c)))
  right =
      let vbc = all_append _ (unpack b) (unpack c) vb vc in
      rw (merges b c hb hc)
      (merges a (pack (rank_of (unpack b ++ unpack c))) ha (ranked_passes (unpack b ++ unpack c) vbc)
      ∙ ap done_of
      (ap₂ (λ (x y : List Candidate). rank_of (x ++ y)) (sym (ranked_self a ha)) (unpack_pack (rank_of (unpack b ++ unpack c)))
      ∙ rank_of_ranks (unpack a) (unpack b ++ unpack c) va vbc))

  pub merge_grouping : merge_of (list_of (merge_of a b)) c ≡ merge_of a (list_of (merge_of b c))
  merge_grouping = left ∙ ap (λ (l : List Candidate). done_of (rank_of l)) (append_assoc (unpack a) (unpack b) (unpack c)) ∙ sym right

-- CARDS IN A TREE: each ranks what it heard, and lists merge upward
pub data Cards : Type 0 where
  card : List Candidate → Cards
  join : Cards → Cards → Cards

abbrev pub heard : Cards → List Candidate
heard (card s) = s
heard (join l r) = heard l ++ heard r

abbrev pub gathered : Cards → Result Ranked Refusal
gathered (card s) = ranking_of s
gathered (join l r) = merge_of (list_of (gathered l)) (list_of (gathered r))

valid_left : (s t : List Candidate) → all_valid (s ++ t) ≡ true → all_valid s ≡ true
valid_left [] t h = refl
valid_left (x ∷ xs) t h = let b = both (is_port x.port) (all_valid (xs ++ t)) h in rw b.0 (valid_left xs t b.1)

valid_right : (s t : List Candidate) → all_valid (s ++ t) ≡ true → all_valid t ≡ true
valid_right [] t h = h
valid_right (x ∷ xs) t h = valid_right xs t (both (is_port x.port) (all_valid (xs ++ t)) h).1

-- whatever the tree, what comes out at the top is the ranked list of everything that was heard
pub any_tree : (t : Cards) → all_valid (heard t) ≡ true → length (heard t) ≤ 288 → gathered t ≡ ranking_of (heard t)
any_tree (card s) v few = refl
any_tree (join l r) v few =
    let vl = valid_left (heard l) (heard r) v in
    let vr = valid_right (heard l) (heard r) v in
    let n = length-append (heard l) (heard r) in
    rw (any_tree l vl (omega arith), any_tree r vr (omega arith)) (demand_3 (heard l) (heard r) vl vr few)

-- so two trees that heard the same candidates, however they are grouped, ordered and repeated, give the same list
pub any_grouping : (t u : Cards) → Same (heard t) (heard u) → all_valid (heard t) ≡ true → length (heard t) ≤ 288 → length (heard u) ≤ 288
    → gathered t ≡ gathered u
any_grouping t u h v few few' =
    any_tree t v few
    ∙ same_answer (heard t) (heard u) h (le-ltb 288 (length (heard t)) few ∙ sym (le-ltb 288 (length (heard u)) few'))
    ∙ sym (any_tree u (sym (same_valid (heard t) (heard u) h) ∙ v) few')
